-- The driver: starts children, waits for them and lists test cases.
pub mod DriverState
pub mod ChildrenState
pub mod DriverSteps
pub mod JobPlan
pub mod Lists
pub mod Numbers
pub mod Roots
pub mod Runs
pub mod Starting
