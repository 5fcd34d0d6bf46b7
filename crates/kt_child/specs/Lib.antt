pub mod Common
pub mod Driving
pub mod Ending
pub mod Inner
pub mod Planning
pub mod Polling
pub mod Types
