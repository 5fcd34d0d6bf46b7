-- The interface to the system: the trait, its values, and the clock.
pub mod Calls
pub mod Moments
pub mod Reads
