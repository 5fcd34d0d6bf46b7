-- The implementation of `Os` with the processes, files and clocks of the standard library.
pub mod HostAnswers
pub mod ProcessStates
pub mod Lateness
