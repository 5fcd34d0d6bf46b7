pub mod Common
pub mod FailedOpen
pub mod Inner
