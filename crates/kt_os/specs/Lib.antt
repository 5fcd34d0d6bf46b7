pub mod Around
pub mod Common
pub mod Host
pub mod Inner
pub mod Machines
pub mod System
pub mod Types
