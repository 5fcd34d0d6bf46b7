pub mod Common
pub mod FaultMessages
pub mod Forms
pub mod Names
pub mod Values
pub mod Holding
pub mod Reading
pub mod Inner
