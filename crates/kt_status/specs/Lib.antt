pub mod Common
pub mod Inner
pub mod Tables
