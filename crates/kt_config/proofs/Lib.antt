pub mod Common
pub mod Puttings
pub mod Entries
pub mod Adding
pub mod Answering
