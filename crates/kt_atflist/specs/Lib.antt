pub mod Common
pub mod BlockLines
pub mod Blocks
pub mod Cases
pub mod Inner
pub mod Listings
pub mod ReaderState
pub mod CaseList
