pub mod Common
pub mod Bytes
pub mod ClaimReaderState
pub mod Inner
pub mod ResultFile
pub mod TapReaderState
pub mod TapStream
