-- Definitions that only private functions cite.
pub mod Layers
pub mod Rows
