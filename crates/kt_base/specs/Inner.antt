-- Definitions that only private functions cite.
pub mod Pairs
pub mod ReasonParts
