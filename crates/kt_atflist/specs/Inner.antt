-- Definitions that only private functions cite: how the code reads a list, line by line.
pub mod Keys
pub mod Reading
