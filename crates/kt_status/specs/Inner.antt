-- Definitions that only private functions cite: the verdict tables as functions.
pub mod Verdicts
