-- Definitions that only private functions cite.
pub mod Cursors
pub mod Edits
pub mod Known
pub mod NewFiles
pub mod Opening
pub mod EmptyFiles
