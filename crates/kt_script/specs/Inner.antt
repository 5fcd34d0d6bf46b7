-- Definitions that only private functions cite: how the code reads a text.
pub mod Pieces
pub mod Words
pub mod Strings
pub mod Comments
pub mod Tokens
pub mod Automaton
pub mod Reading
