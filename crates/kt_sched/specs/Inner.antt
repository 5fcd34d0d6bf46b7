-- Definitions for private functions. No public clause cites them.
pub mod Answers
pub mod Cases
pub mod Choice
