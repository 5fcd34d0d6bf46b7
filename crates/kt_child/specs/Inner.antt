-- Definitions for private functions. No public clause cites them.
pub mod Children
pub mod Started
