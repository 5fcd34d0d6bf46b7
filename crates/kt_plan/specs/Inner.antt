-- Definitions for private functions. No public clause cites them.
pub mod Collecting
pub mod Configuring
pub mod Planning
