-- Definitions for private functions. No public clause cites them.
pub mod Host
pub mod HostFiles
pub mod Variables
