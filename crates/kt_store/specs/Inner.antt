-- Definitions for private functions, and for functions that are public for kt_dbfile alone. No
-- other public clause cites them.
pub mod Ask
pub mod Fault
pub mod Heads
pub mod Kept
pub mod Runs
pub mod Transactions
