-- The reads and the removal after a child has finished.
pub mod Ends
pub mod Gathering
pub mod Parts
pub mod Reads
