-- Definitions of the limits and the paths of removals.
pub mod Bounds
pub mod Removals
