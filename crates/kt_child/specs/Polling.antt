-- Polls of the running children, in rounds.
pub mod ChildOutcome
pub mod Polls
pub mod Rounds
