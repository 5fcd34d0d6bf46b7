-- Definitions that follow the bodies of private functions. No public clause cites them.
pub mod LineStates
pub mod ResultReading
pub mod TapReading
