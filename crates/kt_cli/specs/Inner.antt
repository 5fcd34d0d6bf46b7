-- Definitions that only private functions cite.
pub mod Courses
pub mod Debugging
pub mod FaultLines
pub mod Pages
pub mod Recording
pub mod Recordings
pub mod Reports
pub mod Shown
pub mod StoredDetails
pub mod Stores
pub mod Testing
