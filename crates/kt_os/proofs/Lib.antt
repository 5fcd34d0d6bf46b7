pub mod Common
pub mod HostReads
pub mod HostStandings
pub mod HostSteps
pub mod ProgramSearch
