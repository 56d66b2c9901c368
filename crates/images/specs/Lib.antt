pub mod Departures
pub mod Gaps
