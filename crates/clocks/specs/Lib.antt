pub mod Gaps
pub mod Readings
