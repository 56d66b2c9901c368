pub mod Counts
pub mod Meeting
pub mod Stepping
pub mod Walked
