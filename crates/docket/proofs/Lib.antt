pub mod Counts
pub mod Faults
pub mod Rows
pub mod Steps
pub mod Sweeps
pub mod Worlds
