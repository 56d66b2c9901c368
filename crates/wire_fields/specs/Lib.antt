pub mod Faults
pub mod Readers
pub mod Reading
