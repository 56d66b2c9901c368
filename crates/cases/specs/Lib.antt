pub mod Verdicts
pub mod Walks
