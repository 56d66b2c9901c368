pub mod Exact
pub mod Gaps
pub mod Matrices
pub mod Readings
pub mod Sets
