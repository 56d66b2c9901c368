pub mod CoverFormat
pub mod Covers
