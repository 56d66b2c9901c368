pub mod Lines
pub mod Notes
