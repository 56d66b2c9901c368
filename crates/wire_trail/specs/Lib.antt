pub mod StepFormat
pub mod Trails
pub mod Words
