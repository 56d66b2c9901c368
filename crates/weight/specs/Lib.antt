pub mod Bounds
pub mod Closing
pub mod Limits
pub mod Signs
pub mod Weights
pub mod Limited
