pub mod Codes
pub mod Images
pub mod Matrix
pub mod Passes
pub mod Rows
pub mod Sizes
pub mod Chains
