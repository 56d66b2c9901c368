pub mod Cases
pub mod Exact
pub mod Zones
pub mod Facts
pub mod Kept
pub mod Forms
