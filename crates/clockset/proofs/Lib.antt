pub mod Chained
pub mod Fares
