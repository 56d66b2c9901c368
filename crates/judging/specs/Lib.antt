pub mod Cases
pub mod Judge
