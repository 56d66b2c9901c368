pub mod Answers
pub mod Codes
