pub mod Calls
pub mod Tests
pub mod Walks
