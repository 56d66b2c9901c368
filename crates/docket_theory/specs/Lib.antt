pub mod Docket
pub mod Images
pub mod Log
pub mod Promise
pub mod Worlds
pub mod Words
