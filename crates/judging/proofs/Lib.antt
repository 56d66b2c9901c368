mod Begun
mod Noted
pub mod Shut
