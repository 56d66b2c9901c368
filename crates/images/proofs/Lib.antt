mod Gathered
pub mod Parted
