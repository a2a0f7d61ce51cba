pub mod Counts
pub mod Begun
