pub mod Parts
pub mod Receiving
