pub mod Laws
pub mod Merged
pub mod Parts
pub mod Refused
