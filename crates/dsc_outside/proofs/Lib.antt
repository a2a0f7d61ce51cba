pub mod Below
pub mod Moments
