pub mod Lines
pub mod Moments
pub mod Numbers
pub mod Table
pub mod Unmet
