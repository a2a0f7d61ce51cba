pub mod Grown
pub mod InSize
pub mod Listed
pub mod Outcomes
pub mod Settled
