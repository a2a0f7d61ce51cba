pub mod Declarations
pub mod Dependencies
pub mod Names
pub mod Places
pub mod Rules
pub mod Sizes
pub mod Tests
