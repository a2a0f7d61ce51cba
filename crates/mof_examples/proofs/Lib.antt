pub mod NotHeld
pub mod Refusing
