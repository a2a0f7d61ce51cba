pub mod Keys
pub mod Layout
