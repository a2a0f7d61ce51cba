pub mod Classes
pub mod LastMessage
