mod Spans
mod Lexing
mod Parsing
mod Reading
mod Texts
pub mod Picking
