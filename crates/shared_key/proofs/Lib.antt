pub mod Differences
pub mod HexDigits
