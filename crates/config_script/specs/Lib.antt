-- what the layer above cites
pub mod Denoting
pub mod Laws
pub mod Refused
pub mod Scripts
pub mod Tokens
-- for private clauses alone
pub mod Checking
pub mod Digits
pub mod Fronts
pub mod Lexing
pub mod Named
pub mod Places
pub mod Reading
pub mod Writing
