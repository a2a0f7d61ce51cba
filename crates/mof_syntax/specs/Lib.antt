-- what the layer above cites
pub mod Canonical
pub mod Characters
pub mod Counts
pub mod Encodings
pub mod Forms
pub mod Fronts
pub mod Grammar
pub mod Integers
pub mod Limits
pub mod Numerals
pub mod Profile
pub mod Refusals
pub mod Scanning
pub mod Separators
pub mod Strings
pub mod Tokens
pub mod Walk
-- for private clauses alone
pub mod Decoding
pub mod Leads
