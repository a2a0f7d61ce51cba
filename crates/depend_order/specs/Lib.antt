-- what the layer above cites
pub mod Answers
pub mod Cycle
pub mod Documents
pub mod Laws
pub mod Numbers
pub mod Order
pub mod Ordered
pub mod Refused
pub mod Repeats
-- for private clauses alone
pub mod Counts
pub mod Index
