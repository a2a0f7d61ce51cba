-- what the layer above cites
pub mod Beginnings
pub mod Counting
pub mod Events
pub mod Machine
pub mod Searching
pub mod Values
pub mod Walked
pub mod Written
-- for private clauses alone
pub mod Reading
pub mod Winning
