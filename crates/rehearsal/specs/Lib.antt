-- what the layer above cites
pub mod Chain
pub mod Heard
pub mod Laws
pub mod Objects
pub mod OneReading
pub mod Playing
pub mod Rows
pub mod Script
pub mod World
-- for private clauses alone
pub mod Living
pub mod Reading
