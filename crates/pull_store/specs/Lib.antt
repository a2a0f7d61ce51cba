-- what the layer above cites
pub mod Bodies
pub mod Laws
pub mod Rows
pub mod Sound
pub mod Stands
pub mod Steps
pub mod Store
-- for private clauses alone
pub mod Whole
