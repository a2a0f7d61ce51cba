-- what the layer above cites
pub mod Report
pub mod Room
pub mod Sizes
-- for private clauses alone
pub mod Marks
