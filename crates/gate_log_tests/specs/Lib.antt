-- what the layer above cites
-- for private clauses alone
pub mod Counter
pub mod Counting
