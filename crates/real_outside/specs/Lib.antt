-- what the layer above cites
pub mod Real
-- for private clauses alone
pub mod Folders
