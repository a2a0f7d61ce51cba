-- what the layer above cites
pub mod Counting
pub mod FleetReplies
pub mod Members
-- for private clauses alone
pub mod News
