-- what the layer above cites
pub mod Bounds
pub mod Ends
pub mod HostEntries
pub mod LastingRuns
pub mod Legal
pub mod RebootLaws
pub mod RepairLaws
pub mod RunLaws
pub mod Whole
-- for private clauses alone
pub mod Turn
