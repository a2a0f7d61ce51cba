-- what the layer above cites
pub mod BadTargets
pub mod Bodies
pub mod Escapes
pub mod FleetTargets
pub mod Limits
pub mod Members
pub mod Names
pub mod Results
pub mod Sizes
pub mod Spelling
pub mod Tables
pub mod TargetText
pub mod Targets
pub mod Writing
-- for private clauses alone
pub mod Cells
pub mod Decoding
pub mod Recoding
pub mod Stops
