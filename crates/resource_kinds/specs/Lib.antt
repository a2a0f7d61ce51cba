-- what the layer above cites
pub mod Apart
pub mod Documents
pub mod Entries
pub mod Holding
pub mod Holds
pub mod Kinds
pub mod Laws
pub mod Names
pub mod PackageSteps
pub mod Packages
pub mod Paths
pub mod Tables
pub mod Trace
pub mod True
pub mod Wanted
-- for private clauses alone
pub mod EntrySets
pub mod Keys
pub mod OverlapSteps
pub mod PathOrder
pub mod Subjects
