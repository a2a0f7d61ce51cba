-- what the layer above cites
pub mod Bank
pub mod Bodies
pub mod Digests
pub mod Growing
pub mod Laws
pub mod Next
pub mod Parts
pub mod Reports
pub mod Stands
pub mod Store
pub mod Whole
-- for private clauses alone
pub mod Held
pub mod Known
pub mod Resolving
pub mod Split
pub mod Taking
