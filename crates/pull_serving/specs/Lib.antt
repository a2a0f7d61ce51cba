-- what the layer above cites
pub mod Alone
pub mod Complete
pub mod CompleteRuns
pub mod Heard
pub mod Parting
pub mod Printing
pub mod ServerLink
pub mod ServerLinks
pub mod Serving
pub mod Status
pub mod Turn
pub mod Turns
-- for private clauses alone
pub mod Sent
