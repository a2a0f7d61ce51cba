-- what the layer above cites
pub mod Bytes
pub mod Calls
pub mod Kept
pub mod Laws
pub mod Log
pub mod Replay
pub mod Several
pub mod Standing
pub mod Text
-- for private clauses alone
pub mod Opening
pub mod Steps
