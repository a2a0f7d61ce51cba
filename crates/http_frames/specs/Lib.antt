-- what the layer above cites
pub mod Answering
pub mod Bodies
pub mod Chunks
pub mod Frames
pub mod Framing
pub mod HeadPlaces
pub mod HeadWalks
pub mod Headers
pub mod Heads
pub mod Limits
pub mod OneAnswer
pub mod Phases
pub mod ReadBack
pub mod Reading
pub mod Replies
pub mod Sending
pub mod Walks
pub mod Writing
-- for private clauses alone
pub mod Lines
