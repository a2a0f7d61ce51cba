-- what the layer above cites
pub mod Actions
pub mod Alone
pub mod Answers
pub mod Asked
pub mod Contents
pub mod Messages
pub mod Own
pub mod Replies
pub mod SentReplies
pub mod Signed
pub mod Table
-- for private clauses alone
pub mod Judging
pub mod Keeping
pub mod SeenContents
