-- what the layer above cites
pub mod Checksum
pub mod Hmac
pub mod Signature
-- for private clauses alone
pub mod KeyedHash
