pub mod HeardContents
pub mod PulledParts
pub mod SendableContents
pub mod SentContents
