mod Claims
pub mod FittingParts
mod Merging
mod Newest
pub mod SoundSteps
pub mod SlotSteps
pub mod Building
