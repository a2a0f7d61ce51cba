mod Bounds
mod ClockReadings
mod DiskBytes
mod DiskCalls
pub mod DiskParts
mod Fronts
pub mod Images
mod Meeting
mod Named
mod PathEntries
mod Tried
