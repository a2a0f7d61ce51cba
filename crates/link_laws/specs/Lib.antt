pub mod PulledParts
pub mod ShelfContents
