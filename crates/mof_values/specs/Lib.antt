pub mod Fold
pub mod Ident
pub mod Values
