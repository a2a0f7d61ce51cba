pub mod Appending
pub mod Composing
pub mod Listed
pub mod LongNumbers
pub mod Numbers
pub mod Texts
