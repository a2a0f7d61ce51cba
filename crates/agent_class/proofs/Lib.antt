pub mod Classed
mod Told
