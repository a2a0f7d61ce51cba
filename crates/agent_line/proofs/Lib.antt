pub mod NoFloat
