pub mod Contents
pub mod Generated
pub mod Laws
