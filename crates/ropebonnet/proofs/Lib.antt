pub mod Enough
pub mod Room
