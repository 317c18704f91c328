pub mod Copies
pub mod Indirect
