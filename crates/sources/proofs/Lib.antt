pub mod Gather
pub mod Sources
