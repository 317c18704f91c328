pub mod Nexts
pub mod Walks
