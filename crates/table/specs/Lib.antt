pub mod Inner
pub mod Prepared
