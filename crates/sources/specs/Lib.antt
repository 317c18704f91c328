pub mod Operands
pub mod Bank
pub mod Inner
