pub mod Printing
pub mod Operands
