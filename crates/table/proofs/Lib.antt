pub mod Filled
pub mod Located
pub mod Rows
pub mod Same
pub mod Words
