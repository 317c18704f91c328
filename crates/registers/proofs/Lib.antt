pub mod Choices
pub mod Bits
pub mod Files
pub mod Named
