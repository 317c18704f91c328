pub mod Outputs
pub mod Reach
pub mod Answering
pub mod Enough
mod Cases
