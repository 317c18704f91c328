pub mod Laws
pub mod Answering
mod Cases
