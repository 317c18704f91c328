pub mod Loop
pub mod Rows
pub mod Alike
pub mod Demand
pub mod Past
