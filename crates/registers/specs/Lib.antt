pub mod Sets
pub mod Rules
pub mod Found
pub mod Inner
