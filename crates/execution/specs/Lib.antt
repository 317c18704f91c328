pub mod Program
pub mod Steps
pub mod Inner
