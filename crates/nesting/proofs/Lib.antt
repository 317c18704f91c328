pub mod Among
pub mod Stack
pub mod Opening
pub mod Searched
pub mod Rules
