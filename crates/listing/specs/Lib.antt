pub mod Listing
pub mod Reading
pub mod Calls
pub mod Pieces
pub mod Inner
