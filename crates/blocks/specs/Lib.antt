pub mod Control
pub mod Lists
pub mod Nesting
pub mod Reading
pub mod Run
pub mod Table
