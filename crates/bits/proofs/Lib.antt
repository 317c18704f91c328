pub mod Bitwise
pub mod WordBits
pub mod Counts
pub mod Swaps
pub mod Reversal
