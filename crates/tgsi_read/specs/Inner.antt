-- What functions of the program promise each other.
-- Assumes nothing.
pub mod Turns
