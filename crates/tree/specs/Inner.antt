-- What laws of this library and of `nesting` cite: no public contract does.
-- Assumes nothing.
pub mod Tree
