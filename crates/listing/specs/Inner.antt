-- What functions of the library promise each other: no public contract cites it.
-- Assumes nothing.
pub mod Spelt
