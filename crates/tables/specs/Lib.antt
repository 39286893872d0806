-- The book, byte by byte.
pub mod Layout
