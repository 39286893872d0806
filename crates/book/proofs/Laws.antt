-- Laws of the test of a book.
pub mod Means
pub mod MeansBlocks
pub mod Seen
pub mod Once
