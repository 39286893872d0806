-- What is proved of the test of a book: that it holds of sound books, and of its passes.
pub mod Laws
