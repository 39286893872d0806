-- The book: the world its bytes spell, soundness, and the changes on rows, links and blocks.
pub mod Book
pub mod Kinds
pub mod Sound
pub mod Laws
pub mod Placed
pub mod Enact
pub mod Shape
pub mod Test
pub mod Make
pub mod Tally
pub mod Find
pub mod Seen
pub mod Marks
pub mod Resize
pub mod Units
pub mod Cut
pub mod Clear
