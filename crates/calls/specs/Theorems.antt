-- What is proved of every call.
pub mod Kept
pub mod Clear
pub mod One
pub mod Refusals
pub mod OneRead
