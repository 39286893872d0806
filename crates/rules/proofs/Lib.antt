-- What is proved of the rules: Theorems, and the Laws that they are made of.
pub mod Laws
pub mod Theorems
