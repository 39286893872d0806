-- The demands, said of every history of the two lent areas.
pub mod Areas
pub mod Demands
pub mod Unseen
pub mod Programs
