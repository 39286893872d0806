-- What the day leaves.
pub mod Steps
