-- Sums over indices, and what quotas add up to.
pub mod Any
pub mod Sum
pub mod Tree
pub mod Room
pub mod Under
pub mod Reach
