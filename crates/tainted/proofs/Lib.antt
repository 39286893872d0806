-- Request W5 is proved: Theorem, and the Laws that it is made of.
pub mod Laws
pub mod Theorem
