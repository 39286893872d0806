-- Worked examples: what docs/RULES.md says of them (section 10), and what an independent program says, comes
-- out of the definitions of `labels` and `rules` by computing.
pub mod Paper
pub mod InPlace
pub mod Play
pub mod Grantday
pub mod Errors
pub mod Masks
pub mod Defaults
pub mod Model1
pub mod Model2
pub mod Model3
pub mod Model4
pub mod Model5
pub mod Met
pub mod Unseen
pub mod Leaks
