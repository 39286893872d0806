-- What is proved of specs/Core and rests on the definitions of the comparisons.
pub mod Compare
