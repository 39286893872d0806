-- What is proved of the comparisons of labels.
pub mod Core
