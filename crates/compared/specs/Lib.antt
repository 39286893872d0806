-- What the two functions answer.
pub mod Answers
