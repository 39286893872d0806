-- What the program's functions answer.
pub mod Asked
pub mod Text
pub mod Line
