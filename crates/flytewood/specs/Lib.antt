-- What the exported functions promise.
pub mod Called
pub mod Laws
