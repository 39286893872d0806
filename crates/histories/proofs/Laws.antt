-- From areas to worlds, and back.
pub mod Refused
pub mod Spelled
pub mod Alike
