-- What is proved of the rules.
pub mod Refusals
pub mod Reads
pub mod Numbers
pub mod Shrinks
pub mod Holds
pub mod Cuts
pub mod StaysSound
pub mod Beginnings
pub mod Outputs
pub mod Reckoned
pub mod Exactly
pub mod Granted
pub mod Unreadable
pub mod Masks
pub mod Defaults
