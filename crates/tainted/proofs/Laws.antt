-- Laws that the theorem is made of. Calls has a section for each call; Quiet, Both, Step and Kept have a case
-- for each change.
pub mod Levels
pub mod Rooms
pub mod Seen
pub mod Alike
pub mod Both
pub mod Quiet
pub mod Cut
pub mod Respects
pub mod Same
pub mod Calls
pub mod Step
pub mod Kept
pub mod Start
