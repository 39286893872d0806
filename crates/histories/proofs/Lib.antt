-- The demands are met; each statement stands in specs/.
pub mod Laws
pub mod Theorems
pub mod Unable
pub mod Day
pub mod TwoDays
pub mod OldLinks
