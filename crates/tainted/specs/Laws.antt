-- The definitions that the laws speak of; the laws stand in proofs/Laws.
pub mod Seen
