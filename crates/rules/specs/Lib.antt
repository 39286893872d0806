-- The rules of docs/RULES.md, and what follows from them. A reader has to believe Kernel and Sound, and for
-- the theorems over histories the definitions in Histories, Ledger, Written, Issued, Trees, Masks, Answers
-- and Named; Laws and Theorems, in proofs/, are proved.
pub mod Kernel
pub mod Sound
pub mod Fair
pub mod Named
pub mod Answers
pub mod Histories
pub mod Ledger
pub mod Written
pub mod Issued
pub mod Trees
pub mod Masks
