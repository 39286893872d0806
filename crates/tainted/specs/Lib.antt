-- Request W5 of the user, that tainted work must not show (docs/RULES.md, section 12). A reader has to
-- believe Tainted, and Kernel and Sound of `rules`; the rest, in proofs/, is proved.
pub mod Tainted
pub mod Laws
