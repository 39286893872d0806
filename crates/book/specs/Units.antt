-- Units of a row: what it uses and what it has to spare.
use Rattle.std.specs.Prelude.{ℕ, ◌+◌, ◌-◌, cond, eqb}
use Rattle.quotas.specs.Sum.{when}
use Rattle.rules.specs.Kernel.{segment_code, container_code, units}
use Rattle.tables.specs.Layout.{View}
use Rattle.book.specs.Book.{code_of, quota_of, len_of, from_of, to_of, live_link}
use Rattle.book.specs.Sound.{charged_to}

-- what link l charges the container at row c with
abbrev pub charge_of : View → ℕ → ℕ → ℕ
charge_of v c l = when (live_link v l) (when (eqb (from_of v l) c) (quota_of v (to_of v l)))

-- a container uses one unit and the quotas of what is linked in it, a segment what its length asks, a thread or gate one
unfoldable pub use_at : View → ℕ → ℕ
use_at v r = cond (eqb (code_of v r) container_code) (1 + charged_to v r) (cond (eqb (code_of v r) segment_code) (units (len_of v r)) 1)

unfoldable pub spare_at : View → ℕ → ℕ
spare_at v r = quota_of v r - use_at v r
