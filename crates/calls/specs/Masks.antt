-- The masks of containers.
use Rattle.std.specs.Prelude.{ℕ, ◌-◌, ◌/◌, ◌%◌, ◌^◌, Bool, eqb}
use Rattle.tables.specs.Layout.{View}
use Rattle.book.specs.Book.{mask_of}

-- what the rules' `forbids` is of a row: the mask there forbids the kind of the code n
abbrev pub forbids_at : View → ℕ → ℕ → Bool
forbids_at v k n = eqb (mask_of v k / 2 ^ (n - 1) % 2) 1
