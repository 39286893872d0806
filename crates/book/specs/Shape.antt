-- The tables of a book have their lengths: what the view of a book's bytes always has.
use Rattle.std.specs.Prelude.{ℕ, ◌≡◌, length}
use Rattle.tables.specs.Layout.{View, n_of, tab_of}

pub record Shape (v : View) : Type 0 where
  pub long : (t : ℕ) → length (tab_of v t) ≡ n_of t
