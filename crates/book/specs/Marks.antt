-- What one pass over the rows keeps in an array of bits: which places the ids of the rows so far have.
use Rattle.std.specs.Prelude.{ℕ, ◌+◌, ◌/◌, ◌%◌, ◌^◌, ◌<◌, List, ◌≡◌, length, get_or, set}
use Rattle.std.specs.Int.Bits.{bit_or}
use Rattle.tables.specs.Layout.{View}
use Rattle.book.specs.Book.{id_of, code_of}

-- how many marks there are
abbrev pub mark_count : ℕ
mark_count = 2039

-- the bytes that hold them, a bit each
abbrev pub mark_bytes : ℕ
mark_bytes = mark_count / 8 + 1

-- the place of an id's mark
unfoldable pub mark_place : ℕ → ℕ
mark_place id = id % mark_count

-- the mark at place p in the array a: 1 where it is made, else 0
unfoldable pub mark_at : List ℕ → ℕ → ℕ
mark_at a p = get_or a (p / 8) 0 / 2 ^ (p % 8) % 2

-- the array with the mark at place p made
unfoldable pub mark_set : List ℕ → ℕ → List ℕ
mark_set a p = set a (p / 8) (bit_or (get_or a (p / 8) 0) (2 ^ (p % 8)))

-- the place of the live row r is marked in the array a
abbrev pub MarkedAt : View → List ℕ → ℕ → Type 0
MarkedAt v a r = (code_of v r ≡ 0 → ⊥) → mark_at a (mark_place (id_of v r)) ≡ 1

-- the places of all live rows below n are marked; others may be
pub record Marked (v : View) (n : ℕ) (marks : List ℕ) : Type 0 where
  pub marks_long : length marks ≡ mark_bytes
  pub marked : (r : ℕ) → r < n → MarkedAt v marks r
