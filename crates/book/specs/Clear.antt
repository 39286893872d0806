-- Which bytes of the data area are those of live segments, and that all others are 0.
use Rattle.std.specs.Prelude.{ℕ, ◌<◌, ◌≡◌, List, get_or}
use Rattle.rules.specs.Kernel.{segment_code}
use Rattle.tables.specs.Layout.{View, row_count}
use Rattle.book.specs.Book.{code_of, len_of, place_of}
use Rattle.book.specs.Enact.{area_size}

-- byte j of the data area is byte i of the live segment at row r
pub record ByteOf (v : View) (r i j : ℕ) : Type 0 where
  pub low : r < row_count
  pub segment : code_of v r ≡ segment_code
  pub within : i < len_of v r
  pub place : place_of v r i ≡ j

-- a byte of the data area that is no live segment's is 0
abbrev pub Clear : View → List ℕ → Type 0
Clear v area = (j : ℕ) → j < area_size → ((r i : ℕ) → ByteOf v r i j → ⊥) → get_or area j 0 ≡ 0
