-- What one pass over the blocks keeps in two arrays: where the blocks of each segment begin when all segments' blocks are numbered one after the
-- other, and which of these numbers a block was seen to have.
use Rattle.std.specs.Prelude.{ℕ, ◌+◌, ◌-◌, ◌%◌, ◌<◌, Bool, false, not, List, ◌≡◌, length, get_or, eqb}
use Rattle.quotas.specs.Sum.{Σ, when}
use Rattle.rules.specs.Kernel.{segment_code}
use Rattle.tables.specs.Layout.{View, row_count, block_count}
use Rattle.book.specs.Book.{code_of, len_of, owner_of, index_of, blocks_of}

-- the blocks that row r needs
abbrev pub needs_of : View → ℕ → ℕ
needs_of v r = when (eqb (code_of v r) segment_code) (blocks_of (len_of v r))

-- the blocks that the rows below r need
unfoldable pub offset_of : View → ℕ → ℕ
offset_of v r = Σ r (needs_of v)

-- the number of a block
unfoldable pub number_of : View → ℕ → ℕ
number_of v b = offset_of v (owner_of v b - 1) + index_of v b

-- how many of the blocks below n are used
unfoldable pub used_below : View → ℕ → ℕ
used_below v n = Σ n (λ b. when (not (eqb (owner_of v b) 0)) 1)

-- how many of the blocks below n have the number x
unfoldable pub seen_below : View → ℕ → ℕ → ℕ
seen_below v n x = Σ n (λ b. when (not (eqb (owner_of v b) 0)) (when (eqb (number_of v b) x) 1))

-- what two bytes hold of an offset
abbrev pub two_bytes : ℕ → ℕ
two_bytes n = n % 65536

-- the array holds the offsets of the rows below n
pub record Offsets (v : View) (n : ℕ) (offsets : List ℕ) : Type 0 where
  pub offsets_long : length offsets ≡ row_count
  pub offset : (r : ℕ) → r < n → get_or offsets r 0 ≡ two_bytes (offset_of v r)

-- the array holds which numbers were seen of the blocks below n
pub record Seen (v : View) (n : ℕ) (seen : List Bool) : Type 0 where
  pub seen_long : length seen ≡ block_count
  pub held : (x : ℕ) → x < block_count → get_or seen x false ≡ not (eqb (seen_below v n x) 0)
