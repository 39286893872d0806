-- What of a book's soundness its world cannot see: marks are in range, each id and each link stands once, links join live rows, and blocks are where
-- they belong. The rest of soundness is that of the world (Laws/SoundBy, Laws/WorldSound).
use Rattle.std.specs.Prelude.{ℕ, ◌<◌, ◌≤◌, ◌≡◌}
use Rattle.rules.specs.Kernel.{segment_code, max_code}
use Rattle.tables.specs.Layout.{View}
use Rattle.book.specs.Book.{id_of, code_of, fixed_of, len_of, from_of, to_of, blocks_of}
use Rattle.book.specs.Sound.{Live, On, Used, Owned, times_held}

pub record Placed (v : View) : Type 0 where
  pub code_most : (r : ℕ) → Live v r → code_of v r ≤ max_code
  pub fixed_most : (r : ℕ) → Live v r → code_of v r ≡ segment_code → fixed_of v r ≤ 1
  pub ids_apart : (r s : ℕ) → Live v r → Live v s → s < r → id_of v r ≡ id_of v s → ⊥
  pub from_live : (l : ℕ) → On v l → Live v (from_of v l)
  pub to_live : (l : ℕ) → On v l → Live v (to_of v l)
  pub links_apart : (l m : ℕ) → On v l → On v m → m < l → from_of v l ≡ from_of v m → to_of v l ≡ to_of v m → ⊥
  pub owned : (b : ℕ) → Used v b → Owned v b
  pub blocks_once : (r : ℕ) → Live v r → code_of v r ≡ segment_code → (k : ℕ) → k < blocks_of (len_of v r) → times_held v r k ≡ 1
