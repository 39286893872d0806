-- Call 13: the place in the data area that is to be written.
use Rattle.std.specs.Prelude.{ℕ, ◌+◌, ◌*◌, ◌≡◌, List, [], length, Result}
use Rattle.rules.specs.Kernel.{grant, write, alter, rewrite, overwrite, block_size}
use Rattle.tables.specs.Layout.{view}
use Rattle.book.specs.Book.{bytes_of}
use Rattle.calls.specs.declared.Refusal.{Refusal}
use Rattle.calls.specs.Outcome.{verdict_on, Means}
use Rattle.calls.specs.Part.{Lies}

-- the bytes are granted to be written at p
pub record ToWrite (b area : List ℕ) (c d s k f n : ℕ) (bytes : List ℕ) (p : ℕ) : Type 0 where
  pub lies : Lies b s k f n p
  pub granted : verdict_on b area c (write d s k f n bytes) ≡ grant 0 [] (alter s (rewrite (overwrite (block_size * k + f) bytes (bytes_of (view b) area lies.at_row))))
  pub long : length bytes ≡ n

-- what its judging answers
abbrev pub WriteJudged : List ℕ → List ℕ → ℕ → ℕ → ℕ → ℕ → ℕ → ℕ → List ℕ → Result ℕ Refusal → Type 0
WriteJudged b area c d s k f n bytes r = Means b area (verdict_on b area c (write d s k f n bytes)) (ToWrite b area c d s k f n bytes) r
