-- Call 14: the segment whose length is to be changed.
use Rattle.std.specs.Prelude.{ℕ, ◌≤◌, ◌≡◌, List, [], Result, Some}
use Rattle.rules.specs.Kernel.{segment_code, grant, resize, resized, alter, rewrite, units, max_length}
use Rattle.tables.specs.Layout.{view}
use Rattle.book.specs.Book.{code_of, quota_of, bytes_of, row_of}
use Rattle.calls.specs.declared.Refusal.{Refusal}
use Rattle.calls.specs.Outcome.{verdict_on, Means}

-- s is a segment, at row r, and granted to be n bytes long
pub record ToResize (b area : List ℕ) (c d s n r : ℕ) : Type 0 where
  pub granted : verdict_on b area c (resize d s n) ≡ grant 0 [] (alter s (rewrite (resized n (bytes_of (view b) area r))))
  pub row : row_of (view b) s ≡ Some r
  pub code : code_of (view b) r ≡ segment_code
  pub most : n ≤ max_length
  pub fits : units n ≤ quota_of (view b) r

-- what its judging answers
abbrev pub ResizeJudged : List ℕ → List ℕ → ℕ → ℕ → ℕ → ℕ → Result ℕ Refusal → Type 0
ResizeJudged b area c d s n r = Means b area (verdict_on b area c (resize d s n)) (ToResize b area c d s n) r
