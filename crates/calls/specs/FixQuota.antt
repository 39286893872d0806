-- Call 10: the segment whose quota is to be fixed.
use Rattle.std.specs.Prelude.{ℕ, ◌≡◌, List, [], Result, Some}
use Rattle.rules.specs.Kernel.{grant, fix_quota, alter, fix}
use Rattle.tables.specs.Layout.{view}
use Rattle.book.specs.Book.{row_of}
use Rattle.calls.specs.declared.Refusal.{Refusal}
use Rattle.calls.specs.Outcome.{verdict_on, Means}

-- o is at row r, and its quota is granted to be fixed
pub record ToFix (b area : List ℕ) (c d o r : ℕ) : Type 0 where
  pub granted : verdict_on b area c (fix_quota d o) ≡ grant 0 [] (alter o fix)
  pub row : row_of (view b) o ≡ Some r

-- what its judging answers
abbrev pub FixJudged : List ℕ → List ℕ → ℕ → ℕ → ℕ → Result ℕ Refusal → Type 0
FixJudged b area c d o r = Means b area (verdict_on b area c (fix_quota d o)) (ToFix b area c d o) r
