-- Call 11: the object whose quota is to be moved.
use Rattle.std.specs.Prelude.{ℕ, ◌≤◌, Bool, false, cond, ◌||◌, ◌≡◌, List, [], eqb, ℤ, Result, Some}
use Rattle.rules.specs.Kernel.{segment_code, container_code, grant, move_quota, alter, requota, root_quota}
use Rattle.tables.specs.Layout.{View, view}
use Rattle.book.specs.Book.{code_of, fixed_of, quota_of, row_of}
use Rattle.calls.specs.declared.amount.Amount.{Amount}
use Rattle.calls.specs.declared.Refusal.{Refusal}
use Rattle.calls.specs.Amount.{quota_for, Reckoned}
use Rattle.calls.specs.Outcome.{verdict_on, Means}

-- the object at row r is a segment or a container
abbrev pub movable : View → ℕ → Bool
movable v r = eqb (code_of v r) segment_code || eqb (code_of v r) container_code

-- the quota of the object at row r is fixed; the mark of a row that is no segment's is not looked at
unfoldable pub is_fixed : View → ℕ → Bool
is_fixed v r = cond (eqb (code_of v r) segment_code) (eqb (fixed_of v r) 1) false

-- o is at row r, and u, which z comes to, is granted to be moved into it or back
pub record ToMove (b area : List ℕ) (c d o : ℕ) (z : ℤ) (u : Amount) (r : ℕ) : Type 0 where
  pub granted : verdict_on b area c (move_quota d o z) ≡ grant 0 [] (alter o (requota (quota_for u (quota_of (view b) r))))
  pub row : row_of (view b) o ≡ Some r
  pub quota_most : quota_of (view b) r ≤ root_quota
  pub reckoned : Reckoned u (quota_of (view b) r)

-- what its judging answers
abbrev pub MoveJudged : List ℕ → List ℕ → ℕ → ℕ → ℕ → ℤ → Result (ℕ × Amount) Refusal → Type 0
MoveJudged b area c d o z r = Means b area (verdict_on b area c (move_quota d o z)) (λ p. ToMove b area c d o z p.1 p.0) r
