-- What every call asks first: whether the areas are good (1), whether the numbers have ended (2), and whether the caller is a live thread (3).
use denote.Ref.{Bor}
use Rattle.std.specs.Prelude.{ℕ, ◌≡◌, List, Result, Ok, Err, Some}
use Rattle.rules.specs.Kernel.{Call}
use Rattle.tables.specs.Layout.{view}
use Rattle.book.specs.Find.{thread_row}
use Rattle.calls.specs.Outcome.{verdict_on, Ready, Told}
use Rattle.calls.specs.declared.Refusal.{Refusal}

-- the caller c is the live thread at row t
pub record Caller (b area : List ℕ) (c t : ℕ) : Type 0 where
  pub ready : Ready b area
  pub row : thread_row (view b) c ≡ Some t

-- the book that was lent and the caller's row, or a refusal that is right for every call of his
abbrev pub BegunAs : List ℕ → List ℕ → ℕ → Result (Bor (List ℕ) × ℕ) Refusal → Type 0
BegunAs b area c (Ok (book, t)) = (book.now ≡ b) × Caller book.now area c t
BegunAs b area c (Err r) = (x : Call) → Told b area (verdict_on b area c x) r
