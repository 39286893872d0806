-- Call 7: the thread that is to be made.
use Rattle.std.specs.Prelude.{ℕ, ◌≡◌, List, Result}
use Rattle.labels.specs.declared.Label.{Label}
use Rattle.labels.specs.Core.{label_of}
use Rattle.rules.specs.Kernel.{thread_code, Obj, thread_of, create_thread}
use Rattle.book.specs.declared.make.NewRow.{NewRow}
use Rattle.calls.specs.declared.Refusal.{Refusal}
use Rattle.calls.specs.Outcome.{verdict_on, Means}
use Rattle.calls.specs.Creating.{ToMake}

-- by the bytes of its label, its clearance and its description
abbrev pub new_thread : List ℕ → List ℕ → List ℕ → Obj
new_thread l k s = thread_of (label_of l) (label_of k) s

-- the row it is handed over as
abbrev pub thread_row_of : Label → Label → NewRow
thread_row_of l k = record { kind = thread_code; mask = 0; quota = 1; entry = 0; label = l; clearance = k }

-- what its judging answers: the container's row, the label and the clearance
abbrev pub ThreadJudged : List ℕ → List ℕ → ℕ → ℕ → List ℕ → List ℕ → List ℕ → Result (ℕ × Label × Label) Refusal → Type 0
ThreadJudged b area c d l k s r =
    Means b area (verdict_on b area c (create_thread d l k s))
    (λ p. ToMake b area c (create_thread d l k s) d (new_thread l k s) p.0 × (p.1 ≡ label_of l) × (p.2 ≡ label_of k)) r
