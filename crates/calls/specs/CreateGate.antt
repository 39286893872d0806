-- Call 6: the gate that is to be made.
use Rattle.std.specs.Prelude.{ℕ, ◌≡◌, List, Result}
use Rattle.labels.specs.declared.Label.{Label}
use Rattle.labels.specs.Core.{label_of}
use Rattle.rules.specs.Kernel.{gate_code, Obj, gate_of, create_gate}
use Rattle.book.specs.declared.make.NewRow.{NewRow}
use Rattle.calls.specs.declared.Refusal.{Refusal}
use Rattle.calls.specs.Outcome.{verdict_on, Means}
use Rattle.calls.specs.Creating.{ToMake}

-- by the bytes of its label and its clearance, its entry number, its closure bytes and its description
abbrev pub new_gate : List ℕ → List ℕ → ℕ → List ℕ → List ℕ → Obj
new_gate l k e x s = gate_of (label_of l) (label_of k) e x s

-- the row it is handed over as
abbrev pub gate_row_of : Label → Label → ℕ → NewRow
gate_row_of l k e = record { kind = gate_code; mask = 0; quota = 1; entry = e; label = l; clearance = k }

-- what its judging answers: the container's row, the label and the clearance
abbrev pub GateJudged : List ℕ → List ℕ → ℕ → ℕ → List ℕ → List ℕ → ℕ → List ℕ → List ℕ → Result (ℕ × Label × Label) Refusal → Type 0
GateJudged b area c d l k e x s r =
    Means b area (verdict_on b area c (create_gate d l k e x s))
    (λ p. ToMake b area c (create_gate d l k e x s) d (new_gate l k e x s) p.0 × (p.1 ≡ label_of l) × (p.2 ≡ label_of k)) r
