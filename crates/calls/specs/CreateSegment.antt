-- Call 5: the segment that is to be made.
use Rattle.std.specs.Prelude.{ℕ, ◌≡◌, List, Result}
use Rattle.labels.specs.declared.Label.{Label}
use Rattle.labels.specs.Core.{label_of, plain}
use Rattle.rules.specs.Kernel.{segment_code, Obj, segment_of, or_default, segment_default, create_segment}
use Rattle.book.specs.declared.make.NewRow.{NewRow}
use Rattle.calls.specs.declared.Refusal.{Refusal}
use Rattle.calls.specs.Outcome.{verdict_on, Means}
use Rattle.calls.specs.Creating.{ToMake}

-- by the bytes of its label and its description, and the quota asked for
abbrev pub new_segment : List ℕ → List ℕ → ℕ → Obj
new_segment l s q = segment_of (label_of l) s (or_default q segment_default)

-- the row it is handed over as
abbrev pub segment_row : Label → ℕ → NewRow
segment_row l q = record { kind = segment_code; mask = 0; quota = q; entry = 0; label = l; clearance = plain 0 }

-- what its judging answers: the container's row, and the label
abbrev pub SegmentJudged : List ℕ → List ℕ → ℕ → ℕ → List ℕ → List ℕ → ℕ → Result (ℕ × Label) Refusal → Type 0
SegmentJudged b area c d l s q r =
    Means b area (verdict_on b area c (create_segment d l s q))
    (λ p. ToMake b area c (create_segment d l s q) d (new_segment l s q) p.0 × (p.1 ≡ label_of l)) r
