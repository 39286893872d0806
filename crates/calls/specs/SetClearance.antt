-- Call 3: the caller takes the clearance lent.
use Rattle.std.specs.Prelude.{ℕ, List, [], Result}
use Rattle.labels.specs.declared.Label.{Label}
use Rattle.rules.specs.Kernel.{set_clearance}
use Rattle.tables.specs.Layout.{view}
use Rattle.book.specs.Book.{label_of}
use Rattle.calls.specs.declared.Refusal.{Refusal}
use Rattle.calls.specs.Outcome.{verdict_on, Means}
use Rattle.calls.specs.Relabel.{Relabels}

-- What its judging answers: the caller's row, and the clearance that l spells, which it takes and keeps its label.
abbrev pub ClearanceJudged : List ℕ → List ℕ → ℕ → List ℕ → Result (ℕ × Label) Refusal → Type 0
ClearanceJudged b area c l r = Means b area (verdict_on b area c (set_clearance l)) (λ p. Relabels b area c (set_clearance l) 0 [] (label_of (view b) p.0) p.1 p.0) r
