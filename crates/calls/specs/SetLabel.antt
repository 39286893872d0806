-- Call 2: the caller takes the label lent.
use Rattle.std.specs.Prelude.{ℕ, List, [], Result}
use Rattle.labels.specs.declared.Label.{Label}
use Rattle.rules.specs.Kernel.{set_label}
use Rattle.tables.specs.Layout.{view}
use Rattle.book.specs.Book.{clearance_of}
use Rattle.calls.specs.declared.Refusal.{Refusal}
use Rattle.calls.specs.Outcome.{verdict_on, Means}
use Rattle.calls.specs.Relabel.{Relabels}

-- What its judging answers: the caller's row, and the label that l spells, which it takes and keeps its clearance.
abbrev pub LabelJudged : List ℕ → List ℕ → ℕ → List ℕ → Result (ℕ × Label) Refusal → Type 0
LabelJudged b area c l r = Means b area (verdict_on b area c (set_label l)) (λ p. Relabels b area c (set_label l) 0 [] p.1 (clearance_of (view b) p.0) p.0) r
