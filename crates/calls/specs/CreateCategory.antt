-- Call 1: the caller takes the new category.
use Rattle.std.specs.Prelude.{ℕ, Bool, ◌||◌, List, [], eqb, Result}
use Rattle.labels.specs.declared.Label.{Label}
use Rattle.labels.specs.Core.{has_room, level3}
use Rattle.rules.specs.Kernel.{create_category}
use Rattle.tables.specs.Layout.{view}
use Rattle.book.specs.Book.{next_of}
use Rattle.calls.specs.declared.Refusal.{Refusal}
use Rattle.calls.specs.Outcome.{verdict_on, Means}
use Rattle.calls.specs.Relabel.{Relabels}

-- RULES 8.1: "T's clearance gets level 3 there, by a pair unless its default is level 3." Whether a clearance can take that
abbrev pub clears_b : Label → Bool
clears_b c = eqb c.default level3 || has_room c

-- what its judging answers: the caller's row, and the label and the clearance that he takes
abbrev pub CategoryJudged : List ℕ → List ℕ → ℕ → Result (ℕ × Label × Label) Refusal → Type 0
CategoryJudged b area c r =
    Means b area (verdict_on b area c create_category) (λ p. Relabels b area c create_category (next_of (view b)) [] p.1 p.2 p.0) r
