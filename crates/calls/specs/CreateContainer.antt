-- Call 4: the container that is to be made.
use Rattle.std.specs.Prelude.{ℕ, ◌≡◌, List, Result}
use Rattle.std.specs.Int.Bits.{bit_or}
use Rattle.labels.specs.declared.Label.{Label}
use Rattle.labels.specs.Core.{label_of, plain}
use Rattle.rules.specs.Kernel.{container_code, World, Obj, container_of, or_default, container_default, create_container}
use Rattle.tables.specs.Layout.{view}
use Rattle.book.specs.declared.make.NewRow.{NewRow}
use Rattle.book.specs.Book.{world_of}
use Rattle.calls.specs.declared.Refusal.{Refusal}
use Rattle.calls.specs.Outcome.{verdict_on, Means}
use Rattle.calls.specs.Creating.{ToMake}

-- by the bytes of its label and its description, and the mask and quota asked for; RULES 8.4: "The new mask has the bits given and those of D's mask."
abbrev pub new_container : World → ℕ → List ℕ → List ℕ → ℕ → ℕ → Obj
new_container w d l s m q = container_of (label_of l) s (bit_or m (w.obj d).mask) (or_default q container_default)

-- the row it is handed over as
abbrev pub container_row_of : Label → ℕ → ℕ → NewRow
container_row_of l m q = record { kind = container_code; mask = m; quota = q; entry = 0; label = l; clearance = plain 0 }

-- what its judging answers: the outer container's row, and the label
abbrev pub ContainerJudged : List ℕ → List ℕ → ℕ → ℕ → List ℕ → List ℕ → ℕ → ℕ → Result (ℕ × Label) Refusal → Type 0
ContainerJudged b area c d l s m q r =
    Means b area (verdict_on b area c (create_container d l s m q))
    (λ p. ToMake b area c (create_container d l s m q) d (new_container (world_of (view b) area) d l s m q) p.0 × (p.1 ≡ label_of l)) r
