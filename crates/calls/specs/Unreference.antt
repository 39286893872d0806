-- Call 8: the link that is to be cut.
use Rattle.std.specs.Prelude.{ℕ, ◌≡◌, List, [], Result}
use Rattle.rules.specs.Kernel.{grant, unreference, cut}
use Rattle.tables.specs.Layout.{view}
use Rattle.book.specs.Book.{id_of, from_of, to_of}
use Rattle.book.specs.Sound.{On}
use Rattle.calls.specs.declared.Refusal.{Refusal}
use Rattle.calls.specs.Outcome.{verdict_on, Means}

-- link l is live, leads from d to o, and is granted to be cut
pub record ToCut (b area : List ℕ) (c d o l : ℕ) : Type 0 where
  pub granted : verdict_on b area c (unreference d o) ≡ grant 0 [] (cut d o)
  pub link_on : On (view b) l
  pub from_id : id_of (view b) (from_of (view b) l) ≡ d
  pub to_id : id_of (view b) (to_of (view b) l) ≡ o

-- what its judging answers
abbrev pub CutJudged : List ℕ → List ℕ → ℕ → ℕ → ℕ → Result ℕ Refusal → Type 0
CutJudged b area c d o r = Means b area (verdict_on b area c (unreference d o)) (ToCut b area c d o) r
