use Prim.Native.Nat.{ℕ}
use mathlib.Core.Path.{ap, ◌∙◌}
use lib.ListN.{replicate}
use Rattle.book.specs.Enact.{start_area}
use Rattle.book.proofs.start.start.Goals as goal

pub returns-clause-area_after : goal.returns-clause-area_after
unfolding start_area
returns-clause-area_after c = c.clear_all.ensures ∙ ap (λ (n : ℕ). replicate n 0) c.told-area
