use mathlib.Core.Path.{◌≡◌}
use Rattle.tables.specs.Layout.{view}
use Rattle.book.specs.Resize.{dropped_to, wiped_to}
use Rattle.book.proofs.resize.drop_blocks.Given as goal

abbrev pub invariant-loop-x : goal.invariant-loop-x
invariant-loop-x l =
    (view l.b ≡ dropped_to l.x l.r l.k (view l.initial.b)) × (l.area ≡ wiped_to l.x l.r l.k (view l.initial.b) l.initial.area)
