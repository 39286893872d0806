use Prim.Native.Nat.{◌-◌}
use mathlib.Core.Path.{◌≡◌}
use Rattle.tables.specs.Layout.{view}
use Rattle.book.specs.Enact.{blocks_added}
use Rattle.book.specs.Resize.{frees_cleared}
use Rattle.book.proofs.resize.add_blocks.Given as goal

abbrev pub invariant-loop-i : goal.invariant-loop-i
invariant-loop-i l =
    (blocks_added l.r l.i (l.to - l.i) (view l.b) ≡ blocks_added l.r l.k (l.to - l.k) (view l.initial.b))
    × (frees_cleared l.r l.i (l.to - l.i) (view l.b) l.area ≡ frees_cleared l.r l.k (l.to - l.k) (view l.initial.b) l.initial.area)
