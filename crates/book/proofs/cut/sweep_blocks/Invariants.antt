use mathlib.Core.Path.{◌≡◌}
use lib.ListN.{length}
use Rattle.tables.specs.Layout.{view, size}
use Rattle.book.specs.Laws.Sweeps.{BlocksTo}
use Rattle.book.proofs.cut.sweep_blocks.Given as goal

abbrev pub invariant-loop-i : goal.invariant-loop-i
invariant-loop-i l = (length l.b ≡ size) × BlocksTo (view l.initial.b) l.initial.area l.i (view l.b) l.area
