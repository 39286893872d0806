use mathlib.Core.Path.{◌≡◌}
use lib.ListN.{length}
use lib.Seq.{paste}
use Rattle.book.proofs.area.write_area.Given as goal

abbrev pub invariant-loop-j : goal.invariant-loop-j
invariant-loop-j l = (length l.area ≡ length l.initial.area) × (l.area ≡ paste l.initial.area l.place l.bytes l.j)
