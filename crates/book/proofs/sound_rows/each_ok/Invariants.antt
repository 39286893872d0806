use mathlib.Core.Bool.{true}
use mathlib.Core.Path.{◌≡◌}
use Rattle.tables.specs.Layout.{view}
use Rattle.book.specs.Test.{every, row_b}
use Rattle.book.specs.Marks.{Marked}
use Rattle.book.proofs.sound_rows.each_ok.Given as goal

abbrev pub invariant-loop-r : goal.invariant-loop-r
invariant-loop-r l = (every l.r (row_b (view l.b)) ≡ true) × Marked (view l.b) l.r l.marks
