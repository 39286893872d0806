use Rattle.tables.specs.Layout.{view}
use Rattle.book.specs.Laws.Sweeps.{RowsTo}
use Rattle.book.proofs.cut.drop_rows.Given as goal

abbrev pub invariant-loop-r : goal.invariant-loop-r
invariant-loop-r l = RowsTo l.held (view l.initial.b) l.r (view l.b)
