use Rattle.tables.specs.Layout.{view}
use Rattle.book.specs.Laws.Sweeps.{HeldTo}
use Rattle.book.proofs.cut.mark_held.Given as goal

abbrev pub invariant-loop-l : goal.invariant-loop-l
invariant-loop-l l = HeldTo (view l.b) l.l l.initial.held l.held
