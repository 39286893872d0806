use Prim.Native.Nat.{◌+◌}
use mathlib.Core.Path.{sym, subst}
use Rattle.tables.specs.Layout.{view}
use Rattle.book.specs.Laws.Sweeps.{HeldTo, held_start, held_more, held_end}
use Rattle.book.proofs.cut.mark_held.Goals as goal

pub loop-l-init : goal.loop-l-init
loop-l-init c = held_start (view c.args.b.now) c.args.held.now c.told-held

pub loop-l-preserved : goal.loop-l-preserved
loop-l-preserved c =
    subst (HeldTo (view c.args.b.now) (c.loop-l.l + 1) c.args.held.now) (sym c.mark_end.ensures)
    (held_more _ _ _ _ c.loop-l.invariant)

pub returns : goal.returns
returns c = held_end _ _ _ _ c.loop-l.invariant c.loop-l.auto.l-end c.loop-l-test.false
