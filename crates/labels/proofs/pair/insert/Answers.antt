use mathlib.Core.Path.{sym, ◌∙◌}
use native.Mathlib.Omega.{arith}
use lib.ListN.{length-set}
use Rattle.std.proofs.lemmas.List.{set-get_or}
use Rattle.labels.specs.Core.Insert.{insert_put, insert_pass, insert_end}
use Rattle.labels.proofs.pair.insert.Goals as goal
use Rattle.labels.proofs.pair.insert.Goals.{then-goes, else-goes}

pub loop-x-preserved : goal.loop-x-preserved
loop-x-preserved c =
    let l = c.loop-x in
    let g = c.goes in
    elim c.if-goes.branch [
      | then-goes w ↦
          rw (w.x-items-is, w.carry-is, w.swap.ensures.x_after, w.swap.ensures.y_after)
          (simp length-set l.invariant.0, l.invariant.1 ∙ insert_put l.carry l.x-items l.x-index (omega arith) (sym g.ensures ∙ w.if-goes.true))
      | else-goes w ↦
          rw (w.x-items-is, w.carry-is, set-get_or)
          (l.invariant.0, l.invariant.1 ∙ insert_pass l.carry l.x-items l.x-index (omega arith) (sym g.ensures ∙ w.if-goes.false))
    ]

pub returns : goal.returns
returns c = let l = c.loop-x in sym (l.invariant.1 ∙ insert_end l.carry l.x-items l.x-index (omega arith))
