use mathlib.Core.Path.{refl, sym, ◌∙◌}
use Rattle.tables.specs.Layout.{view, row_count}
use Rattle.book.specs.Test.{every, row_b}
use Rattle.book.specs.Laws.Tests.{every_more, every_fails}
use Rattle.book.specs.Laws.Marks.{marked_none}
use Rattle.book.proofs.sound_rows.each_ok.Goals as goal

pub loop-r-init : goal.loop-r-init
unfolding every
loop-r-init c = (refl, marked_none (view c.args.b.now) c.args.marks.now c.requires)

pub returns-then-not-row_ok : goal.returns-then-not-row_ok
returns-then-not-row_ok c =
    sym (every_fails row_count (row_b (view c.args.b.now)) c.loop-r.r c.loop-r-test.true (sym c.row_ok.ensures.0 ∙ c.if-not-row_ok.true))

pub loop-r-preserved : goal.loop-r-preserved
loop-r-preserved c =
    let good = c.if-not-row_ok.false in
    (every_more c.loop-r.r (row_b (view c.args.b.now)) c.loop-r.invariant.0 (sym c.row_ok.ensures.0 ∙ good), c.row_ok.ensures.1 good)
