use mathlib.Core.Bool.{true, false}
use mathlib.Core.Path.{sym, ◌∙◌}
use Rattle.book.specs.Laws.Judged.{clear_read}
use Rattle.book.proofs.sound_rows.clear_ok.Goals as goal

pub returns-then-well_formed : goal.returns-then-well_formed
returns-then-well_formed c =
    c.compare_two.ensures
    ∙ sym (clear_read _ _ _ _ _ c.next.ensures c.requires c.clearance_of-clearance.ensures.means true (sym c.well_formed-2.ensures ∙ c.if-well_formed.true))

pub returns-else-well_formed : goal.returns-else-well_formed
returns-else-well_formed c =
    c.if-well_formed.false
    ∙ sym (clear_read _ _ _ _ _ c.next.ensures c.requires c.clearance_of-clearance.ensures.means false (sym c.well_formed-2.ensures ∙ c.if-well_formed.false))
