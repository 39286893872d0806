use mathlib.Core.Bool.{true, false}
use mathlib.Core.Path.{sym, ◌∙◌}
use Rattle.book.specs.Laws.Judged.{label_read}
use Rattle.book.proofs.sound_rows.label_ok.Goals as goal

pub returns-then-not-cleared : goal.returns-then-not-cleared
returns-then-not-cleared c =
    sym (label_read _ _ _ _ _ _ c.get.ensures c.thread_or_gate-cleared.ensures c.next.ensures c.label_of-label.ensures.means true
    (sym c.well_formed-2.ensures ∙ c.if-well_formed.true)
    ∙ rw c.if-not-cleared.true)

pub returns-else-not-cleared : goal.returns-else-not-cleared
returns-else-not-cleared c =
    c.clear_ok.ensures
    ∙ sym (label_read _ _ _ _ _ _ c.get.ensures c.thread_or_gate-cleared.ensures c.next.ensures c.label_of-label.ensures.means true
    (sym c.well_formed-2.ensures ∙ c.if-well_formed.true)
    ∙ rw c.if-not-cleared.false)

pub returns-else-well_formed : goal.returns-else-well_formed
returns-else-well_formed c =
    c.if-well_formed.false
    ∙ sym (label_read _ _ _ _ _ _ c.get.ensures c.thread_or_gate-cleared.ensures c.next.ensures c.label_of-label.ensures.means false
    (sym c.well_formed-2.ensures ∙ c.if-well_formed.false))
