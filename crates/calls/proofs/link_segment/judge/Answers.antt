use Rattle.std.proofs.Common.{sym}
use Rattle.book.specs.declared.kinds.Kind.TheVariants.{Segment}
use Rattle.book.specs.Laws.Kinds.{kind_same, kind_other}
use Rattle.calls.specs.Laws.Begun.{sound_by_caller}
use Rattle.calls.specs.Laws.Lookup.{holder_there}
use Rattle.calls.specs.Laws.LinkSegment.{link_six, link_judged}
use Rattle.calls.proofs.link_segment.judge.Goals as goal

pub admit-requires : goal.admit-requires
admit-requires c =
    let by = c.in_ok-book.ensures.1 in
    (sound_by_caller _ _ _ _ by, holder_there _ _ _ _ _ by _ (sym c.in_ok-into.ensures))

pub returns-then-ne : goal.returns-then-ne
returns-then-ne c =
    let (lent, by) = c.in_ok-book.ensures in
    link_six _ _ _ _ _ _ _ _ lent by _ (sym c.in_ok-place.ensures) _ (sym c.in_ok-into.ensures) (kind_other _ _ Segment c.kind_at.ensures (sym c.if-ne.ensures))

pub returns : goal.returns
returns c =
    let (lent, by) = c.in_ok-book.ensures in
    link_judged _ _ _ _ _ _ _ _ lent by _ (sym c.in_ok-place.ensures) _ (sym c.in_ok-into.ensures) (kind_same _ _ Segment c.kind_at.ensures (sym c.if-ne.ensures))
    _ c.admit.ensures
