use Rattle.std.proofs.Common.{rules, sym}
use Rattle.book.specs.declared.kinds.Kind.TheVariants.{Segment}
use Rattle.book.specs.Laws.Kinds.{kind_same, kind_other}
use Rattle.calls.specs.Laws.Resize.{resize_six, resize_seven, resize_thirteen, to_resize}
use Rattle.calls.proofs.resize.judge.Goals as goal

pub returns-then-ne : goal.returns-then-ne
returns-then-ne c =
    let (lent, by) = c.in_ok-book.ensures in
    resize_six _ _ _ _ _ _ _ _ lent by c.if-length-gt-MAX_LENGTH.false _ (sym c.in_ok-place.ensures) (kind_other _ _ Segment c.kind_at.ensures (sym c.if-ne.ensures))

pub returns-in_err-writing : goal.returns-in_err-writing
returns-in_err-writing c =
    let (lent, by) = c.in_ok-book.ensures in
    let code = kind_same _ _ Segment c.kind_at.ensures (sym c.if-ne.ensures) in
    resize_seven _ _ _ _ _ _ _ _ lent by c.if-length-gt-MAX_LENGTH.false _ (sym c.in_ok-place.ensures) code _ (search rules) _ c.from_residual-in_err-writing.ensures

pub returns-then-quota_of-units : goal.returns-then-quota_of-units
returns-then-quota_of-units c =
    let (lent, by) = c.in_ok-book.ensures in
    let code = kind_same _ _ Segment c.kind_at.ensures (sym c.if-ne.ensures) in
    resize_thirteen _ _ _ _ _ _ _ _ lent by c.if-length-gt-MAX_LENGTH.false _ (sym c.in_ok-place.ensures) code (search rules) (search rules)

pub returns : goal.returns
returns c =
    let (lent, by) = c.in_ok-book.ensures in
    to_resize _ _ _ _ _ _ _ _ lent by c.if-length-gt-MAX_LENGTH.false _ (sym c.in_ok-place.ensures) (kind_same _ _ Segment c.kind_at.ensures (sym c.if-ne.ensures)) (search rules) (search rules)
