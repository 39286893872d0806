use Rattle.std.proofs.Common.{rules, sym}
use Rattle.book.specs.declared.kinds.Kind.TheVariants.{Segment}
use Rattle.book.specs.Laws.Kinds.{kind_same, kind_other}
use Rattle.calls.specs.Laws.FixQuota.{fix_six, fix_seven, to_fix}
use Rattle.calls.proofs.fix_quota.judge.Goals as goal

pub returns-then-ne : goal.returns-then-ne
returns-then-ne c =
    let (lent, by) = c.in_ok-book.ensures in
    fix_six _ _ _ _ _ _ _ lent by _ (sym c.in_ok-place.ensures) (kind_other _ _ Segment c.kind_at.ensures (sym c.if-ne.ensures))

pub returns-in_err-allowed : goal.returns-in_err-allowed
returns-in_err-allowed c =
    let (lent, by) = c.in_ok-book.ensures in
    fix_seven _ _ _ _ _ _ _ lent by _ (sym c.in_ok-place.ensures) (kind_same _ _ Segment c.kind_at.ensures (sym c.if-ne.ensures)) _ (search rules) _
    c.from_residual-in_err-allowed.ensures

pub returns : goal.returns
returns c =
    let (lent, by) = c.in_ok-book.ensures in
    to_fix _ _ _ _ _ _ _ lent by _ (sym c.in_ok-place.ensures) (kind_same _ _ Segment c.kind_at.ensures (sym c.if-ne.ensures)) (search rules)
