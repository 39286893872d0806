use Rattle.std.proofs.Common.{rules, sym}
use Rattle.book.specs.declared.kinds.Kind.TheVariants.{Gate}
use Rattle.book.specs.Laws.Kinds.{kind_same, kind_other}
use Rattle.calls.specs.Laws.EnterGate.{gate_six, gate_seven, to_enter}
use Rattle.calls.proofs.enter_gate.judge.Goals as goal

pub returns-then-ne : goal.returns-then-ne
returns-then-ne c =
    let (lent, by) = c.in_ok-book.ensures in
    let other = kind_other _ _ Gate c.kind_at.ensures (sym c.if-ne.ensures) in
    gate_six _ _ _ _ _ _ _ _ _ _ _ lent by (search rules) _ (sym c.in_ok-place.ensures) other

pub returns-in_err-conditions : goal.returns-in_err-conditions
returns-in_err-conditions c =
    let (lent, by) = c.in_ok-book.ensures in
    let code = kind_same _ _ Gate c.kind_at.ensures (sym c.if-ne.ensures) in
    gate_seven _ _ _ _ _ _ _ _ _ _ _ lent by (search rules) _ (sym c.in_ok-place.ensures) code _ (search rules) _ c.from_residual-in_err-conditions.ensures

pub returns : goal.returns
returns c =
    let (lent, by) = c.in_ok-book.ensures in
    let code = kind_same _ _ Gate c.kind_at.ensures (sym c.if-ne.ensures) in
    to_enter _ _ _ _ _ _ _ _ _ _ _ lent by (search rules) _ (sym c.in_ok-place.ensures) code _ _ (search rules) (search rules) (search rules)
