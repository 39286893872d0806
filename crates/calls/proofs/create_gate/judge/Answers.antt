use Rattle.std.proofs.Common.{rules, sym}
use Rattle.calls.specs.Laws.Creating.{admissible}
use Rattle.calls.specs.Laws.CreateGate.{gate_granted}
use Rattle.calls.proofs.create_gate.judge.Goals as goal

pub admit-requires : goal.admit-requires
admit-requires c = admissible _ _ _ _ _ c.in_ok-book.ensures.1 _ (sym c.in_ok-container.ensures)

pub returns : goal.returns
returns c =
    let (lent, by) = c.in_ok-book.ensures in
    gate_granted _ _ _ _ _ _ _ _ _ _ _ lent by (search rules) _ (sym c.in_ok-container.ensures) _ (search rules) _ (sym c.in_ok-c.ensures) _ _ (search rules) (search rules)
