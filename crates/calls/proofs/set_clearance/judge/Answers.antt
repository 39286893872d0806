use Rattle.std.proofs.Common.{rules}
use Rattle.calls.specs.Laws.SetClearance.{to_set_clearance}
use Rattle.calls.proofs.set_clearance.judge.Goals as goal

pub returns : goal.returns
returns c =
    let (lent, by) = c.in_ok-book.ensures in
    to_set_clearance _ _ _ _ _ _ lent by (search rules) _ (search rules) (search rules)
