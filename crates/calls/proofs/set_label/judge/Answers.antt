use Rattle.std.proofs.Common.{rules}
use Rattle.calls.specs.Laws.SetLabel.{to_set_label}
use Rattle.calls.proofs.set_label.judge.Goals as goal

pub returns : goal.returns
returns c =
    let (lent, by) = c.in_ok-book.ensures in
    to_set_label _ _ _ _ _ _ lent by (search rules) _ (search rules) (search rules)
