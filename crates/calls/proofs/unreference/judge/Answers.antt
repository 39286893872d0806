use Rattle.std.proofs.Common.{rules, sym}
use Rattle.calls.specs.Laws.Unreference.{to_cut}
use Rattle.calls.proofs.unreference.judge.Goals as goal

pub returns : goal.returns
returns c =
    let (lent, by) = c.in_ok-book.ensures in
    to_cut _ _ _ _ _ _ _ lent by _ (sym c.in_ok-place.ensures) (search rules)
