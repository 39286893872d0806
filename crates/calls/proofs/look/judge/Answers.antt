use Rattle.std.proofs.Common.{sym}
use Rattle.calls.specs.Laws.Look.{to_look}
use Rattle.calls.proofs.look.judge.Goals as goal

pub returns : goal.returns
returns c =
    let (lent, by) = c.in_ok-book.ensures in
    to_look _ _ _ _ _ _ _ _ lent by c.if-n-ne-LOOK_SIZE.false _ (sym c.in_ok-object.ensures)
