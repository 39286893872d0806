use Rattle.std.proofs.Common.{arith}
use Rattle.calls.specs.Laws.FixQuota.{fix_done}
use Rattle.calls.proofs.fix_quota.fix_quota.Goals as goal

pub returns : goal.returns
returns c =
    let n = c.in-Ok.ensures in
    fix_done _ _ _ _ _ _ n.0 n.1 _ (rw c.array_in_mut-book.ensures.value at c.fix.ensures) _ (omega arith) c.move_on.ensures
