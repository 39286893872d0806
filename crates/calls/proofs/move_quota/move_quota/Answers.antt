use Rattle.std.proofs.Common.{arith}
use mir.Facts.{to_z-of_z}
use Rattle.calls.specs.Laws.MoveQuota.{move_done}
use Rattle.calls.proofs.move_quota.move_quota.Goals as goal

pub returns : goal.returns
returns c =
    let n = rw (to_z-of_z c.ranges.n) at c.in-Ok.ensures in
    let same = c.array_in_mut-book.ensures.value in
    move_done _ _ _ _ _ _ _ _ n.0 n.1 _ _ (rw same at c.quota_of.ensures) c.moved_by-q.ensures _ (rw same at c.set_quota.ensures) _ (omega arith) c.move_on.ensures
