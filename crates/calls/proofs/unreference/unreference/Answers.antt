use Rattle.std.proofs.Common.{arith}
use Rattle.calls.specs.Laws.Unreference.{cut_done}
use Rattle.calls.proofs.unreference.unreference.Goals as goal

pub returns-in-Ok : goal.returns-in-Ok
returns-in-Ok c =
    let n = c.in-Ok.ensures in
    let k = rw (c.array_in_mut.ensures.value, c.array_in_mut-in-Ok.ensures.value) at c.cut_entry.ensures in
    cut_done _ _ _ _ _ _ n.0 n.1 _ _ (omega arith) k.b_after k.area_after
