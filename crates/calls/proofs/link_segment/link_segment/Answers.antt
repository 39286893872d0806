use Rattle.std.proofs.Common.{arith}
use Rattle.calls.specs.Laws.LinkSegment.{link_done}
use Rattle.calls.proofs.link_segment.link_segment.Goals as goal

pub returns-in-Ok : goal.returns-in-Ok
returns-in-Ok c =
    let n = c.in-Ok.ensures in
    link_done _ _ _ _ _ _ _ _ n.0 n.1 _ (omega arith) (rw c.array_in_mut.ensures.value at c.add_link.ensures.b_after)
