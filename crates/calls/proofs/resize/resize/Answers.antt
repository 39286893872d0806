use Rattle.std.proofs.Common.{arith}
use Rattle.calls.specs.Laws.Resize.{resized_number, resize_done}
use Rattle.calls.proofs.resize.resize.Goals as goal

pub move_on-requires : goal.move_on-requires
move_on-requires c =
    let n = c.in-Ok.ensures in
    let k = rw (c.array_in_mut-book.ensures.value, c.array_in_mut.ensures.value) at c.resize.ensures in
    resized_number _ _ _ _ _ _ _ n.0 n.1 _ _ k.0 k.1

pub returns : goal.returns
returns c =
    let n = c.in-Ok.ensures in
    let k = rw (c.array_in_mut-book.ensures.value, c.array_in_mut.ensures.value) at c.resize.ensures in
    resize_done _ _ _ _ _ _ _ n.0 n.1 _ _ k.0 k.1 _ (omega arith) c.move_on.ensures
