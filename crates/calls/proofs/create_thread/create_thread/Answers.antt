use Rattle.std.proofs.Common.{rules}
use Rattle.calls.specs.Laws.CreateThread.{thread_creating, thread_done}
use Rattle.calls.proofs.create_thread.create_thread.Goals as goal

pub make_in-requires : goal.make_in-requires
make_in-requires c =
    let p = c.in-Ok.ensures in
    thread_creating _ _ _ _ _ p.1.0.good _ _ _ c.new_row-row.ensures p.1.1 p.1.2 _ _ _ _ _ c.array_in_mut.ensures.value p.0 p.1.0

pub returns : goal.returns
returns c =
    let p = c.in-Ok.ensures in
    thread_done _ _ _ _ _ p.1.0.good _ _ _ c.new_row-row.ensures p.1.1 p.1.2 _ _ _ _ _ c.array_in_mut.ensures.value p.0 p.1.0
    _ (search rules) c.make_in.ensures.b_after _ c.make_in.ensures.value
