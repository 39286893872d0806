use Rattle.std.proofs.Common.{rules}
use Rattle.calls.specs.Laws.CreateContainer.{container_creating, container_done}
use Rattle.calls.proofs.create_container.create_container.Goals as goal

pub make_in-requires : goal.make_in-requires
make_in-requires c =
    let p = c.in-Ok.ensures in
    container_creating _ _ _ _ _ _ p.1.0.good _ _ _ _ _ c.array_in_mut-book.ensures.value p.0 p.1.0 _ _ _ _ _
    c.new_row-row.ensures p.1.1 c.joined-all.ensures.0 c.mask_of.ensures c.or_default.ensures

pub returns : goal.returns
returns c =
    let p = c.in-Ok.ensures in
    container_done _ _ _ _ _ _ p.1.0.good _ _ _ _ _ c.array_in_mut-book.ensures.value p.0 p.1.0 _ _ _ _ _
    c.new_row-row.ensures p.1.1 c.joined-all.ensures.0 c.mask_of.ensures c.or_default.ensures
    _ (search rules) c.make_in.ensures.b_after _ c.make_in.ensures.value
