use Rattle.std.proofs.Common.{rules, arith}
use Rattle.calls.specs.Laws.Write.{write_done}
use Rattle.calls.proofs.write.write.Goals as goal

pub returns : goal.returns
returns c =
    let n = c.in-Ok.ensures in
    write_done _ _ _ _ _ _ _ _ _ _ n.0 n.1 _ c.write_area.ensures _ (omega arith) (search rules)
