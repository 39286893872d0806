use Rattle.std.proofs.Common.{rules, arith}
use Rattle.calls.specs.Laws.Output.{output_granted}
use Rattle.calls.specs.Laws.Look.{look_done}
use Rattle.calls.proofs.look.look.Goals as goal

pub returns-in-Ok : goal.returns-in-Ok
returns-in-Ok c =
    let m = c.in-Ok.ensures in (
      look_done _ _ _ _ _ _ _ _ m.0 m.1 _ (omega arith) (search rules),
      output_granted _ _ _ _ _ _ m.1.granted (search rules),
    )
