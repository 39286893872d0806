use Rattle.std.specs.Prelude.{refl}
use Rattle.std.proofs.Common.{rules, arith}
use Rattle.calls.specs.Laws.Output.{output_granted}
use Rattle.calls.specs.Laws.Relabel.{relabel_valued}
use Rattle.calls.proofs.enter_gate.enter_gate.Goals as goal

pub returns-in-Ok : goal.returns-in-Ok
returns-in-Ok c =
    let m = c.in-Ok.ensures in (
      relabel_valued _ _ _ _ _ _ _ _ _ m.0 m.1.relabels c.entry_number_of-value.result (search rules)
          _ _ refl refl _ (omega arith) (search rules),
      output_granted _ _ _ _ _ _ m.1.relabels.granted (search rules),
    )
