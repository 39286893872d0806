use mathlib.Core.Path.{refl}
use Rattle.rules.specs.Answers.{output_size}
use Rattle.flytewood.specs.Laws.{no_buffer}
use Rattle.flytewood.proofs.fw_set_clearance.Goals as goal

pub returns : goal.returns
returns c =
    no_buffer _ _ _ _ _ _ _ _ _ c.spread_answer.ensures.0 c.spread_answer.ensures.1 c.set_clearance.ensures
    c.slice_known-3-1.given c.slice_known-4-1.given (unfold output_size in refl)
