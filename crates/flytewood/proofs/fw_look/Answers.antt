use Rattle.flytewood.specs.Laws.{with_buffer}
use Rattle.flytewood.proofs.fw_look.Goals as goal

pub returns : goal.returns
returns c =
    with_buffer _ _ _ _ _ _ _ _ _ c.spread_answer.ensures.0 c.spread_answer.ensures.1 c.look.ensures.0
    c.slice_known-4-1.given c.slice_known-5-1.given _ _ c.look.ensures.1
