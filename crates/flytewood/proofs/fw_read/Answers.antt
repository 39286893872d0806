use Rattle.flytewood.specs.Laws.{read_granted, read_refused}
use Rattle.flytewood.proofs.fw_read.Goals as goal

pub returns-in-Ok : goal.returns-in-Ok
returns-in-Ok c =
    read_granted _ _ _ _ _ _ _ _ _ c.slice_known-3-1.given
    c.slice_known-2-1.given _ _ _ c.in-Ok.ensures c.place_given.ensures

pub returns-in-Err : goal.returns-in-Err
returns-in-Err c =
    read_refused _ _ _ _ _ _ _ _ _ c.slice_known-3-1.given c.slice_known-2-1.given _ _ _
    c.spread_answer.ensures.0 c.spread_answer.ensures.1 c.in-Err.ensures
