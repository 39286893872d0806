use Rattle.std.proofs.Common.{ap, ◌∙◌}
use Rattle.tables.specs.Layout.{view}
use Rattle.tables.specs.Layout.Laws.{slot_put}
use Rattle.tables.proofs.Table.put.Goals as goal

pub returns : goal.returns
returns g c =
    ap view c.put.ensures.0 ∙ slot_put _ _ _ _ _ _ c.requires c.put.ensures.1 (rw (c.WIDTH.ensures, c.place.ensures) at c.place_of.ensures.0)
