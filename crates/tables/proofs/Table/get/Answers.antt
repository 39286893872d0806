use Rattle.std.proofs.Common.{◌∙◌}
use Rattle.tables.specs.Layout.Laws.{slot_get}
use Rattle.tables.proofs.Table.get.Goals as goal

pub returns : goal.returns
returns g c = c.get.ensures ∙ slot_get _ _ _ _ _ c.requires (rw (c.WIDTH.ensures, c.place.ensures) at c.place_of.ensures.0)
