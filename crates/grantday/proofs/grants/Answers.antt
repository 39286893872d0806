use Rattle.std.proofs.Common.{rules}
use Rattle.histories.proofs.Laws.Spelled.{left_after}
use Rattle.grantday.proofs.grants.Goals as goal

pub returns : goal.returns
returns g c =
    λ h a.
    left_after _ _ _ _ _ _ _
    (left_after _ _ _ _ _ _ _
    (left_after _ _ _ _ _ _ _ a c.create_category.ensures.left (search rules) (search rules))
    c.create_container.ensures.left (search rules) (search rules))
    c.create_segment.ensures.left c.type_inv.b c.type_inv.area
