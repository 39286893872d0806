use Rattle.std.proofs.Common.{rules}
use Rattle.histories.proofs.Laws.Spelled.{left_after}
use Rattle.grantday.proofs.crowds.Goals as goal

pub returns : goal.returns
returns g c =
    λ h a.
    left_after _ _ _ _ _ _ _
    (left_after _ _ _ _ _ _ _
    (left_after _ _ _ _ _ _ _ a c.set_label.ensures.left (search rules) (search rules))
    c.create_segment.ensures.left (search rules) (search rules))
    c.create_segment-2.ensures.left c.type_inv.b c.type_inv.area
