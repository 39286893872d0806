use Rattle.std.proofs.Common.{rules}
use Rattle.histories.proofs.Laws.Spelled.{left_after}
use Rattle.grantday.proofs.grows.Goals as goal

pub returns : goal.returns
returns g c =
    λ h a.
    left_after _ _ _ _ _ _ _
    (left_after _ _ _ _ _ _ _
    (left_after _ _ _ _ _ _ _ a c.resize.ensures.left (search rules) (search rules))
    c.resize-2.ensures.left (search rules) (search rules))
    c.create_thread.ensures.left c.type_inv.b c.type_inv.area
