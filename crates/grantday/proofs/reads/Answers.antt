use Rattle.histories.proofs.Laws.Spelled.{left_after}
use Rattle.grantday.proofs.reads.Goals as goal

pub returns : goal.returns
returns g c = λ h a. left_after _ _ _ _ _ _ _ a c.read.ensures.left c.type_inv.b c.type_inv.area
