use Rattle.std.proofs.Common.{rules}
use Rattle.histories.proofs.Laws.Spelled.{start_begins}
use Rattle.grantday.specs.Steps.{can_start}
use Rattle.grantday.proofs.morning.Goals as goal

pub returns : goal.returns
returns g c =
    c.grows-grown.ensures _
    (c.grants-granted.ensures _
    (start_begins _ _ 100 _ _ _ c.requires.0 c.requires.1 can_start c.start.ensures (search rules) (search rules)))
