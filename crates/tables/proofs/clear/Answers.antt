use Rattle.tables.specs.Layout.{size}
use Rattle.tables.specs.Layout.Zero.{zeros_empty}
use Rattle.tables.proofs.clear.Goals as goal

pub returns : goal.returns
returns c = zeros_empty size
