use native.Mathlib.Omega.{arith}
use Rattle.labels.specs.Le.{le_at}
use Rattle.labels.proofs.number.U8Number.get.Goals as goal

pub returns : goal.returns
unfolding le_at
returns c = omega arith
