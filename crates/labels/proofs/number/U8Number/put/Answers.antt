use Rattle.std.proofs.Common.{ap, sym, mod-eq_of_lt, slice_set}
use Prim.Native.Nat.{ℕ}
use Rattle.labels.specs.Le.{le_set}
use Rattle.labels.proofs.number.U8Number.put.Goals as goal

pub returns : goal.returns
unfolding le_set
returns c = (ap (λ (n : ℕ). slice_set c.args.b.now c.args.from n) (sym (mod-eq_of_lt c.ranges.self.fits)), c.ranges.self.fits)
