use Rattle.std.proofs.Common.{◌∙◌}
use Rattle.labels.specs.Le.Library.{le_put, two_bytes}
use Rattle.labels.proofs.number.U16Number.put.Goals as goal

pub returns : goal.returns
returns c =
    (le_put 2 c.args.b.now _ c.args.from c.args.self c.requires (c.copy_from_slice.ensures.after ∙ c.to_le_bytes.ensures ∙ two_bytes c.args.self), c.ranges.self.fits)
