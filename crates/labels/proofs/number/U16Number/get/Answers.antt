use Rattle.std.proofs.Common.{◌∙◌}
use Rattle.labels.specs.Le.Library.{two_read}
use Rattle.labels.proofs.number.U16Number.get.Goals as goal

pub returns : goal.returns
returns c = c.from_le_bytes.ensures ∙ two_read c.args.b.now c.args.from
