use Rattle.std.proofs.Common.{◌∙◌, rules}
use Rattle.labels.specs.Le.Library.{eight_read}
use Rattle.labels.proofs.number.U64Number.get.Goals as goal

pub returns : goal.returns
returns c = c.from_le_bytes.ensures ∙ eight_read c.args.b.now c.in-Some.bytes.now c.args.from (search rules)
