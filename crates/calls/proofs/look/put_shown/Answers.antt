use Rattle.std.proofs.Common.{rules}
use Rattle.std.proofs.lemmas.Grind.{common_steps}
use Rattle.labels.specs.Core.InPlace.{meant_default}
use Rattle.calls.proofs.look.put_shown.Goals as goal

pub returns : goal.returns
returns c = let d = meant_default c.args.label in search (rules, d, common_steps)
