use Rattle.std.proofs.Common.{rules}
use Rattle.calls.specs.Laws.Read.{at_shown, off_shown}
use Rattle.calls.proofs.read.read.Goals as goal

pub returns-in-Ok : goal.returns-in-Ok
returns-in-Ok c = at_shown _ c.args.area _ _ _ _ _ _ _ _ (search rules) _ _ c.in-Ok.ensures (search rules) (search rules)

pub returns-in-Err : goal.returns-in-Err
returns-in-Err c = off_shown _ c.args.area _ _ _ _ _ _ _ _ (search rules) _ _ _ c.spread_answer.ensures.0 c.spread_answer.ensures.1 c.in-Err.ensures (search rules) (search rules)
