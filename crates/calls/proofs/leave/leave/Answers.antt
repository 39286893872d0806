use Rattle.std.proofs.Common.{rules}
use Rattle.calls.specs.Laws.Leave.{left_early, left_late}
use Rattle.calls.proofs.leave.leave.Goals as goal

pub returns-then-n-le-LAST_FREE : goal.returns-then-n-le-LAST_FREE
returns-then-n-le-LAST_FREE g c = left_early _ _ _ c.from-n.ensures c.if-n-le-LAST_FREE.true

pub returns : goal.returns
returns g c = left_late _ _ _ c.from-n.ensures c.if-n-le-LAST_FREE.false _ (search rules) (search rules)
