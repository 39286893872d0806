use native.Mathlib.Omega.{arith}
use borrow.Author.Rules.{rules}
use Rattle.labels.specs.Core.InPlace.{held_part, held_past}
use Rattle.labels.proofs.in_place.words_of.Goals as goal
use Rattle.labels.proofs.in_place.words_of.Goals.{then-n-lt-SIZE-via-then-n-lt-SIZE, then-n-lt-SIZE-via-else-n-lt-SIZE+then-n-from}

pub returns-then-n-lt-SIZE : goal.returns-then-n-lt-SIZE
returns-then-n-lt-SIZE c =
    elim c.then-n-lt-SIZE.branch [
      | then-n-lt-SIZE-via-then-n-lt-SIZE w ↦ held_past c.args.b.now _ c.args.from (omega arith) (search rules)
      | then-n-lt-SIZE-via-else-n-lt-SIZE+then-n-from w ↦ held_past c.args.b.now _ c.args.from (omega arith) (search rules)
    ]

pub returns : goal.returns
returns c = held_part c.args.b.now _ c.args.from (omega arith) (search rules)
