use mathlib.Core.Path.{◌≡◌}
use mathlib.Core.List.{◌++◌}
use lib.ListN.{length, take, drop}
use Rattle.labels.specs.Core.{insert_w}
use Rattle.labels.proofs.pair.insert.Given as goal

abbrev pub invariant-loop-x : goal.invariant-loop-x
invariant-loop-x l =
    (length l.x-items ≡ length l.fn.words) × (insert_w l.w l.fn.words ≡ take l.x-index l.x-items ++ insert_w l.carry (drop l.x-index l.x-items))
