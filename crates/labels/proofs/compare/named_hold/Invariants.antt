use mathlib.Core.Path.{◌≡◌}
use lib.ListN.{drop}
use Rattle.labels.specs.Core.{allowed_at, every_named, spelt, meant}
use Rattle.labels.proofs.compare.named_hold.Given as goal

abbrev pub invariant-loop-i : goal.invariant-loop-i
invariant-loop-i l =
    every_named (allowed_at l.rule (meant l.x) (meant l.y) (meant l.z)) (spelt l.over.words.now)
    ≡ every_named (allowed_at l.rule (meant l.x) (meant l.y) (meant l.z)) (drop l.i (spelt l.over.words.now))
