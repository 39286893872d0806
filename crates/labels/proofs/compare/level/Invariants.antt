use mathlib.Core.Path.{◌≡◌}
use lib.ListN.{drop}
use Rattle.labels.specs.Core.{level_at, spelt}
use Rattle.labels.proofs.compare.level.Given as goal

abbrev pub invariant-loop-i : goal.invariant-loop-i
invariant-loop-i l = level_at l.l.default (spelt l.l.words.now) l.c ≡ level_at l.l.default (drop l.i (spelt l.l.words.now)) l.c
