use mathlib.Core.Path.{◌≡◌}
use lib.ListN.{drop}
use Rattle.labels.specs.Core.{words_b, formed_b, spelt}
use Rattle.labels.proofs.form.well_formed.Given as goal

abbrev pub invariant-loop-i : goal.invariant-loop-i
invariant-loop-i l =
    formed_b l.bound l.star l.l.default (spelt l.l.words.now) ≡ words_b l.bound l.star l.l.default l.last (drop l.i (spelt l.l.words.now))
