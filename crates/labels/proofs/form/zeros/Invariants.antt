use mathlib.Core.Path.{◌≡◌}
use lib.ListN.{drop}
use Rattle.labels.specs.Core.{zeros_b, spelt}
use Rattle.labels.proofs.form.zeros.Given as goal

abbrev pub invariant-loop-i : goal.invariant-loop-i
invariant-loop-i l = zeros_b (drop l.from (spelt l.words)) ≡ zeros_b (drop l.i (spelt l.words))
