use Rattle.std.proofs.Common.{◌*◌, ◌≤◌}
use Rattle.label_vectors.proofs.main.Given as goal

abbrev pub invariant-loop : goal.invariant-loop
invariant-loop l = l.index ≤ 300 * l.counter
