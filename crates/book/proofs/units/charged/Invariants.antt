use Prim.Native.Nat.{◌*◌, ◌≤◌}
use mathlib.Core.Path.{◌≡◌}
use Rattle.quotas.specs.Sum.{Σ}
use Rattle.tables.specs.Layout.{view}
use Rattle.book.specs.Units.{charge_of}
use Rattle.book.proofs.units.charged.Given as goal

abbrev pub invariant-loop-l : goal.invariant-loop-l
invariant-loop-l l = (l.sum ≡ Σ l.l (charge_of (view l.b) l.c)) × (l.sum ≤ l.l * 65536)
