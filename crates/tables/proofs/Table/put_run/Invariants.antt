use Rattle.std.proofs.Common.{◌≡◌, length, take}
use Rattle.tables.specs.Layout.{size, view, run_t}
use Rattle.tables.proofs.Table.put_run.Given as goal

abbrev pub invariant-loop-j : goal.invariant-loop-j
invariant-loop-j g l = (length l.b ≡ size) × (view l.b ≡ run_t l.fn.self.number l.i (take l.j (g.N.Number.values l.s)) (view l.initial.b))
