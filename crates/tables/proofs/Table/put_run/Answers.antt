use native.Mathlib.Omega.{arith}
use Rattle.std.proofs.Common.{ap, ◌∙◌, ◌<◌, length}
use Rattle.tables.specs.Layout.Runs.{run_step}
use Rattle.tables.proofs.Table.put_run.Goals as goal

pub put-requires : goal.put-requires
put-requires g c =
    rw (c.numbered-table.ensures)
    (record { whole = c.loop-j.invariant.0; table = c.requires.table; wide = c.requires.wide; place = omega (arith, c.requires.place) })

pub loop-j-preserved : goal.loop-j-preserved
loop-j-preserved g c =
    let n = g.N.Number in
    let laws = g.met.N.Number in
    let s = c.args.s.now in
    let j = c.loop-j.j in
    let v = c.index-s-j.result in
    let reached : j < length (n.values s) = omega (arith, laws.many s) in
    let next = ap n.value c.index-s-j.is ∙ laws.each s j v c.loop-j-test.true in
    (c.put.array_long, run_step c.args.self.number c.args.i j (n.value v) (n.values s) _ _ _ reached next c.loop-j.invariant.1 (rw (c.numbered-table.ensures) at c.put.ensures))
