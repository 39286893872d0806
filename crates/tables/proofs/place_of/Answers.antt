use native.Mathlib.Omega.{arith}
use Rattle.std.proofs.Common.{refl}
use Rattle.tables.specs.Layout.Laws.{place_room, place_reach}
use Rattle.tables.proofs.place_of.Goals as goal

pub overflow_mul-result : goal.overflow_mul-result
overflow_mul-result c = omega (arith, place_room c.args.t c.args.w c.args.i c.requires.0 c.requires.1 c.requires.2)

pub overflow_add-result : goal.overflow_add-result
overflow_add-result c = omega (arith, place_room c.args.t c.args.w c.args.i c.requires.0 c.requires.1 c.requires.2, c.base_of.ensures)

pub returns : goal.returns
returns c =
    let a = c.args in
    let h = c.requires in
    rw c.base_of.ensures (refl, place_room a.t a.w a.i h.0 h.1 h.2, place_reach a.t a.w a.i h.0 h.1)
