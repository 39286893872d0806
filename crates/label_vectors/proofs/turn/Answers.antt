use Rattle.std.proofs.Common.{arith, length-take}
use Rattle.label_vectors.specs.Line.Laws.{lines_within}
use Rattle.label_vectors.proofs.turn.Goals as goal

pub slice_bounds-out-end : goal.slice_bounds-out-end
slice_bounds-out-end g c = omega (arith, lines_within _ _ _ _ c.put_lines-used.ensures.0)

pub slice_bounds-write_all-end : goal.slice_bounds-write_all-end
slice_bounds-write_all-end g c = simp length-take (omega (arith, lines_within _ _ _ _ c.put_lines-used.ensures.0))
