use native.Mathlib.Omega.{arith}
use Rattle.tables.specs.Layout.Runs.{run_room, part_bytes}
use Rattle.tables.proofs.Table+I+u8.run.Goals as goal

pub overflow_add-result : goal.overflow_add-result
overflow_add-result g c = omega (arith, run_room _ _ _ _ _ c.requires, c.place_of-from.ensures.0)

pub slice_bounds-result-end : goal.slice_bounds-result-end
slice_bounds-result-end g c = omega (arith, run_room _ _ _ _ _ c.requires, c.place_of-from.ensures.0)

pub returns : goal.returns
returns g c = part_bytes _ _ _ _ _ c.requires c.place_of-from.ensures.0
