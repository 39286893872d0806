use native.Mathlib.Omega.{arith}
use Rattle.tables.specs.Layout.Runs.{run_room, part_words}
use Rattle.tables.proofs.Table+I+u64.words.Goals as goal

pub overflow_mul-result : goal.overflow_mul-result
overflow_mul-result g c = omega (arith, run_room _ _ _ _ _ c.requires)

pub overflow_add-result : goal.overflow_add-result
overflow_add-result g c = omega (arith, run_room _ _ _ _ _ c.requires, c.place_of-from.ensures.0)

pub slice_bounds-result-end : goal.slice_bounds-result-end
slice_bounds-result-end g c = omega (arith, run_room _ _ _ _ _ c.requires, c.place_of-from.ensures.0)

pub returns : goal.returns
returns g c = part_words _ _ _ _ _ c.requires c.place_of-from.ensures.0
