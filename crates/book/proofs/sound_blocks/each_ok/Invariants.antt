use Prim.Native.Nat.{◌≤◌}
use mathlib.Core.Bool.{true}
use mathlib.Core.Path.{◌≡◌}
use Rattle.tables.specs.Layout.{view}
use Rattle.book.specs.Test.{every, block_b}
use Rattle.book.specs.Seen.{used_below, Seen}
use Rattle.book.proofs.sound_blocks.each_ok.Given as goal

abbrev pub invariant-loop-i : goal.invariant-loop-i
invariant-loop-i l = (l.sum ≡ used_below (view l.b) l.i) × (l.sum ≤ l.i) × (every l.i (block_b (view l.b)) ≡ true) × Seen (view l.b) l.i l.seen
