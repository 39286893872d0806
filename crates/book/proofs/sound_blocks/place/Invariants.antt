use Prim.Native.Nat.{◌*◌, ◌≤◌}
use mathlib.Core.Path.{◌≡◌}
use Rattle.tables.specs.Layout.{view}
use Rattle.book.specs.Seen.{offset_of, Offsets}
use Rattle.book.proofs.sound_blocks.place.Given as goal

abbrev pub invariant-loop-r : goal.invariant-loop-r
invariant-loop-r l = (l.sum ≡ offset_of (view l.b) l.r) × (l.sum ≤ l.r * 1024) × Offsets (view l.b) l.r l.offsets
