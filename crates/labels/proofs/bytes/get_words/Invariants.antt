use Prim.Native.Nat.{◌+◌, ◌*◌, ◌-◌}
use mathlib.Core.Path.{◌≡◌}
use mathlib.Core.List.{◌++◌}
use lib.ListN.{length, take}
use Rattle.labels.specs.Core.{words_at}
use Rattle.labels.proofs.bytes.get_words.Given as goal

abbrev pub invariant-loop-i : goal.invariant-loop-i
invariant-loop-i l =
    (length l.words ≡ length l.initial.words)
    × (words_at (length l.initial.words) l.b l.from ≡ take l.i l.words ++ words_at (length l.initial.words - l.i) l.b (l.from + l.i * 8))
