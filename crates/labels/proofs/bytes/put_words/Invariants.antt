use Prim.Native.Nat.{◌+◌, ◌*◌}
use mathlib.Core.Path.{◌≡◌}
use lib.ListN.{length, drop}
use Rattle.labels.specs.Core.Bytes.{pasted}
use Rattle.labels.proofs.bytes.put_words.Given as goal

abbrev pub invariant-loop-i : goal.invariant-loop-i
invariant-loop-i l =
    (length l.out ≡ length l.initial.out) × (pasted l.initial.out l.from l.words ≡ pasted l.out (l.from + l.i * 8) (drop l.i l.words))
