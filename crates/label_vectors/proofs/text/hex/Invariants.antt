use Rattle.std.proofs.Common.{length, ◌≡◌, ◌+◌, ◌*◌, drop}
use Rattle.label_vectors.specs.Text.{put, hex_of}
use Rattle.label_vectors.proofs.text.hex.Given as goal

abbrev pub invariant-loop-i : goal.invariant-loop-i
invariant-loop-i l =
    (length l.out ≡ length l.fn.out) × (put l.fn.out l.at (hex_of l.bytes) ≡ put l.out (l.at + l.i * 2) (hex_of (drop l.i l.bytes)))
