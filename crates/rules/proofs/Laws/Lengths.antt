-- How many bytes a read takes, and how many a write and a resize leave.
use Rattle.std.specs.Prelude.{ℕ, ◌+◌, ◌≤◌, ◌≡◌, List, length, take, drop}
use Rattle.std.proofs.Common.{arith, length-append, length-take, length-drop}
use Rattle.std.proofs.lemmas.List.{length-replicate}
use Rattle.rules.specs.Kernel.{overwrite, resized}

-- a read within the bytes takes as many as asked
pub taken_length : (from n : ℕ) (bytes : List ℕ) → from + n ≤ length bytes → length (take n (drop from bytes)) ≡ n
taken_length from n bytes h = simp (length-take, length-drop) (omega arith)

-- a write within the bytes leaves their number
pub overwrite_length : (from : ℕ) (b bytes : List ℕ) → from + length b ≤ length bytes → length (overwrite from b bytes) ≡ length bytes
unfolding overwrite
overwrite_length from b bytes h = simp (length-append, length-take, length-drop) (omega arith)

-- a resize to n leaves n
pub resized_length : (n : ℕ) (bytes : List ℕ) → length (resized n bytes) ≡ n
unfolding resized
resized_length n bytes = simp (length-append, length-take, length-replicate) (omega arith)
