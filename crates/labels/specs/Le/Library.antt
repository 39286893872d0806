-- The library's ways from a number to its bytes and back are those of Le.
use Rattle.std.specs.Prelude.{ℕ, ◌+◌, ◌-◌, ◌≤◌, ◌≡◌, refl, List, [], ◌∷◌, ◌++◌, length, get_or, take, drop}
use Rattle.std.specs.Int.{w16, w64, from_le_bytes, to_le_bytes}
use Rattle.std.proofs.Common.{ap, ap₂, sym, ◌∙◌, add-zero, arith, drop-drop}
use Rattle.std.proofs.Math.Nat.{div-div-eq-div-mul}
use borrow.Rule.Slice.PartMut.{put_mid}
use Rattle.labels.specs.Le.{le_at, le_set, le_bytes}
use Rattle.labels.specs.Le.Laws.{le_set_is, le_at_part}

-- ---- bytes that are read

pub two_read : (b : List ℕ) (from : ℕ) → from_le_bytes w16 (get_or b from 0 ∷ get_or b (from + 1) 0 ∷ []) ≡ le_at 2 b from
unfolding le_at
two_read b from = omega arith

eight : (b : List ℕ) → from_le_bytes w64 b ≡ le_at 8 b 0
unfolding le_at
eight b = omega arith

pub eight_read : (b part : List ℕ) (from : ℕ) → part ≡ take (from + 8 - from) (drop from b) → from_le_bytes w64 part ≡ le_at 8 b from
eight_read b part from e =
    let m : from + 8 - from ≡ 8 = omega arith in
    ap (from_le_bytes w64) (e ∙ ap (λ (n : ℕ). take n (drop from b)) m) ∙ eight (take 8 (drop from b))
    ∙ le_at_part 8 b from 8 0 (omega arith) ∙ ap (le_at 8 b) (add-zero from)

-- ---- bytes that are written

pub two_bytes : (v : ℕ) → to_le_bytes w16 v ≡ le_bytes 2 v
unfolding le_bytes
two_bytes v = refl

pub eight_bytes : (v : ℕ) → to_le_bytes w64 v ≡ le_bytes 8 v
unfolding le_bytes
eight_bytes v = simp div-div-eq-div-mul

-- in place of as many bytes
pub le_put : (w : ℕ) (b p : List ℕ) (from v : ℕ) → from + w ≤ length b → p ≡ le_bytes w v → put_mid from (from + w - from) b p ≡ le_set w b from v
le_put w b p from v h e =
    let m : from + w - from ≡ w = omega arith in
    ap₂ (λ (x : List ℕ) (y : List ℕ). take from b ++ (x ++ y)) e (ap (λ (n : ℕ). drop n (drop from b)) m ∙ drop-drop w from b)
    ∙ sym (le_set_is w b from v h)
