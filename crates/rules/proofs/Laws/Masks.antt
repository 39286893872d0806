-- Masks of kinds: a mask joined with another includes it.
use Rattle.std.specs.Prelude.{ℕ, ◌+◌, ◌*◌, ◌/◌, ◌%◌, ◌≤◌, max, ◌≡◌}
use Rattle.std.proofs.Common.{sym, ◌∙◌, ap₂, arith}
use Rattle.std.proofs.Math.Nat.{max-le, max-eq_left, le-max_right}
use Rattle.std.proofs.Math.Arith.{bin_ind}
use Rattle.std.specs.Int.Bits.{bit_or, or_step, or_self}
use Rattle.std.proofs.lemmas.Nat.{or_lt}
use Rattle.rules.specs.Kernel.{mask_width, max_mask}

-- joined twice is joined once
pub or_twice : (m p : ℕ) → bit_or (bit_or m p) p ≡ bit_or m p
or_twice = bin_ind (λ (n : ℕ). (p : ℕ) → bit_or (bit_or n p) p ≡ bit_or n p) or_self step
  where
    step : (n : ℕ) → ((p : ℕ) → bit_or (bit_or (n / 2) p) p ≡ bit_or (n / 2) p) → (p : ℕ) → bit_or (bit_or n p) p ≡ bit_or n p
    step n ih p =
        let e : bit_or n p ≡ bit_or (n / 2) (p / 2) * 2 + max (n % 2) (p % 2) = or_step n p in
        let l : max (n % 2) (p % 2) ≤ 1 = max-le (omega arith) (omega arith) in
        let half : bit_or n p / 2 ≡ bit_or (n / 2) (p / 2) = omega arith in
        let odd : bit_or n p % 2 ≡ max (n % 2) (p % 2) = omega arith in
        or_step (bit_or n p) p
        ∙ ap₂ (λ (x y : ℕ). bit_or x (p / 2) * 2 + max y (p % 2)) half odd
        ∙ ap₂ (λ (x y : ℕ). x * 2 + y) (ih (p / 2)) (max-eq_left (le-max_right (n % 2) (p % 2)))
        ∙ sym e

-- two masks joined are a mask
pub or_mask : (m p : ℕ) → m ≤ max_mask → p ≤ max_mask → bit_or m p ≤ max_mask
or_mask m p a b = let l = or_lt mask_width m p (omega arith) (omega arith) in omega arith
