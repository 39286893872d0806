-- Tests over the indices below n: whether one of them passes.
use Rattle.std.specs.Prelude.{◌≡◌, refl, Bool, true, false, ◌⊎◌, ℕ, zero, suc, ◌<◌}
use Rattle.std.proofs.Common.{sym, ◌∙◌, ap₂, subst, ⊎_elim, inl, inr, not-suc-le-zero, eq-or-lt_of_le, le_of_suc-le-suc, arith}

-- no test is true and false
pub no_both : (t : Bool) → t ≡ true → t ≡ false → ⊥
no_both t p q = let z : ◌≡◌ {A = ℕ} 0 1 = (let w : true ≡ false = sym p ∙ q in cc) in omega arith

-- `&&` and `||` that look at the second only if they must
unfoldable pub both : Bool → Bool → Bool
both true b = b
both false b = false

unfoldable pub either : Bool → Bool → Bool
either true b = true
either false b = b

-- t holds of some index below n
unfoldable pub any : ℕ → (ℕ → Bool) → Bool
any zero t = false
any (suc n) t = either (t n) (any n t)

pub both_parts : (a b : Bool) → both a b ≡ true → (a ≡ true) × (b ≡ true)
unfolding both
both_parts true b e = (refl, e)
both_parts false b e = absurd (no_both false e refl)

pub both_of : (a b : Bool) → a ≡ true → b ≡ true → both a b ≡ true
unfolding both
both_of true b p q = q
both_of false b p q = p

pub either_parts : (a b : Bool) → either a b ≡ true → (a ≡ true) ⊎ (b ≡ true)
unfolding either
either_parts true b e = inl refl
either_parts false b e = inr e

pub either_left : (a b : Bool) → a ≡ true → either a b ≡ true
unfolding either
either_left true b p = refl
either_left false b p = absurd (no_both false p refl)

pub either_right : (a b : Bool) → b ≡ true → either a b ≡ true
unfolding either
either_right true b p = refl
either_right false b p = p

pub any_found : (n : ℕ) (t : ℕ → Bool) → any n t ≡ true → (i : ℕ) × (i < n) × (t i ≡ true)
unfolding any
any_found zero t e = absurd (no_both false e refl)
any_found (suc n) t e =
    let P : Type 0 = (i : ℕ) × (i < suc n) × (t i ≡ true) in
    ⊎_elim {C = P} (λ p. (n, omega arith, p)) (λ p. let (i, l, q) = any_found n t p in (i, omega arith, q)) (either_parts (t n) (any n t) e)

pub any_of : (n : ℕ) (t : ℕ → Bool) (i : ℕ) → i < n → t i ≡ true → any n t ≡ true
unfolding any
any_of zero t i l e = absurd (not-suc-le-zero l)
any_of (suc n) t i l e =
    ⊎_elim (λ q. either_left (t n) (any n t) (subst (λ (k : ℕ). t k ≡ true) q e)) (λ k. either_right (t n) (any n t) (any_of n t i k e)) (eq-or-lt_of_le (le_of_suc-le-suc l))

-- the same tests, the same answer
pub any_cong : (n : ℕ) (t u : ℕ → Bool) → ((i : ℕ) → i < n → t i ≡ u i) → any n t ≡ any n u
unfolding any
any_cong zero t u h = refl
any_cong (suc n) t u h = ap₂ either (h n (omega arith)) (any_cong n t u (λ i l. h i (omega arith)))
