-- A book of zeros.
use Rattle.std.specs.Prelude.{◌≡◌, get_or, replicate}
use Rattle.std.proofs.Math.Path.{refl, ap₂}
use Prim.Native.Nat.{ℕ, zero, suc, ◌+◌}
use Rattle.std.proofs.Common.{arith}
use mathlib.Core.List.{List, ◌∷◌}
use Rattle.labels.specs.Le.{le_at}
use Rattle.tables.specs.Layout.{w_of, n_of, base, nums, tab, view, zeros, empty}
use Rattle.tables.specs.Layout.Laws.{tabs_same}

module _ (b : List ℕ) (h : (k : ℕ) → get_or b k 0 ≡ 0) where
  le_at_zero : (w from : ℕ) → le_at w b from ≡ 0
  unfolding le_at
  le_at_zero zero from = refl
  le_at_zero (suc w) from = omega (arith, h from, le_at_zero w (from + 1))

  nums_zero : (w n from : ℕ) → nums w n b from ≡ zeros n
  unfolding nums zeros
  nums_zero w zero from = refl
  nums_zero w (suc n) from = ap₂ (λ (x : ℕ) (y : List ℕ). x ∷ y) (le_at_zero w from) (nums_zero w n (from + w))

  tab_zero : (t : ℕ) → tab b t ≡ zeros (n_of t)
  unfolding tab
  tab_zero t = nums_zero (w_of t) (n_of t) (base t)

  pub view_zero : view b ≡ empty
  unfolding view empty
  view_zero = tabs_same (tab b) (λ t. zeros (n_of t)) (λ t q. tab_zero t)

-- bytes that are all zeros
pub zeros_empty : (n : ℕ) → view (replicate n 0) ≡ empty
zeros_empty n = view_zero (replicate n 0) (at n)
  where
    at : (n k : ℕ) → ◌≡◌ {A = ℕ} (get_or (replicate n 0) k 0) 0
    at zero k = refl
    at (suc n) zero = refl
    at (suc n) (suc k) = at n k
