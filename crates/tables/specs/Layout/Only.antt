-- Every byte is in exactly one field: two books with one view are one list.
use Rattle.std.specs.Prelude.{◌≡◌, List, length}
use Rattle.std.proofs.Common.{sym, ◌∙◌, eq-or-lt_of_le, arith, ext_get_or}
use Rattle.std.proofs.Math.Path.{ap}
use Rattle.std.proofs.Math.Logic.{⊎_elim}
use Prim.Native.Nat.{ℕ, zero, suc, ◌+◌, ◌*◌, ◌<◌, ◌≤◌}
use Rattle.std.proofs.Math.Nat.{suc-mul, zero-mul}
use Rattle.std.proofs.Math.ListN.{get_or}
use Rattle.labels.specs.Le.{le_at}
use Rattle.labels.specs.Le.Laws.{Below}
use Rattle.tables.specs.Layout.{table_count, w_of, n_of, base, size, nums, tab, tab_of, view}
use Rattle.tables.specs.Layout.Laws.{Agree, side, tab_of_is}

module _ (b c : List ℕ) (hb : Below 256 b) (hc : Below 256 c) where
  le_at_only : (w from : ℕ) → le_at w b from ≡ le_at w c from → Agree b c from (from + w)
  unfolding le_at
  le_at_only zero from e k lo hi = absurd (omega arith)
  le_at_only (suc w) from e k lo hi =
      let here : get_or b from 0 ≡ get_or c from 0 = omega (arith, hb from, hc from) in
      let rest : le_at w b (from + 1) ≡ le_at w c (from + 1) = omega (arith, hb from, hc from) in
      ⊎_elim (λ q. ap (λ (x : ℕ). get_or b x 0) (sym q) ∙ here ∙ ap (λ (x : ℕ). get_or c x 0) q)
      (λ l. le_at_only w (from + 1) rest k (omega arith) (omega arith))
      (eq-or-lt_of_le lo)

  nums_only : (w n from : ℕ) → nums w n b from ≡ nums w n c from → Agree b c from (from + n * w)
  unfolding nums
  nums_only w zero from e k lo hi = absurd (omega (arith, zero-mul w))
  nums_only w (suc n) from e k lo hi =
      let here : le_at w b from ≡ le_at w c from = cc in
      let rest : nums w n b (from + w) ≡ nums w n c (from + w) = cc in
      ⊎_elim (λ q. le_at_only w from here k lo q) (λ q. nums_only w n (from + w) rest k q (omega (arith, suc-mul n w))) (side k (from + w))

  module _ (e : view b ≡ view c) where
    tab_only : (t : ℕ) → t < table_count → tab b t ≡ tab c t
    tab_only t h = sym (tab_of_is b t h) ∙ ap (λ k. tab_of k t) e ∙ tab_of_is c t h

    in_tab : (t : ℕ) → t < table_count → nums (w_of t) (n_of t) b (base t) ≡ nums (w_of t) (n_of t) c (base t)
    unfolding tab
    in_tab t h = tab_only t h

    -- the bytes of the first m tables
    up_to : (m : ℕ) → m ≤ table_count → Agree b c 0 (base m)
    up_to zero h k lo hi = absurd (omega arith)
    up_to (suc m) h k lo hi =
        ⊎_elim (λ q. up_to m (omega arith) k lo q)
        (λ q. nums_only (w_of m) (n_of m) (base m) (in_tab m (omega arith)) k q hi)
        (side k (base m))

    pub view_only : length b ≡ size → length c ≡ size → b ≡ c
    view_only lb lc = ext_get_or 0 b c (lb ∙ sym lc) (λ k h. up_to table_count (omega arith) k (omega arith) (omega arith))
