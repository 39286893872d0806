-- What the tests of links say: where they lead, masks, and that none occurs twice.
use Rattle.std.specs.Prelude.{ℕ, zero, suc, ◌+◌, ◌-◌, ◌<◌, ◌≤◌, Bool, ◌≡◌, eqb, ltb}
use Rattle.std.proofs.Common.{eq-or-lt_of_le, arith, ⊎_elim, sym, ◌∙◌, ap}
use Rattle.std.proofs.Math.Bool.{true, false, not, cond}
use Rattle.std.proofs.Math.Path.{refl}
use Rattle.std.specs.Int.Bits.{bit_or}
use Rattle.std.proofs.Math.Dec.{leb}
use borrow.Author.Tests.{eq-eqb, ne_eqb, eqb-true, eqb-false, lt-ltb, ltb-true, leb-true}
use Rattle.quotas.specs.Sum.{Σ, when, sum_term, when_true}
use Rattle.rules.specs.Kernel.{container_code}
use Rattle.tables.specs.Layout.{View, row_count, link_count}
use Rattle.book.specs.Book.{code_of, mask_of, mark_of, from_of, to_of, live_link}
use Rattle.book.specs.Sound.{On, Ends, links_to}
use Rattle.book.specs.Test.{every, mask_n, ends_b, link_b, same_b, once_b}
use Rattle.book.specs.Laws.Tests.{and_l, and_r, unless, unless_by, only, only_by, not_by, not_of, every_of, every_by}

-- Two terms are no more than the sum.
pub two_terms : (n : ℕ) (f : ℕ → ℕ) (i j : ℕ) → i < j → j < n → f i + f j ≤ Σ n f
unfolding Σ
two_terms zero f i j h l = absurd (omega arith)
two_terms (suc n) f i j h l =
    ⊎_elim
    (λ e. let g : f j ≡ f n = ap f e in omega (arith, sum_term n f i (omega arith)))
    (λ k. omega (arith, two_terms n f i j h k))
    (eq-or-lt_of_le {n = j} {m = n} (omega arith))

-- marks of the same row
pred_same : (x y : ℕ) → (x ≡ 0 → ⊥) → (y ≡ 0 → ⊥) → x - 1 ≡ y - 1 → x ≡ y
pred_same zero y p q e = absurd (p refl)
pred_same (suc x) zero p q e = absurd (q refl)
pred_same (suc x) (suc y) p q e = omega arith

-- RULES 5.9: "A container's mask has all bits of the mask of the container that it is linked in."
abbrev pub Masked : View → ℕ → Type 0
Masked v l = code_of v (to_of v l) ≡ container_code → bit_or (mask_of v (to_of v l)) (mask_of v (from_of v l)) ≡ mask_of v (to_of v l)

-- no live link below l is the same
abbrev pub Apart : View → ℕ → Type 0
Apart v l = (m : ℕ) → On v m → m < l → from_of v l ≡ from_of v m → to_of v l ≡ to_of v m → ⊥

module _ (v : View) where
  -- Where a link leads, and masks.
  pub link_of : (l : ℕ) → On v l → link_b v l ≡ true → Ends v l × Masked v l
  unfolding link_b ends_b mask_n
  link_of l on g =
      let h = unless (eqb (mark_of v l) 0) (ends_b v l) g (ne_eqb (mark_of v l) 0 on.used) in
      let h1 = and_r (ltb (from_of v l) row_count) _ h in
      let h2 = and_r (ltb (to_of v l) row_count) _ h1 in
      let h3 = and_r (eqb (code_of v (from_of v l)) container_code) _ h2 in
      let h4 = and_r (not (eqb (code_of v (to_of v l)) 0)) _ h3 in (
        record {
          from_low = ltb-true (from_of v l) row_count (and_l (ltb (from_of v l) row_count) _ h);
          from_container = eqb-true (code_of v (from_of v l)) container_code (and_l (eqb (code_of v (from_of v l)) container_code) _ h2);
          to_low = ltb-true (to_of v l) row_count (and_l (ltb (to_of v l) row_count) _ h1);
          to_live = λ e. not_of (eqb (code_of v (to_of v l)) 0) (and_l (not (eqb (code_of v (to_of v l)) 0)) _ h3) (eq-eqb (code_of v (to_of v l)) 0 e);
        },
        λ e. eqb-true _ _ (only (eqb (code_of v (to_of v l)) container_code) _ h4 (eq-eqb (code_of v (to_of v l)) container_code e)),
      )

  pub link_by : (l : ℕ) → l < link_count → (On v l → Ends v l × Masked v l) → link_b v l ≡ true
  unfolding link_b ends_b mask_n
  link_by l low f =
      unless_by (eqb (mark_of v l) 0) _ (λ e.
      let p = f (record { low = low; used = eqb-false (mark_of v l) 0 e }) in
      let s = p.0 in
      rw (
        lt-ltb (from_of v l) row_count s.from_low,
        lt-ltb (to_of v l) row_count s.to_low,
        eq-eqb (code_of v (from_of v l)) container_code s.from_container,
        not_by
            (eqb (code_of v (to_of v l)) 0) (λ t. s.to_live (eqb-true (code_of v (to_of v l)) 0 t)),
      )
      (only_by (eqb (code_of v (to_of v l)) container_code) _ (λ t. eq-eqb _ _ (p.1 (eqb-true (code_of v (to_of v l)) container_code t)))))

  -- A live link counts at its object.
  pub counted : (l o : ℕ) → On v l → to_of v l ≡ o → when (live_link v l) (when (eqb (to_of v l) o) 1) ≡ 1
  counted l o on e = when_true (live_link v l) _ (not_by (eqb (mark_of v l) 0) (λ t. on.used (eqb-true (mark_of v l) 0 t))) ∙ when_true (eqb (to_of v l) o) 1 (eq-eqb (to_of v l) o e)

  -- An object to which one link leads has no link twice, so only others need be looked at.
  pub once_of : (l : ℕ) → On v l → once_b v (links_to v) l ≡ true → Apart v l
  unfolding links_to once_b same_b
  once_of l on g m om lt p o = go (leb (links_to v (to_of v l)) 1) refl (unless (eqb (mark_of v l) 0) _ g (ne_eqb (mark_of v l) 0 on.used))
    where
      go : (b : Bool) → leb (links_to v (to_of v l)) 1 ≡ b → cond b true (every l (λ m. not (same_b v l m))) ≡ true → ⊥
      go true e x =
          let t = two_terms link_count (λ i. when (live_link v i) (when (eqb (to_of v i) (to_of v l)) 1)) m l lt on.low in
          omega (arith, leb-true (links_to v (to_of v l)) 1 e, t, counted l (to_of v l) on refl, counted m (to_of v l) om (sym o))
      go false e x =
          not_of (same_b v l m) (every_of l (λ m. not (same_b v l m)) x m lt)
          (rw (eq-eqb (to_of v l) (to_of v m) o) (eq-eqb (mark_of v l) (mark_of v m) (pred_same (mark_of v l) (mark_of v m) on.used om.used p)))

  pub once_by : (n : ℕ → ℕ) (l : ℕ) → l < link_count → (On v l → Apart v l) → once_b v n l ≡ true
  unfolding once_b same_b
  once_by n l low f =
      unless_by (eqb (mark_of v l) 0) _ (λ z.
      let on : On v l = record { low = low; used = eqb-false (mark_of v l) 0 z } in
      unless_by (leb (n (to_of v l)) 1) _ (λ e.
      every_by l (λ m. not (same_b v l m)) (λ m lt.
      not_by (same_b v l m) (λ t.
      let o = eqb-true (to_of v l) (to_of v m) (and_l (eqb (to_of v l) (to_of v m)) _ t) in
      let q = eqb-true (mark_of v l) (mark_of v m) (and_r (eqb (to_of v l) (to_of v m)) _ t) in
      f on m (record { low = omega arith; used = λ z. on.used (q ∙ z) }) lt (ap (λ (x : ℕ). x - 1) q) o))))
