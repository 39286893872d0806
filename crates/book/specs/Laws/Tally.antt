-- Laws of the pass over the links: it starts with zeros, goes on by one link, and ends with the counts that soundness speaks of.
use Rattle.std.specs.Prelude.{ℕ, zero, suc, ◌+◌, ◌<◌, ◌≤◌, Bool, List, ◌≡◌, refl, length, set, replicate, eqb, leb}
use native.Mathlib.Omega.{arith}
use Rattle.std.proofs.Math.Decide.{ℕ_discrete}
use Rattle.std.proofs.Math.Bool.{true, false}
use Rattle.std.proofs.Common.{sym, ◌∙◌, subst, get_or-set_same, get_or-set_other, eq-eqb, ne_eqb, eqb-true}
use Rattle.std.proofs.Math.Path.{ap, ap₂}
use Rattle.std.proofs.Math.ListN.{get_or, length-set}
use Rattle.quotas.specs.Sum.{Σ, when, sum_more, when_true, when_false}
use Rattle.rules.specs.Kernel.{last_number, root_quota}
use Rattle.tables.specs.Layout.{View, row_count, link_count}
use Rattle.book.specs.Book.{next_of, quota_of, mark_of, from_of, to_of, live_link}
use Rattle.book.specs.Sound.{Live, links_to, charged_to}
use Rattle.book.specs.Test.{row_b, link_b, rows_b, tie_b}
use Rattle.book.specs.Tally.{links_below, charged_below, Tallied}
use Rattle.book.specs.Laws.Tests.{and_r, every_of, not_by}
use Rattle.book.specs.Laws.MeansRows.{row_of}
use Rattle.book.specs.Laws.MeansLinks.{link_of}

-- ---- an array with more at one place

-- What stands at r when w was added at i.
pub added : (a : List ℕ) (i w r : ℕ) → i < length a → get_or (set a i (get_or a i 0 + w)) r 0 ≡ get_or a r 0 + when (eqb i r) w
added a i w r h = elim (ℕ_discrete i r) [
  | yes e ↦ subst (λ (x : ℕ). get_or (set a i (get_or a i 0 + w)) x 0 ≡ get_or a x 0 + when (eqb i x) w) e
      (omega (arith, get_or-set_same a i (get_or a i 0 + w) 0 h, when_true (eqb i i) w (eq-eqb i i refl)))
  | no ne ↦ omega (arith, get_or-set_other a i r (get_or a i 0 + w) 0 (λ q. ne (sym q)), when_false (eqb i r) w (ne_eqb i r ne))
]

when_most : (t : Bool) (x : ℕ) → when t x ≤ x
unfolding when
when_most true x = omega arith
when_most false x = omega arith

zero_at : (n r : ℕ) → ◌≡◌ {A = ℕ} (get_or (replicate n 0) r 0) 0
zero_at zero r = refl
zero_at (suc n) zero = refl
zero_at (suc n) (suc r) = zero_at n r

pub rep_long : {A : Type 0} (n : ℕ) (x : A) → length (replicate n x) ≡ n
rep_long zero x = refl
rep_long (suc n) x = ap suc (rep_long n x)

-- An array of flags of which none is up.
pub flags_down : (n r : ℕ) → get_or (replicate n false) r false ≡ false
flags_down zero r = refl
flags_down (suc n) zero = refl
flags_down (suc n) (suc r) = flags_down n r

-- An array of zeros.
pub zeros_are : (n : ℕ) (a : List ℕ) → a ≡ replicate n 0 → (r : ℕ) → get_or a r 0 ≡ 0
zeros_are n a e r = ap (λ (x : List ℕ). get_or x r 0) e ∙ zero_at n r

pub zeros_long : (n : ℕ) (a : List ℕ) → a ≡ replicate n 0 → length a ≡ n
zeros_long n a e = ap length e ∙ rep_long n 0

-- ---- the pass

-- It starts with zeros.
pub tallied_none : (v : View) (a u : List ℕ) → a ≡ replicate row_count 0 → u ≡ replicate row_count 0 → Tallied v 0 a u
unfolding links_below charged_below Σ
tallied_none v a u e f =
    record {
      counts_long = zeros_long row_count a e;
      charges_long = zeros_long row_count u f;
      links = λ r l. zeros_are row_count a e r;
      charged = λ r l. zeros_are row_count u f r;
      links_most = λ r l. omega (arith, zeros_are row_count a e r);
      charged_most = λ r l. omega (arith, zeros_are row_count u f r);
    }

module _ (v : View) (n : ℕ) (a u : List ℕ) (t : Tallied v n a u) where
  -- A free link adds nothing.
  pub tallied_free : mark_of v n ≡ 0 → Tallied v (n + 1) a u
  unfolding links_below charged_below
  tallied_free e =
      let off : live_link v n ≡ false = rw (eq-eqb (mark_of v n) 0 e) in
      record {
        counts_long = t.counts_long;
        charges_long = t.charges_long;
        links = λ r l. omega (arith, t.links r l, sum_more n (λ l. when (live_link v l) (when (eqb (to_of v l) r) 1)), when_false (live_link v n) (when (eqb (to_of v n) r) 1) off);
        charged = λ r l. omega (
          arith,
          t.charged r l,
          sum_more n (λ l. when (live_link v l) (when (eqb (from_of v l) r) (quota_of v (to_of v l)))),
          when_false (live_link v n)
              (when (eqb (from_of v n) r) (quota_of v (to_of v n))) off,
        );
        links_most = λ r l. omega (arith, t.links_most r l);
        charged_most = λ r l. omega (arith, t.charged_most r l);
      }

  -- A live link adds one at its object's row, and its object's quota at its container's.
  pub tallied_more : (p o q : ℕ) → p ≡ from_of v n → o ≡ to_of v n → q ≡ quota_of v o → (mark_of v n ≡ 0 → ⊥) → from_of v n < row_count → to_of v n < row_count → quota_of v (to_of v n) ≤ root_quota
      → Tallied v (n + 1) (set a o (get_or a o 0 + 1)) (set u p (get_or u p 0 + q))
  unfolding links_below charged_below
  tallied_more p o q ep eo eq ne lf lt lq =
      let live : live_link v n ≡ true = not_by (eqb (mark_of v n) 0) (λ z. ne (eqb-true (mark_of v n) 0 z)) in
      let at : (r : ℕ) → get_or (set a o (get_or a o 0 + 1)) r 0 ≡ get_or a r 0 + when (eqb o r) 1 = λ r. added a o 1 r (omega (arith, t.counts_long, eo, lt)) in
      let ut : (r : ℕ) → get_or (set u p (get_or u p 0 + q)) r 0 ≡ get_or u r 0 + when (eqb p r) q = λ r. added u p q r (omega (arith, t.charges_long, ep, lf)) in
      record {
        counts_long = length-set a o (get_or a o 0 + 1) ∙ t.counts_long;
        charges_long = length-set u p (get_or u p 0 + q) ∙ t.charges_long;
        links = λ r l.
            omega (
              arith,
              at r,
              t.links r l,
              sum_more n (λ l. when (live_link v l) (when (eqb (to_of v l) r) 1)),
              when_true (live_link v n) (when (eqb (to_of v n) r) 1) live,
              ap
                  (λ (x : ℕ). when (eqb x r) 1) eo,
            );
        charged = λ r l.
            omega (
              arith,
              ut r,
              t.charged r l,
              sum_more n (λ l. when (live_link v l) (when (eqb (from_of v l) r) (quota_of v (to_of v l)))),
              when_true (live_link v n)
                  (when (eqb (from_of v n) r) (quota_of v (to_of v n))) live,
              ap₂ (λ (x y : ℕ). when (eqb x r) y) ep (eq ∙ ap (quota_of v) eo),
            );
        links_most = λ r l. omega (arith, at r, t.links_most r l, when_most (eqb o r) 1);
        charged_most = λ r l. omega (arith, ut r, t.charged_most r l, when_most (eqb p r) q, eq, ap (quota_of v) eo, lq);
      }

-- ---- what it ends with

pub links_end : (v : View) (a u : List ℕ) → Tallied v link_count a u → (r : ℕ) → r < row_count → get_or a r 0 ≡ links_to v r
unfolding links_below links_to
links_end v a u t r l = t.links r l

pub charged_end : (v : View) (a u : List ℕ) → Tallied v link_count a u → (r : ℕ) → r < row_count → get_or u r 0 ≡ charged_to v r
unfolding charged_below charged_to
charged_end v a u t r l = t.charged r l

-- A row's tie, by what the arrays say of it.
pub tie_end : (v : View) (a u : List ℕ) → Tallied v link_count a u → (r : ℕ) → r < row_count → tie_b v r (get_or a r 0) (get_or u r 0) ≡ tie_b v r (links_to v r) (charged_to v r)
tie_end v a u t r l = ap₂ (tie_b v r) (links_end v a u t r l) (charged_end v a u t r l)

-- ---- what the tests before it show of a link

-- A live link leads from a row to a row.
pub link_from_low : (v : View) (l : ℕ) → l < link_count → link_b v l ≡ true → (mark_of v l ≡ 0 → ⊥) → from_of v l < row_count
link_from_low v l low h ne = (link_of v l (record { low = low; used = ne }) h).0.from_low

pub link_to_low : (v : View) (l : ℕ) → l < link_count → link_b v l ≡ true → (mark_of v l ≡ 0 → ⊥) → to_of v l < row_count
link_to_low v l low h ne = (link_of v l (record { low = low; used = ne }) h).0.to_low

-- Its object's quota is in its range.
pub link_quota : (v : View) (l : ℕ) → rows_b v ≡ true → l < link_count → link_b v l ≡ true → (mark_of v l ≡ 0 → ⊥) → quota_of v (to_of v l) ≤ root_quota
unfolding rows_b
link_quota v l rows low h ne =
    let e = (link_of v l (record { low = low; used = ne }) h).0 in
    let live : Live v (to_of v l) = record { low = e.to_low; used = e.to_live } in
    (row_of v (to_of v l) live (every_of row_count (row_b v) (and_r (leb (next_of v) (suc last_number)) _ rows) (to_of v l) e.to_low)).range.quota_most
