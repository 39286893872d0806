-- Laws of the marks for ids: an id whose place is not marked is one that no live row below has.
use Rattle.std.specs.Prelude.{ℕ, ◌+◌, ◌*◌, ◌/◌, ◌%◌, ◌^◌, ◌<◌, ◌≤◌, max, true, false, List, ◌≡◌, length, set, replicate, eqb}
use Rattle.std.proofs.Common.{eq-or-lt_of_le, arith, ⊎_elim, sym, ◌∙◌, subst, length-set, shl_exact, get_or-set_same, get_or-set_other}
use Rattle.std.proofs.Math.Nat.{max-le, le-max_left, le-max_right}
use Rattle.std.proofs.Math.Decide.{ℕ_discrete}
use Rattle.std.proofs.Math.Bool.{not}
use Rattle.std.proofs.Math.Path.{ap}
use Rattle.std.specs.Int.Bits.{bit_or, or_step}
use Rattle.std.proofs.lemmas.Nat.{or_shr, shl-shr}
use Rattle.std.proofs.Math.ListN.{get_or}
use borrow.Author.Tests.{eq-eqb, eqb-true}
use Rattle.quotas.specs.Any.{both_parts}
use Rattle.tables.specs.Layout.{View}
use Rattle.book.specs.Book.{id_of, code_of, live_row, has_id}
use Rattle.book.specs.Test.{new_b}
use Rattle.book.specs.Marks.{mark_count, mark_bytes, mark_place, mark_at, mark_set, MarkedAt, Marked}
use Rattle.book.specs.Laws.Tests.{not_by, not_of, no_true, every_by}
use Rattle.book.specs.Laws.Tally.{zeros_long}

-- A bit of two numbers joined is the larger of their two.
or_bit : (x y k : ℕ) → bit_or x y / 2 ^ k % 2 ≡ max (x / 2 ^ k % 2) (y / 2 ^ k % 2)
or_bit x y k =
    let a = x / 2 ^ k in
    let b = y / 2 ^ k in
    let l : max (a % 2) (b % 2) ≤ 1 = max-le (omega arith) (omega arith) in
    ap (λ (z : ℕ). z % 2) (or_shr x y k) ∙ omega (arith, or_step a b, l)

-- So a bit that is set stays,
bit_kept : (x y k : ℕ) → x / 2 ^ k % 2 ≡ 1 → bit_or x y / 2 ^ k % 2 ≡ 1
bit_kept x y k e = omega (arith, or_bit x y k, le-max_left (x / 2 ^ k % 2) (y / 2 ^ k % 2), e)

-- and the bit that is joined is set.
bit_made : (x k : ℕ) → bit_or x (2 ^ k) / 2 ^ k % 2 ≡ 1
bit_made x k = omega (arith, or_bit x (2 ^ k) k, le-max_right (x / 2 ^ k % 2) (2 ^ k / 2 ^ k % 2), own)
  where
    own : 2 ^ k / 2 ^ k % 2 ≡ 1
    own = ap (λ (z : ℕ). z / 2 ^ k % 2) (omega arith) ∙ ap (λ (z : ℕ). z % 2) (shl-shr 1 k)

-- A bit shifted to its place in a byte, and joined.
pub mark_set_lem : (a : List ℕ) (p : ℕ) → set a (p / 8) (bit_or (get_or a (p / 8) 0) (1 * 2 ^ (p % 8) % 256)) ≡ mark_set a p
unfolding mark_set
mark_set_lem a p =
    let e : 1 * 2 ^ (p % 8) % 256 ≡ 2 ^ (p % 8) = shl_exact {a = 1} 1 (p % 8) 8 (omega arith) (omega arith) ∙ omega arith in
    ap (λ (x : ℕ). set a (p / 8) (bit_or (get_or a (p / 8) 0) x)) e

-- The pass starts with no marks.
pub marked_none : (v : View) (a : List ℕ) → a ≡ replicate mark_bytes 0 → Marked v 0 a
marked_none v a e = record { marks_long = zeros_long mark_bytes a e; marked = λ r l. absurd (omega arith) }

module _ (a : List ℕ) (k : ℕ) (low : k / 8 < length a) where
  -- The mark that is made,
  made : mark_at (mark_set a k) k ≡ 1
  unfolding mark_at mark_set
  made = ap (λ (x : ℕ). x / 2 ^ (k % 8) % 2) (get_or-set_same a (k / 8) _ 0 low) ∙ bit_made (get_or a (k / 8) 0) (k % 8)

  -- and every other that was.
  kept : (j : ℕ) → mark_at a j ≡ 1 → mark_at (mark_set a k) j ≡ 1
  unfolding mark_at mark_set
  kept j e = elim (ℕ_discrete (j / 8) (k / 8)) [
    | yes q ↦
        ap (λ (x : ℕ). get_or (set a (k / 8) (bit_or (get_or a (k / 8) 0) (2 ^ (k % 8)))) x 0 / 2 ^ (j % 8) % 2) q
        ∙ ap (λ (x : ℕ). x / 2 ^ (j % 8) % 2) (get_or-set_same a (k / 8) _ 0 low)
        ∙ bit_kept (get_or a (k / 8) 0) (2 ^ (k % 8)) (j % 8) (ap (λ (x : ℕ). get_or a x 0 / 2 ^ (j % 8) % 2) (sym q) ∙ e)
    | no other ↦ ap (λ (x : ℕ). x / 2 ^ (j % 8) % 2) (get_or-set_other a (k / 8) (j / 8) _ 0 other) ∙ e
  ]

module _ (v : View) (n : ℕ) (a : List ℕ) (s : Marked v n a) where
  -- one row more
  more : MarkedAt v a n → (r : ℕ) → r < n + 1 → MarkedAt v a r
  more h r l = ⊎_elim (λ q. subst (MarkedAt v a) (sym q) h) (λ k. s.marked r k) (eq-or-lt_of_le {n = r} {m = n} (omega arith))

  -- A free row has no place.
  pub marked_free : code_of v n ≡ 0 → Marked v (n + 1) a
  marked_free e = record { marks_long = s.marks_long; marked = more (λ live. absurd (live e)) }

  -- A place that is marked already.
  pub marked_again : (k : ℕ) → k ≡ mark_place (id_of v n) → mark_at a k ≡ 1 → Marked v (n + 1) a
  marked_again k e t = record { marks_long = s.marks_long; marked = more (λ live. ap (mark_at a) (sym e) ∙ t) }

  -- A place that is not: it is marked now,
  pub marked_more : (k : ℕ) → k ≡ mark_place (id_of v n) → k < mark_count → Marked v (n + 1) (mark_set a k)
  marked_more k e low =
      let byte : k / 8 < length a = omega (arith, s.marks_long) in
      record {
        marks_long = long ∙ s.marks_long;
        marked = λ r l.
            ⊎_elim
            (λ q live. ap (mark_at (mark_set a k)) (ap (λ (x : ℕ). mark_place (id_of v x)) q ∙ sym e) ∙ made a k byte)
            (λ h live. kept a k byte (mark_place (id_of v r)) (s.marked r h live))
            (eq-or-lt_of_le {n = r} {m = n} (omega arith));
      }
    where
      long : length (mark_set a k) ≡ length a
      long = unfold mark_set in (length-set a (k / 8) _)

  -- and no live row below has the id.
  pub unmarked_new : (k : ℕ) → k ≡ mark_place (id_of v n) → eqb (mark_at a k) 1 ≡ false → new_b v n ≡ true
  unfolding new_b
  unmarked_new k e off =
      every_by n (λ r. not (has_id v (id_of v n) r)) (λ r l. not_by (has_id v (id_of v n) r) (λ h.
      let (live, same) = both_parts (live_row v r) (eqb (id_of v r) (id_of v n)) h in
      let q = eqb-true (id_of v r) (id_of v n) same in
      let on : mark_at a k ≡ 1 = ap (mark_at a) (e ∙ ap mark_place (sym q)) ∙ s.marked r l (λ c. not_of (eqb (code_of v r) 0) live (eq-eqb (code_of v r) 0 c)) in
      no_true (sym off ∙ eq-eqb (mark_at a k) 1 on)))
