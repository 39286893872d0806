-- Laws of the pass over the links that asks whether one occurs twice: a link is compared with those below it where one of them leads to the same object.
use Prim.Native.Nat.{ℕ, zero, suc, ◌<◌}
use native.Mathlib.Omega.{arith}
use Rattle.std.specs.Prelude.{Bool, not, ◌&&◌, ◌≡◌, eqb}
use Rattle.std.proofs.Math.Bool.{true, false}
use Rattle.std.proofs.Math.Path.{refl, sym, ap}
use Rattle.std.proofs.Common.{◌∙◌}
use borrow.Author.Tests.{ne_eqb, lt-leb}
use Rattle.quotas.specs.Sum.{when, sum_term}
use Rattle.tables.specs.Layout.{View, row_count, link_count}
use Rattle.book.specs.Book.{root_of, mark_of, to_of, live_link, has_id}
use Rattle.book.specs.Sound.{links_to, charged_to}
use Rattle.book.specs.Test.{every, link_b, same_b, once_b, tie_b, links_b}
use Rattle.book.specs.Tally.{links_below, tally_b}
use Rattle.book.specs.Laws.Tests.{and_l, and_r, and_fails, every_fails}
use Rattle.book.specs.Laws.Judged.{any_every}
use Rattle.book.specs.Laws.MeansLinks.{counted, once_by}
use Rattle.book.proofs.Laws.Seen.{sum_below}

-- ---- a link

module _ (v : View) (l : ℕ) (low : l < link_count) where
  -- Where no link below leads to its object, none below is the same.
  pub once_first : links_below v l (to_of v l) ≡ 0 → once_b v (links_to v) l ≡ true
  unfolding links_below
  once_first z =
      once_by v (links_to v) l low (λ on m om lt p q. omega (arith, sum_term l (λ i. when (live_link v i) (when (eqb (to_of v i) (to_of v l)) 1)) m lt, counted v m (to_of v l) om (sym q), z))

  -- Where one does, at least two links lead there.
  pub once_again : (mark_of v l ≡ 0 → ⊥) → (links_below v l (to_of v l) ≡ 0 → ⊥) → once_b v (links_to v) l ≡ every l (λ m. not (same_b v l m))
  unfolding once_b
  once_again ne some = rw (ne_eqb (mark_of v l) 0 ne, lt-leb (links_to v (to_of v l)) 1 two)
    where
      pos : (x : ℕ) → (x ≡ 0 → ⊥) → 0 < x
      pos zero h = absurd (h refl)
      pos (suc x) h = omega arith

      two : 1 < links_to v (to_of v l)
      two = unfold links_below links_to in
          omega (
            arith,
            sum_below link_count (λ i. when (live_link v i) (when (eqb (to_of v i) (to_of v l)) 1)) l low,
            counted v l (to_of v l) (record { low = low; used = ne }) refl,
            pos _ some,
          )

-- ---- all links

module _ (v : View) where
  -- One leads nowhere.
  pub tally_astray : (i : ℕ) → i < link_count → link_b v i ≡ false → tally_b v ≡ false
  unfolding tally_b
  tally_astray i l e = rw (every_fails link_count (link_b v) i l e)

  -- One occurs twice.
  pub tally_twice : (i : ℕ) → i < link_count → once_b v (links_to v) i ≡ false → tally_b v ≡ false
  unfolding tally_b
  tally_twice i l e = and_fails (every link_count (link_b v)) (every link_count (once_b v (links_to v))) (every_fails link_count (once_b v (links_to v)) i l e)

  -- None does either.
  pub tally_all : (i : ℕ) → i ≡ link_count → every i (link_b v) ≡ true → every i (once_b v (links_to v)) ≡ true → tally_b v ≡ true
  unfolding tally_b
  tally_all i e h k = rw (sym (ap (λ (x : ℕ). every x (link_b v)) e) ∙ h) (sym (ap (λ (x : ℕ). every x (once_b v (links_to v))) e) ∙ k)

  pub tally_links : tally_b v ≡ true → every link_count (link_b v) ≡ true
  unfolding tally_b
  tally_links h = and_l (every link_count (link_b v)) _ h

  pub tally_once : tally_b v ≡ true → every link_count (once_b v (links_to v)) ≡ true
  unfolding tally_b
  tally_once h = and_r (every link_count (link_b v)) _ h

  -- The test of links is the pass, the ties, and that the root's id, o, is not absent.
  pub links_are : (o : ℕ) → o ≡ root_of v
      → links_b v ≡ (tally_b v && (every row_count (λ r. tie_b v r (links_to v r) (charged_to v r)) && not (every row_count (λ r. not (has_id v o r)))))
  unfolding tally_b links_b
  links_are o e =
      parts (every link_count (link_b v)) (every row_count (λ r. tie_b v r (links_to v r) (charged_to v r))) (every link_count (once_b v (links_to v))) _
      ∙ ap (λ (x : Bool). tally_b v && (every row_count (λ r. tie_b v r (links_to v r) (charged_to v r)) && x))
      (any_every row_count (has_id v (root_of v)) ∙ ap (λ (x : ℕ). not (every row_count (λ r. not (has_id v x r)))) (sym e))
    where
      parts : (a t b r : Bool) → (a && (t && (b && r))) ≡ ((a && b) && (t && r))
      parts true true b r = refl
      parts true false true r = refl
      parts true false false r = refl
      parts false t b r = refl

  -- What the pass refuses is not sound.
  pub tally_fails : tally_b v ≡ false → links_b v ≡ false
  tally_fails h = links_are (root_of v) refl ∙ rw h
