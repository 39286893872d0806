-- The recursion that turns links off, step by step: what holds after each turn of its loop, and that the number of live links falls.
use Rattle.std.specs.Prelude.{ℕ, zero, suc, ◌+◌, ◌-◌, ◌<◌, ◌≤◌, ◌⊎◌, ◌≡◌, refl, List, length, get_or, set, eqb}
use Rattle.std.proofs.Math.Decide.{ℕ_discrete}
use Rattle.std.proofs.Common.{arith, inl, inr, ⊎_elim, sym, ◌∙◌, ap, subst, get_or-set_same, get_or-set_other}
use Rattle.std.proofs.Math.Bool.{not}
use Rattle.quotas.specs.Sum.{Σ, when, sum_lt, when_true, when_false, when_le}
use Rattle.rules.specs.Kernel.{container_code}
use Rattle.tables.specs.Layout.{View, view, size, row_count, link_count, link_from_t, on_tab, put_t}
use Rattle.tables.specs.Layout.Laws.{tab_of_long}
use Rattle.book.specs.Book.{code_of, mark_of, from_of, to_of, live_link}
use Rattle.book.specs.Sound.{On}
use Rattle.book.specs.Cut.{Goes, this, inside, Linked, Unlinked}
use Rattle.book.specs.Laws.Tie.{test_on, on_test}

some : (x : ℕ) → (x ≡ 0 → ⊥) → 1 ≤ x
some zero n = absurd (n refl)
some (suc x) n = omega arith

-- the measure: how many links are live
unfoldable pub live_links : View → ℕ
live_links v = Σ link_count (λ k. when (live_link v k) 1)

-- Link l of v and some that go with it are off in u: all that go with those other than l are, and those among the first k that are in l's object.
pub record Sofar (v : View) (l k : ℕ) (u : View) : Type 0 where
  pub rest : u ≡ on_tab link_from_t (λ m. u.link_from) v
  pub only : (i : ℕ) → (Goes v l i × (mark_of u i ≡ 0)) ⊎ (mark_of u i ≡ mark_of v i)
  pub off : mark_of u l ≡ 0
  pub shut : (i j : ℕ) → Goes v l i → mark_of u i ≡ 0 → (i ≡ l → ⊥) → code_of v (to_of v i) ≡ container_code → On u j → from_of v j ≡ to_of v i → ⊥
  pub seen : (j : ℕ) → j < k → On u j → from_of v j ≡ to_of v l → ⊥

module _ (v : View) (l : ℕ) (on : On v l) where
  goes_on : {i : ℕ} → Goes v l i → On v i
  goes_on this = on
  goes_on (inside k g c a e) = a

  module _ (u : View) (only : (i : ℕ) → (Goes v l i × (mark_of u i ≡ 0)) ⊎ (mark_of u i ≡ mark_of v i)) where
    was_mark : (i : ℕ) → On u i → mark_of u i ≡ mark_of v i
    was_mark i a = ⊎_elim (λ g. absurd (a.used g.1)) (λ e. e) (only i)

    was_on : (i : ℕ) → On u i → On v i
    was_on i a = record { low = a.low; used = λ z. a.used (was_mark i a ∙ z) }

    -- Fewer links are live.
    pub fewer : mark_of u l ≡ 0 → live_links u < live_links v
    unfolding live_links
    fewer z =
        sum_lt link_count (λ k. when (live_link u k) 1) (λ k. when (live_link v k) 1) l on.low
        (λ i h. when_le (live_link u i) 1 (when (live_link v i) 1)
        (λ t. let a = test_on u i h t in omega (arith, when_true (live_link v i) 1 (on_test v i (was_on i a)))))
        (omega (arith, when_false (live_link u l) 1 (ap (λ (x : ℕ). not (eqb x 0)) z), when_true (live_link v l) 1 (on_test v l on)))

  -- Link l is off.
  pub start : length v.link_from ≡ link_count → Sofar v l 0 (put_t link_from_t l 0 v)
  start long =
      record {
        rest = refl;
        only = λ i. elim (ℕ_discrete i l) [
          | yes e ↦ inl (subst (Goes v l) (sym e) this, ap (λ (x : ℕ). get_or (set v.link_from l 0) x 0) e ∙ zero_there)
          | no n ↦ inr (get_or-set_other v.link_from l i 0 0 n)
        ];
        off = zero_there;
        shut = λ i j g z n c a e. (goes_on g).used (sym (get_or-set_other v.link_from l i 0 0 n) ∙ z);
        seen = λ j h a e. omega arith;
      }
    where
      zero_there : get_or (set v.link_from l 0) l 0 ≡ 0
      zero_there = get_or-set_same v.link_from l 0 0 (omega (arith, on.low))

  module _ (u : View) (k : ℕ) (s : Sofar v l k u) where
    same_to : (i : ℕ) → to_of u i ≡ to_of v i
    same_to i = ap (λ (x : View). to_of x i) s.rest

    same_code : (r : ℕ) → code_of u r ≡ code_of v r
    same_code r = ap (λ (x : View). code_of x r) s.rest

    same_from : (i : ℕ) → On u i → from_of u i ≡ from_of v i
    same_from i a = ap (λ (x : ℕ). x - 1) (was_mark u s.only i a)

    -- The next link is passed by.
    pub skip : ((On u k) → from_of u k ≡ to_of v l → ⊥) → Sofar v l (k + 1) u
    skip n =
        record {
          rest = s.rest;
          only = s.only;
          off = s.off;
          shut = s.shut;
          seen = λ j h a e. elim (ℕ_discrete j k) [
            | yes p ↦ n (subst (On u) p a) (ap (from_of u) (sym p) ∙ same_from j a ∙ e)
            | no np ↦ s.seen j (omega arith) a e
          ];
        }

    module _ (con : code_of v (to_of v l) ≡ container_code) (a : On u k) (here : from_of u k ≡ to_of v l) where
      -- what goes with a link in l's object goes with l
      widen : {i : ℕ} → Goes u k i → Goes v l i
      widen this = inside k this con (was_on u s.only k a) (sym (same_from k a) ∙ here)
      widen (inside {j} i g c b e) =
          inside i (widen g) (sym (same_code (to_of v j)) ∙ ap (code_of u) (sym (same_to j)) ∙ c) (was_on u s.only i b) (sym (same_from i b) ∙ e ∙ same_to j)

      -- The next link is turned off with all that hangs on it.
      pub turned : (w : View) → Unlinked u k w → Sofar v l (k + 1) w
      turned w f =
          record {
            rest = f.rest ∙ ap (λ (x : View). on_tab link_from_t (λ m. w.link_from) x) s.rest;
            only = only₂;
            off = ⊎_elim (λ g. g.1) (λ g. g.1 ∙ s.off) (f.each l);
            shut = shut₂;
            seen = seen₂;
          }
        where
          only₂ : (i : ℕ) → (Goes v l i × (mark_of w i ≡ 0)) ⊎ (mark_of w i ≡ mark_of v i)
          only₂ i =
              ⊎_elim {C = (Goes v l i × (mark_of w i ≡ 0)) ⊎ (mark_of w i ≡ mark_of v i)}
              (λ g. inl (widen g.0, g.1))
              (λ g. ⊎_elim (λ h. inl (h.0, g.1 ∙ h.1)) (λ h. inr (g.1 ∙ h)) (s.only i))
              (f.each i)

          left : (j : ℕ) → On w j → (Goes u k j → ⊥) × (On u j)
          left j b = ⊎_elim (λ g. absurd (b.used g.1)) (λ g. (g.0, record { low = b.low; used = λ z. b.used (g.1 ∙ z) })) (f.each j)

          shut₂ : (i j : ℕ) → Goes v l i → mark_of w i ≡ 0 → (i ≡ l → ⊥) → code_of v (to_of v i) ≡ container_code → On w j → from_of v j ≡ to_of v i → ⊥
          shut₂ i j g z n c b e =
              let (out, x) = left j b in
              ⊎_elim
              (λ q. out (inside j q.0 (same_code (to_of u i) ∙ ap (code_of v) (same_to i) ∙ c) x (same_from j x ∙ e ∙ sym (same_to i))))
              (λ q. s.shut i j g (sym q.1 ∙ z) n c x e)
              (f.each i)

          seen₂ : (j : ℕ) → j < k + 1 → On w j → from_of v j ≡ to_of v l → ⊥
          seen₂ j h b e =
              let (out, x) = left j b in
              elim (ℕ_discrete j k) [ yes p ↦ out (subst (Goes u k) (sym p) this) | no np ↦ s.seen j (omega arith) x e ]

    -- Every link that goes is off, once all links in l's object were looked at.
    pub done : (code_of v (to_of v l) ≡ container_code → link_count ≤ k) → Unlinked v l u
    done fin = record { rest = s.rest; each = each }
      where
        all_off : {i : ℕ} → Goes v l i → mark_of u i ≡ 0
        all_off this = s.off
        all_off (inside {j} i g c a e) =
            ⊎_elim (λ q. q.1)
            (λ q.
            let b : On u i = record { low = a.low; used = λ z. a.used (sym q ∙ z) } in
            absurd (elim (ℕ_discrete j l) [
              | yes r ↦ s.seen i (omega (arith, fin (subst (λ (x : ℕ). code_of v (to_of v x) ≡ container_code) r c), a.low)) b (e ∙ ap (to_of v) r)
              | no nr ↦ s.shut j i g (all_off g) nr c b e
            ]))
            (s.only i)

        each : (i : ℕ) → (Goes v l i × (mark_of u i ≡ 0)) ⊎ ((Goes v l i → ⊥) × (mark_of u i ≡ mark_of v i))
        each i =
            ⊎_elim {C = (Goes v l i × (mark_of u i ≡ 0)) ⊎ ((Goes v l i → ⊥) × (mark_of u i ≡ mark_of v i))}
            (λ q. inl q) (λ q. inr ((λ g. (goes_on g).used (sym q ∙ all_off g)), q)) (s.only i)

-- ---- as the code goes, over a book's bytes

module _ (e : List ℕ) (l : ℕ) (ok : Linked e l) where
  pub begun : (b : List ℕ) → view b ≡ put_t link_from_t l 0 (view e) → Sofar (view e) l 0 (view b)
  begun b q = subst (Sofar (view e) l 0) (sym q) (start (view e) l ok.on (tab_of_long e link_from_t))

  module _ (b : List ℕ) (k : ℕ) (s : Sofar (view e) l k (view b)) where
    pub links_fall : live_links (view b) < live_links (view e)
    links_fall = fewer (view e) l ok.on (view b) s.only s.off

    pub ends_kept : (i : ℕ) → On (view b) i → to_of (view b) i < row_count
    ends_kept i a =
        subst (λ (x : ℕ). x < row_count) (sym (ap (λ (x : View). to_of x i) s.rest)) (ok.ends i (was_on (view e) l ok.on (view b) s.only i a))

    -- link l leads where it led
    pub object_kept : to_of (view b) l ≡ to_of (view e) l
    object_kept = ap (λ (x : View). to_of x l) s.rest

    -- a mark that is one more than l's object is that of a live link in it
    module _ (m : ℕ) (read : m ≡ mark_of (view b) k) (low : k < link_count) where
      pub hit_on : (o : ℕ) → m ≡ o + 1 → On (view b) k
      hit_on o t = record { low = low; used = λ z. omega arith }

      pub next_linked : (o : ℕ) → m ≡ o + 1 → length b ≡ size → Linked b k
      next_linked o t long = record { sized = long; on = hit_on o t; ends = ends_kept }

      pub next_turned : (o : ℕ) → m ≡ o + 1 → o ≡ to_of (view e) l → code_of (view e) (to_of (view e) l) ≡ container_code → (w : View) → Unlinked (view b) k w → Sofar (view e) l (k + 1) w
      next_turned o t eo con w f = turned (view e) l ok.on (view b) k s con (hit_on o t) (omega arith) w f

      pub next_skipped : (o : ℕ) → (m ≡ o + 1 → ⊥) → o ≡ to_of (view e) l → Sofar (view e) l (k + 1) (view b)
      next_skipped o n eo =
          skip (view e) l ok.on (view b) k s (λ a q. n (omega (arith, some (mark_of (view b) k) a.used)))

  -- the kind of l's object is read past the mark that is off
  pub code_read : (b : List ℕ) (o x : ℕ) → view b ≡ put_t link_from_t l 0 (view e) → o ≡ to_of (view e) l → x ≡ code_of (view b) o → code_of (view e) (to_of (view e) l) ≡ x
  code_read b o x q eo ex = ap (code_of (view e)) (sym eo) ∙ ap (λ (y : View). code_of y o) (sym q) ∙ sym ex

  -- No link in l's object is looked at, or all were.
  pub all_done : (b : List ℕ) (k : ℕ) → Sofar (view e) l k (view b) → (code_of (view e) (to_of (view e) l) ≡ container_code → link_count ≤ k) → Unlinked (view e) l (view b)
  all_done b k s fin = done (view e) l ok.on (view b) k s fin
