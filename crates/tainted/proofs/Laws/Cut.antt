-- Call 8 in two worlds that are alike, and by a tainted caller in one.
use Prim.Native.Nat.{ℕ, zero, suc}
use Rattle.std.specs.Prelude.{Bool, true, false, ◌||◌, ◌≡◌, eqb}
use Rattle.std.proofs.Math.Bool.{cond}
use Rattle.std.proofs.Math.Path.{refl, sym, ap, ap₂}
use Rattle.std.proofs.Common.{◌∙◌, subst, eqb-true}
use Rattle.quotas.specs.Any.{any, any_cong, any_found}
use Rattle.rules.specs.Kernel.{nothing, World, keep, cut, under, below, stays, kept, apply, root_quota}
use Rattle.rules.specs.Sound.{Sound}
use Rattle.rules.proofs.Laws.Bools.{not_i, not_both, same_by, bool_cases}
use Rattle.rules.proofs.Laws.Kinds.{nothing_no_container}
use Rattle.rules.proofs.Laws.Below.{under_step, stays_linked, stays_kept, stays_same, container_kept}
use Rattle.tainted.specs.Tainted.{untainted_container}
use Rattle.tainted.proofs.Laws.Rooms.{room_container, no_container_no_room}
use Rattle.tainted.specs.Laws.Seen.{seen}
use Rattle.tainted.proofs.Laws.Alike.{TermsKept, Alike, up}

then_same : (a b c d : Bool) → a ≡ b → (a ≡ true → c ≡ d) → cond a c false ≡ cond b d false
then_same true b c d p q = rw (← p, q refl)
then_same false b c d p q = rw (← p)

then_none : (a c : Bool) → a ≡ false → cond a c false ≡ false
then_none a c e = rw e

module _ (v : ℕ) where
  -- nothing links a room but rooms
  not_from : (w : World) → Sound w → TermsKept v w → (d e : ℕ) → untainted_container v (w.obj e) ≡ true → untainted_container v (w.obj d) ≡ false → w.linked d e ≡ false
  not_from w s c d e h n = not_i (w.linked d e) (λ l. not_both (untainted_container v (w.obj d)) (up v w s c d e h l) n)

  nothing_no_room : untainted_container v nothing ≡ false
  nothing_no_room = no_container_no_room v nothing nothing_no_container

  -- rooms after a cut
  module _ (w : World) (d o p : ℕ) where
    room_after : untainted_container v (cond (kept w d o p) (w.obj p) nothing) ≡ true → (kept w d o p ≡ true) × (untainted_container v (w.obj p) ≡ true)
    room_after = go (kept w d o p)
      where
        go : (k : Bool) → untainted_container v (cond k (w.obj p) nothing) ≡ true → (k ≡ true) × (untainted_container v (w.obj p) ≡ true)
        go true h = (refl, h)
        go false h = not_both (untainted_container v nothing) h nothing_no_room

    at_kept : kept w d o p ≡ true → cond (kept w d o p) (w.obj p) nothing ≡ w.obj p
    at_kept k = rw k

    room_kept : kept w d o p ≡ true → untainted_container v (w.obj p) ≡ true → untainted_container v (cond (kept w d o p) (w.obj p) nothing) ≡ true
    room_kept k h = ap (untainted_container v) (at_kept k) ∙ h

  -- ---- in two worlds

  module _ (a b : World) (s : Alike v a b) (sa : Sound a) (sb : Sound b) (ca : TermsKept v a) (cb : TermsKept v b) where
    under_both : (o k e : ℕ) → untainted_container v (a.obj e) ≡ true → under a o k e ≡ under b o k e
    unfolding under
    under_both o zero e h = refl
    under_both o (suc k) e h =
        any_cong a.next (λ d. cond (a.linked d e) (under a o k d) false) (λ d. cond (b.linked d e) (under b o k d) false)
        (λ d l. bool_cases (untainted_container v (a.obj d))
        (λ q. then_same (a.linked d e) (b.linked d e) (under a o k d) (under b o k d) (s.links d e q) (λ l. under_both o k d q))
        (λ q. then_none (a.linked d e) (under a o k d) (not_from a sa ca d e h q)
        ∙ sym (then_none (b.linked d e) (under b o k d) (not_from b sb cb d e (sym (s.rooms e) ∙ h) (sym (s.rooms d) ∙ q)))))
        ∙ ap (λ (n : ℕ). any n (λ d. cond (b.linked d e) (under b o k d) false)) s.same_next

    below_both : (o e : ℕ) → untainted_container v (a.obj e) ≡ true → below a o e ≡ below b o e
    unfolding below
    below_both o e h = any_cong root_quota (λ k. under a o k e) (λ k. under b o k e) (λ k l. under_both o k e h)

    stays_both : (d o e p : ℕ) → untainted_container v (a.obj e) ≡ true → stays a d o e p ≡ stays b d o e p
    unfolding stays
    stays_both d o e p h = rw (s.links e p h, below_both o e h)

    -- no link from what is no room to a room stays: there was none
    stays_none : (w : World) → Sound w → TermsKept v w → (d o e p : ℕ) → untainted_container v (w.obj p) ≡ true → untainted_container v (w.obj e) ≡ false → stays w d o e p ≡ false
    stays_none w sw cw d o e p h n = not_i (stays w d o e p) (λ t. not_both (w.linked e p) (stays_linked w d o e p t) (not_from w sw cw e p h n))

    kept_both : (d o p : ℕ) → untainted_container v (a.obj p) ≡ true → kept a d o p ≡ kept b d o p
    unfolding kept
    kept_both d o p h =
        ap₂ (λ (x y : Bool). x || y) (ap (eqb p) s.same_root)
        (any_cong a.next (λ e. stays a d o e p) (λ e. stays b d o e p)
        (λ e l. bool_cases (untainted_container v (a.obj e)) (λ q. stays_both d o e p q)
        (λ q. stays_none a sa ca d o e p h q ∙ sym (stays_none b sb cb d o e p (sym (s.rooms p) ∙ h) (sym (s.rooms e) ∙ q))))
        ∙ ap (λ (n : ℕ). any n (λ e. stays b d o e p)) s.same_next)

    pub cut_both : (d o : ℕ) → Alike v (apply (cut d o) a) (apply (cut d o) b)
    unfolding apply
    cut_both d o =
        record {
          same_next = ap suc s.same_next;
          same_root = s.same_root;
          rooms = λ p.
              same_by (untainted_container v (cond (kept a d o p) (a.obj p) nothing)) (untainted_container v (cond (kept b d o p) (b.obj p) nothing))
              (λ h. let (k, l) = room_after a d o p h in room_kept b d o p (sym (kept_both d o p l) ∙ k) (sym (s.rooms p) ∙ l))
              (λ h. let (k, l) = room_after b d o p h in room_kept a d o p (kept_both d o p (s.rooms p ∙ l) ∙ k) (s.rooms p ∙ l));
          room_objs = λ p h.
              let (k, l) = room_after a d o p h in
              at_kept a d o p k ∙ s.room_objs p l ∙ sym (at_kept b d o p (sym (kept_both d o p l) ∙ k));
          links = λ e p h. let (k, l) = room_after a d o e h in stays_both d o e p l;
          objs = λ e p h t.
              let (k, l) = room_after a d o e h in
              ap (seen v) (at_kept a d o p (stays_kept a sa d o e p t))
              ∙ s.objs e p l (stays_linked a d o e p t)
              ∙ sym (ap (seen v) (at_kept b d o p (stays_kept b sb d o e p (sym (stays_both d o e p l) ∙ t))));
        }

  -- ---- in one, from what is no room

  module _ (w : World) (sw : Sound w) (cw : TermsKept v w) (d o : ℕ) (high : untainted_container v (w.obj d) ≡ false) (there : w.linked d o ≡ true) where
    under_high : (k e : ℕ) → under w o k e ≡ true → untainted_container v (w.obj e) ≡ true → ⊥
    under_high zero e h l =
        unfold under in
        (not_both (untainted_container v (w.obj d)) (up v w sw cw d o (subst (λ (m : ℕ). untainted_container v (w.obj m) ≡ true) (eqb-true e o h) l) there) high)
    under_high (suc k) e h l = let (f, t, u) = under_step w o k e h in under_high k f u (up v w sw cw f e l t)

    below_high : (e : ℕ) → untainted_container v (w.obj e) ≡ true → below w o e ≡ false
    unfolding below
    below_high e l =
        not_i (any root_quota (λ k. under w o k e)) (λ h. let (k, q, t) = any_found root_quota (λ k. under w o k e) h in under_high k e t l)

    stays_high : (e p : ℕ) → untainted_container v (w.obj e) ≡ true → stays w d o e p ≡ w.linked e p
    stays_high e p l =
        stays_same w d o e p (λ q r. not_both (untainted_container v (w.obj d)) (subst (λ (m : ℕ). untainted_container v (w.obj m) ≡ true) q l) high) (below_high e l)

    kept_high : (p : ℕ) → untainted_container v (w.obj p) ≡ true → kept w d o p ≡ true
    kept_high p l = container_kept w sw d o p (room_container v (w.obj p) l) (below_high p l)

    pub cut_quiet : Alike v (apply keep w) (apply (cut d o) w)
    unfolding apply
    cut_quiet =
        record {
          same_next = refl;
          same_root = refl;
          rooms = λ p.
              same_by (untainted_container v (w.obj p)) (untainted_container v (cond (kept w d o p) (w.obj p) nothing))
              (λ h. room_kept w d o p (kept_high p h) h) (λ h. (room_after w d o p h).1);
          room_objs = λ p h. sym (at_kept w d o p (kept_high p h));
          links = λ e p h. sym (stays_high e p h);
          objs = λ e p h t. sym (ap (seen v) (at_kept w d o p (stays_kept w sw d o e p (stays_high e p h ∙ t))));
        }
