-- Theorem 10: what an unreference leaves.
use Rattle.std.specs.Prelude.{ℕ, Bool, true, false, ◌&&◌, ◌≡◌, refl, List}
use Rattle.std.proofs.Math.Bool.{not}
use Rattle.std.proofs.Common.{sym, ◌∙◌, ap, subst, eqb-true, eq-eqb, ne_eqb}
use Rattle.std.proofs.Math.Dec.{eqb}
use Rattle.std.proofs.lemmas.Bool.{eqb-false, not-true}
use Rattle.rules.specs.Kernel.{is_live, is_container, World, nothing, Change, cut, below, stays, kept, apply, unreference, grant, judge, entry, call, answer_of, after, History, next, world_after}
use Rattle.rules.specs.Sound.{Sound}
use Rattle.rules.specs.Histories.{WellStarted}
use Rattle.rules.specs.Trees.{here, down, Reaches, without, StillReached, Unlinked}
use Rattle.rules.proofs.Laws.Bools.{and_l, and_r, and_i, not_i, not_both, same_by}
use Rattle.rules.proofs.Laws.Kinds.{container_live, nothing_dead}
use Rattle.rules.proofs.Laws.Must.{must_test, passed}
use Rattle.rules.proofs.Laws.Entries.{entry_link}
use Rattle.rules.proofs.Laws.Below.{below_self, below_down, below_up, holder_not_below, root_not_below, container_free, stays_linked, stays_not_below, stays_not_cut, stays_i}
use Rattle.rules.proofs.Laws.Below.{root_kept, kept_cases, stays_kept}
use Rattle.rules.proofs.Laws.Effects.{cut_at}
use Rattle.rules.proofs.Laws.Outcome.{outcome, call_outcome}
use Rattle.rules.proofs.Theorems.Refusals.{granted}
use Rattle.rules.proofs.Theorems.Holds.{live_reached}
use Rattle.rules.proofs.Theorems.StaysSound.{history_sound}

-- ---- links without one

module _ (d o : ℕ) (f : ℕ → ℕ → Bool) (e p : ℕ) where
  without_i : f e p ≡ true → (e ≡ d → p ≡ o → ⊥) → without d o f e p ≡ true
  unfolding without
  without_i l n = and_i (f e p) (not (eqb e d && eqb p o)) l
      (ap not (not_i (eqb e d && eqb p o) (λ h. n (eqb-true e d (and_l (eqb e d) (eqb p o) h)) (eqb-true p o (and_r (eqb e d) (eqb p o) h)))))

  without_link : without d o f e p ≡ true → f e p ≡ true
  unfolding without
  without_link h = and_l (f e p) (not (eqb e d && eqb p o)) h

  without_not : without d o f e p ≡ true → e ≡ d → p ≡ o → ⊥
  unfolding without
  without_not h x y =
      not_both (eqb e d && eqb p o) (and_i (eqb e d) (eqb p o) (eq-eqb e d x) (eq-eqb p o y))
      (not-true (eqb e d && eqb p o) (and_r (f e p) (not (eqb e d && eqb p o)) h))

module _ (w : World) (s : Sound w) (d o : ℕ) where
  -- a way to what is not below o does not go by o
  still : {p : ℕ} → Reaches w w.root p → below w o p ≡ false → StillReached w d o p
  still here n = here
  still (down e p y l) n =
      down e p (still y (not_i (below w o e) (λ h. not_both (below w o p) (below_down w s o e p l h) n)))
      (without_i d o w.linked e p l (λ x q. not_both (below w o p) (subst (λ (i : ℕ). below w o i ≡ true) (sym q) (below_self w o)) n))

  module _ (there : w.linked d o ≡ true) where
    -- a container to which a way is left is not below o
    still_not_below : {e : ℕ} → StillReached w d o e → is_container (w.obj e).kind ≡ true → below w o e ≡ false
    still_not_below here k = root_not_below w s d o there
    still_not_below (down f e y l) k =
        let on = without_link d o w.linked f e l in
        let free = container_free w s e k in
        let not-o : (e ≡ o → ⊥) = λ q. without_not d o w.linked f e l (s.one_link f d e on (ap (w.linked d) q ∙ there) free) q in
        not_i (below w o e) (λ h. not_both (below w o f) (below_up w s o f e on free not-o h) (still_not_below y (s.tree.holder f e on)))

    still_stays : (e p : ℕ) → StillReached w d o e → without d o w.linked e p ≡ true → stays w d o e p ≡ true
    still_stays e p y l =
        let on = without_link d o w.linked e p l in
        stays_i w d o e p on (without_not d o w.linked e p l) (still_not_below y (s.tree.holder e p on))

    stays_still : (e p : ℕ) → stays w d o e p ≡ true → StillReached w d o e
    stays_still e p h =
        let on = stays_linked w d o e p h in
        still ((live_reached w s e).0 (container_live (w.obj e).kind (s.tree.holder e p on))) (stays_not_below w d o e p h)

    kept_still : (p : ℕ) → kept w d o p ≡ true → StillReached w d o p
    kept_still p k =
        kept_cases w d o p k (λ q. subst (StillReached w d o) (sym q) here)
        (λ e h. down e p (stays_still e p h) (without_i d o w.linked e p (stays_linked w d o e p h) (stays_not_cut w d o e p h)))

    still_kept : {p : ℕ} → StillReached w d o p → kept w d o p ≡ true
    still_kept here = root_kept w d o
    still_kept (down e p y l) = stays_kept w s d o e p (still_stays e p y l)

    links_left : (p : ℕ) → stays w d o d p ≡ (w.linked d p && not (eqb p o))
    links_left p =
        same_by (stays w d o d p) (w.linked d p && not (eqb p o))
        (λ h. and_i (w.linked d p) (not (eqb p o)) (stays_linked w d o d p h) (ap not (ne_eqb p o (stays_not_cut w d o d p h refl))))
        (λ h. stays_i w d o d p (and_l (w.linked d p) (not (eqb p o)) h)
        (λ x. eqb-false p o (not-true (eqb p o) (and_r (w.linked d p) (not (eqb p o)) h))) (holder_not_below w s d o there))

-- ---- the theorem

-- In a sound world where o is linked in d, cutting that link leaves what the root still reaches without it, each object unchanged, with the old links
-- among them but that one; and in d the old links but that one.
pub cut_leaves : (w : World) → Sound w → (d o : ℕ) → w.linked d o ≡ true → Unlinked w d o (apply (cut d o) w)
unfolding apply
cut_leaves w s d o there = record {
  next = refl;
  root = refl;
  live = λ p. (
    cut_at (λ x. is_live x.kind ≡ true → (is_live (w.obj p).kind ≡ true) × StillReached w d o p) w d o p
        (λ k l. (l, kept_still w s d o there p k)) (λ k l. not_both (is_live nothing.kind) l nothing_dead),
    λ q. cut_at (λ x. is_live x.kind ≡ true) w d o p (λ k. q.0) (λ k. not_both (kept w d o p) (still_kept w s d o there q.1) k),
  );
  unchanged = λ p y. cut_at (λ x. x ≡ w.obj p) w d o p (λ k. refl) (λ k. not_both (kept w d o p) (still_kept w s d o there y) k);
  freed = λ p n. cut_at (λ x. x ≡ nothing) w d o p (λ k. absurd (n (kept_still w s d o there p k))) (λ k. refl);
  links = λ e p. (
    λ h. (without_i d o w.linked e p (stays_linked w d o e p h) (stays_not_cut w d o e p h), stays_still w s d o there e p h),
    λ q. still_stays w s d o there e p q.1 q.0,
  );
  links_here = links_left w s d o there;
}

-- a granted unreference names a link, and cuts it
unreference_cuts : (w : World) (c d o v : ℕ) (b : List ℕ) (h : Change) → call w c (unreference d o) ≡ grant v b h → (w.linked d o ≡ true) × (h ≡ cut d o)
unfolding judge outcome
unreference_cuts w c d o v b h e = (
  entry_link w (w.obj c) d o (must_test v b h (entry w (w.obj c) d o) 5 _ (passed w c (unreference d o) v b h e).judged),
  (let k = call_outcome w c (unreference d o) v b h e in cc),
)

-- A granted call 8 in a sound world leaves exactly this.
pub unreference_leaves : (w : World) → Sound w → (c d o : ℕ) → answer_of (call w c (unreference d o)) ≡ 0 → Unlinked w d o (after w c (unreference d o))
unreference_leaves w s c d o a =
    let g = granted w c (unreference d o) a in
    let (l, e) = unreference_cuts w c d o _ _ g.change g.verdict in
    subst (Unlinked w d o) (sym (g.world ∙ ap (λ (h : Change). apply h w) e)) (cut_leaves w s d o l)

-- A granted call 8 after any history leaves exactly this.
pub history_unreference_leaves : (h : History) → WellStarted h → (c d o : ℕ) → answer_of (call (world_after h) c (unreference d o)) ≡ 0
    → Unlinked (world_after h) d o (world_after (next h c (unreference d o)))
unfolding world_after
history_unreference_leaves h g c d o a = unreference_leaves (world_after h) (history_sound h g) c d o a
