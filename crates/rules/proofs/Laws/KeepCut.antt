-- A call that unreferences an object leaves a sound world sound.
use Rattle.std.specs.Prelude.{ℕ, suc, ◌≤◌, Bool, cond, ◌≡◌}
use Rattle.std.proofs.Common.{arith, ◌∙◌}
use Rattle.std.proofs.Math.Bool.{true, false}
use Rattle.std.proofs.Math.Path.{refl, sym, ap, ap₂}
use Rattle.std.specs.Int.Bits.{bit_or}
use Rattle.rules.specs.Kernel.{is_live, is_container, Obj, nothing, World, cut, stays, kept, apply, last_number}
use Rattle.rules.specs.Sound.{Sound}
use Rattle.rules.specs.Fair.{Whole}
use Rattle.rules.proofs.Laws.Bools.{not_i, not_both}
use Rattle.rules.proofs.Laws.Kinds.{cleared_live, nothing_dead}
use Rattle.rules.proofs.Laws.Usage.{Within, cut_kept, cut_use_le}
use Rattle.rules.proofs.Laws.Below.{stays_linked, stays_not_below, root_kept, kept_cases, stays_kept, container_kept}
use Rattle.rules.proofs.Laws.Whole.{whole, whole_wider}

module _ (w : World) (s : Sound w) (d o : ℕ) where
  -- what is live after the cut was kept
  live_kept : (p : ℕ) → is_live ((apply (cut d o) w).obj p).kind ≡ true → kept w d o p ≡ true
  unfolding apply
  live_kept p = go (kept w d o p)
    where
      go : (t : Bool) → is_live (cond t (w.obj p) nothing).kind ≡ true → t ≡ true
      go true h = refl
      go false h = not_both (is_live nothing.kind) h nothing_dead

  same : (p : ℕ) → is_live ((apply (cut d o) w).obj p).kind ≡ true → (apply (cut d o) w).obj p ≡ w.obj p
  same p h = cut_kept w s d o p (live_kept p h)

  was_live : (p : ℕ) → is_live ((apply (cut d o) w).obj p).kind ≡ true → is_live (w.obj p).kind ≡ true
  was_live p h = sym (ap (λ (x : Obj). is_live x.kind) (same p h)) ∙ h

  wholes : (p : ℕ) → is_live ((apply (cut d o) w).obj p).kind ≡ true → Whole (suc w.next) ((apply (cut d o) w).obj p)
  wholes p h = rw (same p h) (whole_wider w.next (w.obj p) (whole w s p (was_live p h)))

  within : (p : ℕ) → is_live ((apply (cut d o) w).obj p).kind ≡ true → Within (apply (cut d o) w) p
  within p h = omega (arith, cut_use_le w s d o p (live_kept p h), s.uses p (was_live p h), ap (λ (x : Obj). x.quota) (same p h))

  -- both ends of a link that stays are as they were
  from_same : (e p : ℕ) → stays w d o e p ≡ true → (apply (cut d o) w).obj e ≡ w.obj e
  from_same e p t = cut_kept w s d o e (container_kept w s d o e (s.tree.holder e p (stays_linked w d o e p t)) (stays_not_below w d o e p t))

  to_same : (e p : ℕ) → stays w d o e p ≡ true → (apply (cut d o) w).obj p ≡ w.obj p
  to_same e p t = cut_kept w s d o p (stays_kept w s d o e p t)

  -- A cut keeps a sound world sound.
  pub keep_cut : w.next ≤ last_number → Sound (apply (cut d o) w)
  unfolding apply
  keep_cut more =
      let root_same = cut_kept w s d o w.root (root_kept w d o) in
      record {
        next_most = omega arith;
        ranges = λ p h. (wholes p h).range;
        ids = λ p h. let i = s.ids p (was_live p h) in (i.0, omega arith);
        labels = λ p h. (wholes p h).formed;
        clearances = λ p h. (wholes p (cleared_live (cond (kept w d o p) (w.obj p) nothing).kind h)).cleared h;
        tree =
            record {
              root_container = ap (λ (x : Obj). is_container x.kind) root_same ∙ s.tree.root_container;
              root_quota_lem = ap (λ (x : Obj). x.quota) root_same ∙ s.tree.root_quota_lem;
              root_top = λ e. not_i (stays w d o e w.root) (λ t. not_both (w.linked e w.root) (stays_linked w d o e w.root t) (s.tree.root_top e));
              holder = λ e p t. ap (λ (x : Obj). is_container x.kind) (from_same e p t) ∙ s.tree.holder e p (stays_linked w d o e p t);
              held = λ e p t. ap (λ (x : Obj). is_live x.kind) (to_same e p t) ∙ s.tree.held e p (stays_linked w d o e p t);
            };
        has_link = λ p h n. by_link p (live_kept p h) n;
        one_link = λ e f p t u h.
            s.one_link e f p (stays_linked w d o e p t) (stays_linked w d o f p u) (sym (ap (λ (x : Obj). x.fixed) (to_same e p t)) ∙ h);
        uses = within;
        masks = λ e p t k.
            let there = to_same e p t in
            ap₂ (λ (x y : Obj). bit_or x.mask y.mask) there (from_same e p t)
            ∙ s.masks e p (stays_linked w d o e p t) (sym (ap (λ (x : Obj). is_container x.kind) there) ∙ k)
            ∙ sym (ap (λ (x : Obj). x.mask) there);
      }
    where
      by_link : (p : ℕ) → kept w d o p ≡ true → (p ≡ w.root → ⊥) → (e : ℕ) × (stays w d o e p ≡ true)
      by_link p k n = kept_cases w d o {C = (e : ℕ) × (stays w d o e p ≡ true)} p k (λ q. absurd (n q)) (λ e t. (e, t))
