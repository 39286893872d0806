-- A call that links a segment leaves a sound world sound.
use Rattle.std.specs.Prelude.{ℕ, ◌≤◌, true, false, ◌≡◌}
use Rattle.std.proofs.Math.Decide.{ℕ_discrete}
use Rattle.std.proofs.Common.{arith, sym, ◌∙◌}
use Rattle.std.proofs.Math.Path.{subst}
use Rattle.rules.specs.Kernel.{is_live, is_container, World, link, apply, last_number}
use Rattle.rules.specs.Sound.{Sound}
use Rattle.rules.specs.Fair.{Linked}
use Rattle.rules.proofs.Laws.Bools.{not_both}
use Rattle.rules.proofs.Laws.Kinds.{segment_live, segment_no_container}
use Rattle.rules.proofs.Laws.Put.{link_old, link_other, link_cases}
use Rattle.rules.proofs.Laws.Usage.{Within, link_use, link_use_others}
use Rattle.rules.proofs.Laws.Whole.{whole, whole_wider}

module _ (w : World) (s : Sound w) (d o : ℕ) (m : Linked w d o) where
  -- the new link goes to a segment, so it is not to the root, which is a container
  not_root : o ≡ w.root → ⊥
  not_root e =
      not_both (is_container (w.obj o).kind) (subst (λ (i : ℕ). is_container (w.obj i).kind ≡ true) (sym e) s.tree.root_container)
      (segment_no_container (w.obj o).kind m.is_segment_lem)

  within : (p : ℕ) → is_live (w.obj p).kind ≡ true → Within (apply (link d o) w) p
  unfolding apply
  within p h = elim (ℕ_discrete p d) [
    | yes e ↦ subst (Within (apply (link d o) w)) (sym e) (omega (arith, link_use w s d o m, m.room))
    | no n ↦ omega (arith, link_use_others w s d o p n, s.uses p h)
  ]

  -- A fair link keeps a sound world sound.
  pub keep_link : w.next ≤ last_number → Sound (apply (link d o) w)
  unfolding apply
  keep_link more =
      record {
        next_most = omega arith;
        ranges = s.ranges;
        ids = λ p h. let i = s.ids p h in (i.0, omega arith);
        labels = λ p h. (whole_wider w.next (w.obj p) (whole w s p h)).formed;
        clearances = s.clearances;
        tree =
            record {
              root_container = s.tree.root_container;
              root_quota_lem = s.tree.root_quota_lem;
              root_top = λ e. link_other d o w.linked e w.root (λ q r. not_root (sym r)) ∙ s.tree.root_top e;
              holder = λ e p l. link_cases d o w.linked e p l
                  (λ q r. subst (λ (i : ℕ). is_container (w.obj i).kind ≡ true) (sym q) m.is_container_lem) (s.tree.holder e p);
              held = λ e p l. link_cases d o w.linked e p l
                  (λ q r. subst (λ (i : ℕ). is_live (w.obj i).kind ≡ true) (sym r) (segment_live (w.obj o).kind m.is_segment_lem)) (s.tree.held e p);
            };
        has_link = λ p h n. let (e, l) = s.has_link p h n in (e, link_old d o w.linked e p l);
        one_link = λ e f p k l h.
            let other : p ≡ o → e ≡ f = λ r. not_both (w.obj o).fixed m.is_fixed_lem (subst (λ (i : ℕ). (w.obj i).fixed ≡ false) r h) in
            link_cases d o w.linked e p k (λ q r. other r) (λ k2. link_cases d o w.linked f p l (λ q r. other r) (λ l2. s.one_link e f p k2 l2 h));
        uses = within;
        masks = λ e p l k. link_cases d o w.linked e p l
            (λ q r. not_both (is_container (w.obj o).kind) (subst (λ (i : ℕ). is_container (w.obj i).kind ≡ true) r k)
            (segment_no_container (w.obj o).kind m.is_segment_lem))
            (λ old. s.masks e p old k);
      }
