-- A call that changes one object, or nothing, leaves a sound world sound.
use Rattle.std.specs.Prelude.{ℕ, suc, ◌≤◌, true, ◌≡◌, refl, List}
use Rattle.std.proofs.Math.Decide.{ℕ_discrete}
use Rattle.std.proofs.Common.{arith, ◌∙◌, subst}
use Rattle.std.proofs.Math.Bool.{false}
use Rattle.std.proofs.Math.Path.{sym, ap, ap₂}
use Rattle.std.specs.Int.Bits.{bit_or}
use Rattle.rules.specs.Kernel.{is_live, is_container, Obj, World, Edit, relabel, fix, requota, rewrite, edit, keep, alter, put, apply, last_number}
use Rattle.rules.specs.Sound.{Sound}
use Rattle.rules.specs.Fair.{Whole, Fair, Moved, Rewritten}
use Rattle.rules.proofs.Laws.Bools.{not_both}
use Rattle.rules.proofs.Laws.Kinds.{cleared_live}
use Rattle.rules.proofs.Laws.Put.{put_same, put_other, put_at}
use Rattle.rules.proofs.Laws.Edit.{edit_mask, edit_fixed, alter_field, alter_kind}
use Rattle.rules.proofs.Laws.Usage.{Within, keep_use, alter_use, rewrite_use, rewrite_use_others, requota_use, requota_use_others}
use Rattle.rules.proofs.Laws.Falls.{falls}
use Rattle.rules.proofs.Laws.Whole.{whole, whole_wider, edit_whole}

module _ (w : World) (s : Sound w) (more : w.next ≤ last_number) where
  pub sound_keep : Sound (apply keep w)
  unfolding apply
  sound_keep =
      record {
        next_most = omega arith;
        ranges = s.ranges;
        ids = λ o h. let i = s.ids o h in (i.0, omega arith);
        labels = λ o h. (whole_wider w.next (w.obj o) (whole w s o h)).formed;
        clearances = s.clearances;
        tree =
            record {
              root_container = s.tree.root_container;
              root_quota_lem = s.tree.root_quota_lem;
              root_top = s.tree.root_top;
              holder = s.tree.holder;
              held = s.tree.held;
            };
        has_link = s.has_link;
        one_link = s.one_link;
        uses = λ o h. omega (arith, keep_use w s o, s.uses o h);
        masks = s.masks;
      }

  module _ (o : ℕ) (e : Edit) (f : Fair w (alter o e)) where
    was_live : (p : ℕ) → is_live ((apply (alter o e) w).obj p).kind ≡ true → is_live (w.obj p).kind ≡ true
    was_live p h = sym (ap is_live (alter_kind w o e p)) ∙ h

    wholes : (p : ℕ) → is_live ((apply (alter o e) w).obj p).kind ≡ true → Whole (suc w.next) ((apply (alter o e) w).obj p)
    unfolding apply
    wholes p h =
        let a = whole_wider w.next (w.obj p) (whole w s p (was_live p h)) in
        put_at (λ x. Whole (suc w.next) x) o (edit e (w.obj o)) w.obj p
        (λ q. edit_whole w o e f (subst (λ (i : ℕ). Whole (suc w.next) (w.obj i)) q a)) (λ n. a)

    -- whatever the edit, if the root keeps its quota and use stays within quota
    sound_alter : (o ≡ w.root → (edit e (w.obj o)).quota ≡ (w.obj o).quota)
        → ((p : ℕ) → is_live (w.obj p).kind ≡ true → Within (apply (alter o e) w) p) → Sound (apply (alter o e) w)
    unfolding apply
    sound_alter root_same within =
        let kind = alter_kind w o e in
        let mask = alter_field w o e (λ x. x.mask) (edit_mask e (w.obj o)) in
        record {
          next_most = omega arith;
          ranges = λ p h. (wholes p h).range;
          ids = λ p h. let i = s.ids p (was_live p h) in (i.0, omega arith);
          labels = λ p h. (wholes p h).formed;
          clearances = λ p h. (wholes p (cleared_live (put o (edit e (w.obj o)) w.obj p).kind h)).cleared h;
          tree =
              record {
                root_container = ap is_container (kind w.root) ∙ s.tree.root_container;
                root_quota_lem =
                    put_at (λ x. x.quota ≡ (w.obj w.root).quota) o (edit e (w.obj o)) w.obj w.root
                    (λ q. root_same (sym q) ∙ ap (λ (i : ℕ). (w.obj i).quota) (sym q)) (λ n. refl)
                    ∙ s.tree.root_quota_lem;
                root_top = s.tree.root_top;
                holder = λ d p l. ap is_container (kind d) ∙ s.tree.holder d p l;
                held = λ d p l. ap is_live (kind p) ∙ s.tree.held d p l;
              };
          has_link = λ p h. s.has_link p (was_live p h);
          one_link = λ c d p k l. put_at (λ x. x.fixed ≡ false → c ≡ d) o (edit e (w.obj o)) w.obj p
              (λ q h. s.one_link c d p k l (subst (λ (i : ℕ). (w.obj i).fixed ≡ false) (sym q) (edit_fixed e (w.obj o) h))) (λ n. s.one_link c d p k l);
          uses = λ p h. within p (was_live p h);
          masks = λ d p l k. ap₂ bit_or (mask p) (mask d) ∙ s.masks d p l (sym (ap is_container (kind p)) ∙ k) ∙ sym (mask p);
        }

    -- an edit that leaves quota and bytes
    sound_plain : (edit e (w.obj o)).quota ≡ (w.obj o).quota → (edit e (w.obj o)).bytes ≡ (w.obj o).bytes → Sound (apply (alter o e) w)
    sound_plain q b =
        sound_alter (λ r. q) (λ p h. omega (arith, alter_use w s o e q b p, s.uses p h, alter_field w o e (λ x. x.quota) q p))

  sound_rewrite : (o : ℕ) (b : List ℕ) → Rewritten w o b → Sound (apply (alter o (rewrite b)) w)
  sound_rewrite o b f = sound_alter o (rewrite b) f (λ r. unfold edit in refl) within
    where
      quota : (p : ℕ) → ((apply (alter o (rewrite b)) w).obj p).quota ≡ (w.obj p).quota
      quota = alter_field w o (rewrite b) (λ x. x.quota) (unfold edit in refl)

      within : (p : ℕ) → is_live (w.obj p).kind ≡ true → Within (apply (alter o (rewrite b)) w) p
      within p h = elim (ℕ_discrete p o) [
        | yes q ↦ subst (Within (apply (alter o (rewrite b)) w)) (sym q)
            (omega (arith, rewrite_use w s o b f.is_segment_lem, f.within, quota o))
        | no n ↦ omega (arith, rewrite_use_others w s o b p n, s.uses p h, quota p)
      ]

  sound_requota : (o q : ℕ) → Moved w o q → Sound (apply (alter o (requota q)) w)
  unfolding apply edit
  sound_requota o q m =
      sound_alter o (requota q) m
      (λ r. not_both (w.linked m.holder o) m.is_linked (subst (λ (i : ℕ). w.linked m.holder i ≡ false) (sym r) (s.tree.root_top m.holder)))
      within
    where
      other : (p : ℕ) → (p ≡ o → ⊥) → ((apply (alter o (requota q)) w).obj p).quota ≡ (w.obj p).quota
      other p n = unfold apply in (ap (λ (x : Obj). x.quota) (put_other o (edit (requota q) (w.obj o)) w.obj p n))

      apart : m.holder ≡ o → ⊥
      apart e = omega (arith, falls w s m.holder o m.is_linked, ap (λ (i : ℕ). (w.obj i).quota) e)

      at_o : ((apply (alter o (requota q)) w).obj o).quota ≡ q
      at_o = unfold apply edit in (ap (λ (x : Obj). x.quota) (put_same o (edit (requota q) (w.obj o)) w.obj o refl))

      within : (p : ℕ) → is_live (w.obj p).kind ≡ true → Within (apply (alter o (requota q)) w) p
      within p h = elim (ℕ_discrete p m.holder) [
        | yes e ↦ subst (Within (apply (alter o (requota q)) w)) (sym e)
            (omega (arith, requota_use w s o q m, m.room, other m.holder apart))
        | no n ↦ elim (ℕ_discrete p o) [
          | yes e ↦ subst (Within (apply (alter o (requota q)) w)) (sym e)
              (omega (arith, requota_use_others w s o q m o (λ z. apart (sym z)), m.own, at_o))
          | no k ↦ omega (arith, requota_use_others w s o q m p n, s.uses p h, other p k)
        ]
      ]

  -- A fair edit of one object keeps a sound world sound.
  pub keep_alter : (o : ℕ) (e : Edit) → Fair w (alter o e) → Sound (apply (alter o e) w)
  keep_alter o (relabel l c) f = sound_plain o (relabel l c) f (unfold edit in refl) (unfold edit in refl)
  keep_alter o fix f = sound_plain o fix f (unfold edit in refl) (unfold edit in refl)
  keep_alter o (requota q) f = sound_requota o q f
  keep_alter o (rewrite b) f = sound_rewrite o b f
