-- A call that creates an object leaves a sound world sound.
use Prim.Native.Nat.{ℕ, suc, ◌<◌, ◌≤◌}
use Rattle.std.proofs.Math.Decide.{ℕ_discrete}
use Rattle.std.proofs.Common.{arith, ◌∙◌, ap₂}
use Rattle.std.proofs.Math.Bool.{true}
use Rattle.std.specs.Prelude.{◌≡◌, refl}
use Rattle.std.proofs.Math.Path.{sym, ap, subst}
use Rattle.std.specs.Int.Bits.{bit_or}
use Rattle.rules.specs.Kernel.{is_live, is_container, Obj, World, create, put, link_in, apply, last_number}
use Rattle.rules.specs.Sound.{Sound}
use Rattle.rules.specs.Fair.{Whole, Made}
use Rattle.rules.proofs.Laws.Bools.{not_both}
use Rattle.rules.proofs.Laws.Kinds.{container_live, cleared_live}
use Rattle.rules.proofs.Laws.Put.{put_each, link_new, link_old, link_other, link_cases}
use Rattle.rules.proofs.Laws.Usage.{Within, next_to, create_old, create_at, create_use, create_use_others, create_use_new}
use Rattle.rules.proofs.Laws.Whole.{whole, whole_wider}

-- the mask of p, if it is a container, includes that of e
abbrev Masked : World → ℕ → ℕ → Type 0
Masked u e p = is_container (u.obj p).kind ≡ true → bit_or (u.obj p).mask (u.obj e).mask ≡ (u.obj p).mask

module _ (w : World) (s : Sound w) (d : ℕ) (x : Obj) (m : Made w d x) where
  -- what held of every old object and holds of the new one
  each : (P : ℕ → Obj → Type 0) → P w.next x → ((p : ℕ) → P p (w.obj p)) → (p : ℕ) → P p ((apply (create d x) w).obj p)
  unfolding apply
  each P = put_each P w.next x w.obj

  root_live : is_live (w.obj w.root).kind ≡ true
  root_live = container_live (w.obj w.root).kind s.tree.root_container

  -- containers, and what is linked in them, are as they were
  old_container : (e : ℕ) → is_container (w.obj e).kind ≡ true → (apply (create d x) w).obj e ≡ w.obj e
  old_container e k = create_old w s d x e (container_live (w.obj e).kind k)

  wholes : (p : ℕ) → is_live ((apply (create d x) w).obj p).kind ≡ true → Whole (suc w.next) ((apply (create d x) w).obj p)
  wholes =
      each (λ p y. is_live y.kind ≡ true → Whole (suc w.next) y) (λ h. m.whole) (λ p h. whole_wider w.next (w.obj p) (whole w s p h))

  within : (p : ℕ) → is_live ((apply (create d x) w).obj p).kind ≡ true → Within (apply (create d x) w) p
  within p = elim (ℕ_discrete p w.next) [
    | yes e ↦ (λ h. subst (Within (apply (create d x) w)) (sym e)
        (omega (arith, create_use_new w s d x m, m.whole.range.quota_some, ap (λ (y : Obj). y.quota) (create_at w s d x))))
    | no n ↦ elim (ℕ_discrete p d) [
      | yes e ↦ (λ h. subst (Within (apply (create d x) w)) (sym e)
          (omega (arith, create_use w s d x m.is_container_lem, m.room, ap (λ (y : Obj). y.quota) (old_container d m.is_container_lem))))
      | no k ↦ old p n k
    ]
  ]
    where
      old : (p : ℕ) → (p ≡ w.next → ⊥) → (p ≡ d → ⊥) → is_live ((apply (create d x) w).obj p).kind ≡ true → Within (apply (create d x) w) p
      old p n k h =
          let was : is_live (w.obj p).kind ≡ true =
          each (λ i y. (i ≡ w.next → ⊥) → is_live y.kind ≡ true → is_live (w.obj i).kind ≡ true) (λ z. absurd (z refl)) (λ i z l. l) p n h in
          omega (arith, create_use_others w s d x p was k, s.uses p was, ap (λ (y : Obj). y.quota) (create_old w s d x p was))

  -- masks are compared in the new world as they were in the old one
  masked : (e p : ℕ) (y : Obj) → is_container (w.obj e).kind ≡ true → (apply (create d x) w).obj p ≡ y
      → (is_container y.kind ≡ true → bit_or y.mask (w.obj e).mask ≡ y.mask) → Masked (apply (create d x) w) e p
  masked e p y c same h k =
      ap₂ (λ (a b : Obj). bit_or a.mask b.mask) same (old_container e c)
      ∙ h (sym (ap (λ (a : Obj). is_container a.kind) same) ∙ k)
      ∙ sym (ap (λ (a : Obj). a.mask) same)

  -- A fair create keeps a sound world sound.
  pub keep_create : w.next ≤ last_number → Sound (apply (create d x) w)
  unfolding apply
  keep_create more =
      let first : 1 ≤ w.next = (let i = s.ids w.root root_live in omega arith) in
      record {
        next_most = omega arith;
        ranges = λ p h. (wholes p h).range;
        ids =
            each (λ p y. is_live y.kind ≡ true → (1 ≤ p) × (p < suc w.next)) (λ h. (first, omega arith)) (λ p h. let i = s.ids p h in (i.0, omega arith));
        labels = λ p h. (wholes p h).formed;
        clearances = λ p h. (wholes p (cleared_live (put w.next x w.obj p).kind h)).cleared h;
        tree =
            record {
              root_container = ap (λ (y : Obj). is_container y.kind) (create_old w s d x w.root root_live) ∙ s.tree.root_container;
              root_quota_lem = ap (λ (y : Obj). y.quota) (create_old w s d x w.root root_live) ∙ s.tree.root_quota_lem;
              root_top = λ e.
                  link_other d w.next w.linked e w.root (λ q r. let i = s.ids w.root root_live in omega arith) ∙ s.tree.root_top e;
              holder = λ e p l. link_cases d w.next w.linked e p l
                  (λ q r. subst (λ (i : ℕ). is_container (put w.next x w.obj i).kind ≡ true) (sym q)
                  (ap (λ (y : Obj). is_container y.kind) (old_container d m.is_container_lem) ∙ m.is_container_lem))
                  (λ k. let c = s.tree.holder e p k in ap (λ (y : Obj). is_container y.kind) (old_container e c) ∙ c);
              held = λ e p l. link_cases d w.next w.linked e p l
                  (λ q r. subst (λ (i : ℕ). is_live (put w.next x w.obj i).kind ≡ true) (sym r)
                  (ap (λ (y : Obj). is_live y.kind) (create_at w s d x) ∙ m.is_live_lem))
                  (λ k. let c = s.tree.held e p k in ap (λ (y : Obj). is_live y.kind) (create_old w s d x p c) ∙ c);
            };
        has_link =
            each (λ p y. is_live y.kind ≡ true → (p ≡ w.root → ⊥) → (e : ℕ) × (link_in d w.next w.linked e p ≡ true))
            (λ h n. (d, link_new d w.next w.linked)) (λ p h n. let (e, l) = s.has_link p h n in (e, link_old d w.next w.linked e p l));
        one_link = λ e f p k l h. link_cases d w.next w.linked e p k
            (λ q r. link_cases d w.next w.linked f p l (λ q2 r2. q ∙ sym q2)
            (λ l2. not_both (w.linked f w.next) (subst (λ (i : ℕ). w.linked f i ≡ true) r l2) (next_to w s f)))
            (λ k2. link_cases d w.next w.linked f p l
            (λ q r. not_both (w.linked e w.next) (subst (λ (i : ℕ). w.linked e i ≡ true) r k2) (next_to w s e))
            (λ l2. s.one_link e f p k2 l2 (sym (ap (λ (y : Obj). y.fixed) (create_old w s d x p (s.tree.held e p k2))) ∙ h)));
        uses = within;
        masks = λ e p l k. link_cases d w.next w.linked e p l
            (λ q r. subst (λ (i : ℕ). Masked (apply (create d x) w) i p) (sym q)
            (masked d p x m.is_container_lem (ap (λ (i : ℕ). (apply (create d x) w).obj i) r ∙ create_at w s d x) m.masked) k)
            (λ old. masked e p (w.obj p) (s.tree.holder e p old) (create_old w s d x p (s.tree.held e p old)) (s.masks e p old) k);
      }
