-- What each change does to the units that a container is charged with, and to what an object uses.
use Prim.Native.Nat.{ℕ, suc, ◌+◌, ◌<◌, ◌≤◌}
use native.Mathlib.Omega.{arith}
use Rattle.std.specs.Prelude.{Bool, ◌&&◌, ◌≡◌, List, [], length}
use Rattle.std.proofs.Math.Bool.{true, false, not, cond}
use Rattle.std.proofs.Math.Path.{refl, ap, ap₂, subst}
use Rattle.std.proofs.Common.{sym, ◌∙◌}
use Rattle.std.proofs.Math.Dec.{eqb}
use Rattle.quotas.specs.Sum.{Σ, when, sum_cong, sum_mono, sum_change, sum_none, sum_term, when_true, when_false, when_le, when_cong}
use Rattle.rules.specs.Kernel.{is_live, is_segment, is_container, has_clearance, Obj, nothing, World, units, charged, use_of, Edit, requota, rewrite, edit, keep, alter, create}
use Rattle.rules.specs.Kernel.{cut, link, put, link_in, below, stays, kept, apply}
use Rattle.rules.specs.Sound.{Sound}
use Rattle.rules.specs.Fair.{Moved, Linked, Made}
use Rattle.rules.proofs.Laws.Bools.{not_i, not_both, bool_cases, then_l}
use Rattle.rules.proofs.Laws.Kinds.{container_live, segment_live, segment_no_container, cleared_no_container, cleared_no_segment}
use Rattle.rules.proofs.Laws.Edit.{alter_field, alter_kind}
use Rattle.rules.proofs.Laws.Put.{put_same, put_other, link_new, link_other}

-- ---- two worlds, one call apart

-- what d is charged with for o
abbrev pub charge : World → ℕ → ℕ → ℕ
charge w d o = when (w.linked d o) (w.obj o).quota

module _ (w u : World) (moved_on : u.next ≡ suc w.next) (d : ℕ) where
  -- all charges of old ids are the same
  pub charged_same : ((o : ℕ) → o < w.next → charge u d o ≡ charge w d o) → charged u d ≡ charged w d + charge u d w.next
  unfolding charged Σ
  charged_same h =
      subst (λ (n : ℕ). Σ n (λ o. charge u d o) ≡ Σ w.next (λ o. charge w d o) + charge u d w.next) (sym moved_on)
      (omega (arith, sum_cong w.next (λ o. charge u d o) (λ o. charge w d o) h))

  -- no charge of an old id is greater
  pub charged_le : ((o : ℕ) → o < w.next → charge u d o ≤ charge w d o) → charged u d ≤ charged w d + charge u d w.next
  unfolding charged Σ
  charged_le h =
      subst (λ (n : ℕ). Σ n (λ o. charge u d o) ≤ Σ w.next (λ o. charge w d o) + charge u d w.next) (sym moved_on)
      (omega (arith, sum_mono w.next (λ o. charge u d o) (λ o. charge w d o) h))

  -- the charge of one old id changes
  pub charged_change : (j : ℕ) → j < w.next → ((o : ℕ) → o < w.next → (o ≡ j → ⊥) → charge u d o ≡ charge w d o)
      → charged u d + charge w d j ≡ charged w d + charge u d j + charge u d w.next
  unfolding charged Σ
  charged_change j l h =
      subst (λ (n : ℕ). Σ n (λ o. charge u d o) + charge w d j ≡ Σ w.next (λ o. charge w d o) + charge u d j + charge u d w.next) (sym moved_on)
      (omega (arith, sum_change w.next (λ o. charge w d o) (λ o. charge u d o) j l h))

-- ---- what an object uses

-- use within quota
abbrev pub Within : World → ℕ → Type 0
Within w o = use_of w o ≤ (w.obj o).quota

module _ (w : World) (o : ℕ) where
  pub use_container : is_container (w.obj o).kind ≡ true → use_of w o ≡ 1 + charged w o
  unfolding use_of
  use_container k = rw k

  pub use_segment : is_segment (w.obj o).kind ≡ true → use_of w o ≡ units (length (w.obj o).bytes)
  unfolding use_of
  use_segment k = rw (segment_no_container (w.obj o).kind k, k)

  pub use_cleared : has_clearance (w.obj o).kind ≡ true → use_of w o ≡ 1
  unfolding use_of
  use_cleared k = rw (cleared_no_container (w.obj o).kind k, cleared_no_segment (w.obj o).kind k)

  pub use_some : 1 ≤ use_of w o
  unfolding use_of units
  use_some = go (is_container (w.obj o).kind) (is_segment (w.obj o).kind)
    where
      go : (a b : Bool) → 1 ≤ cond a (1 + charged w o) (cond b (units (length (w.obj o).bytes)) 1)
      go true b = omega arith
      go false true = unfold units in (omega arith)
      go false false = omega arith

-- the same object uses the same where it is charged with the same
pub use_same : (w u : World) (o p : ℕ) → (u.obj p).kind ≡ (w.obj o).kind → (u.obj p).bytes ≡ (w.obj o).bytes
    → (is_container (w.obj o).kind ≡ true → charged u p ≡ charged w o) → use_of u p ≡ use_of w o
unfolding use_of
use_same w u o p k b h = rw (k, b) (go (is_container (w.obj o).kind) h)
  where
    rest : ℕ
    rest = cond (is_segment (w.obj o).kind) (units (length (w.obj o).bytes)) 1

    go : (a : Bool) → (a ≡ true → charged u p ≡ charged w o) → cond a (1 + charged u p) rest ≡ cond a (1 + charged w o) rest
    go true h = ap (λ (x : ℕ). 1 + x) (h refl)
    go false h = refl

-- ---- in a sound world

module _ (w : World) (s : Sound w) where
  -- nothing is linked at or from an id that no object has
  pub dead_to : (d o : ℕ) → is_live (w.obj o).kind ≡ false → w.linked d o ≡ false
  dead_to d o n = not_i (w.linked d o) (λ l. not_both (is_live (w.obj o).kind) (s.tree.held d o l) n)

  pub dead_from : (d o : ℕ) → is_live (w.obj d).kind ≡ false → w.linked d o ≡ false
  dead_from d o n =
      not_i (w.linked d o) (λ l. not_both (is_live (w.obj d).kind) (container_live (w.obj d).kind (s.tree.holder d o l)) n)

  -- no object has the next number yet
  pub next_dead : is_live (w.obj w.next).kind ≡ false
  next_dead = not_i (is_live (w.obj w.next).kind) (λ h. let i = s.ids w.next h in omega arith)

  pub next_to : (d : ℕ) → w.linked d w.next ≡ false
  next_to d = dead_to d w.next next_dead

  pub next_from : (o : ℕ) → w.linked w.next o ≡ false
  next_from o = dead_from w.next o next_dead

  pub held_below : (d o : ℕ) → w.linked d o ≡ true → o < w.next
  held_below d o l = (s.ids o (s.tree.held d o l)).1

  pub holder_below : (d o : ℕ) → w.linked d o ≡ true → d < w.next
  holder_below d o l = (s.ids d (container_live (w.obj d).kind (s.tree.holder d o l))).1

  no_charge : (d x : ℕ) → when (w.linked d w.next) x ≡ 0
  no_charge d x = when_false (w.linked d w.next) x (next_to d)

  pub charged_dead : (d : ℕ) → is_live (w.obj d).kind ≡ false → charged w d ≡ 0
  unfolding charged
  charged_dead d n = sum_none w.next (λ o. charge w d o) (λ o l. when_false (w.linked d o) (w.obj o).quota (dead_from d o n))

  -- what is linked in d is charged there
  pub charge_le : (d o : ℕ) → w.linked d o ≡ true → (w.obj o).quota ≤ charged w d
  unfolding charged
  charge_le d o l = omega (arith, sum_term w.next (λ p. charge w d p) o (held_below d o l), when_true (w.linked d o) (w.obj o).quota l)

  -- ---- keep

  pub keep_charged : (d : ℕ) → charged (apply keep w) d ≡ charged w d
  unfolding apply
  keep_charged d = omega (arith, charged_same w (apply keep w) refl d (λ o l. refl), no_charge d (w.obj w.next).quota)

  pub keep_use : (o : ℕ) → use_of (apply keep w) o ≡ use_of w o
  unfolding apply
  keep_use o = use_same w (apply keep w) o o refl refl (λ k. keep_charged o)

  -- ---- alter

  -- links stay, and where o is not linked no charge changes
  pub alter_unlinked : (o : ℕ) (e : Edit) (d : ℕ) → w.linked d o ≡ false → charged (apply (alter o e) w) d ≡ charged w d
  unfolding apply
  alter_unlinked o e d n =
      omega (
        arith,
        charged_same w (apply (alter o e) w) refl d
            (λ p l. when_cong (w.linked d p) (put o (edit e (w.obj o)) w.obj p).quota (w.obj p).quota
            (λ t. ap (λ (x : Obj). x.quota)
            (put_other o (edit e (w.obj o)) w.obj p (λ q. not_both (w.linked d o) (subst (λ (k : ℕ). w.linked d k ≡ true) q t) n)))),
        no_charge d (put o (edit e (w.obj o)) w.obj w.next).quota,
      )

  alter_at : (o : ℕ) (e : Edit) → (apply (alter o e) w).obj o ≡ edit e (w.obj o)
  unfolding apply
  alter_at o e = put_same o (edit e (w.obj o)) w.obj o refl

  -- where it is, the charge of o changes with its quota
  pub alter_linked : (o : ℕ) (e : Edit) (d : ℕ) → w.linked d o ≡ true
      → charged (apply (alter o e) w) d + (w.obj o).quota ≡ charged w d + (edit e (w.obj o)).quota
  unfolding apply
  alter_linked o e d l =
      omega (
        arith,
        charged_change w (apply (alter o e) w) refl d o (held_below d o l)
            (λ p k n. ap (λ (x : Obj). when (w.linked d p) x.quota) (put_other o (edit e (w.obj o)) w.obj p n)),
        no_charge d (put o (edit e (w.obj o)) w.obj w.next).quota,
        when_true (w.linked d o) (w.obj o).quota l,
        when_true (w.linked d o) (put o (edit e (w.obj o)) w.obj o).quota l,
        ap (λ (x : Obj). x.quota) (put_same o (edit e (w.obj o)) w.obj o refl),
      )

  pub alter_charged : (o : ℕ) (e : Edit) → (edit e (w.obj o)).quota ≡ (w.obj o).quota → (d : ℕ) → charged (apply (alter o e) w) d ≡ charged w d
  alter_charged o e q d = bool_cases (w.linked d o) (λ l. omega (arith, alter_linked o e d l)) (alter_unlinked o e d)

  -- what is left its quota and its bytes uses what it used, as does every other object
  pub alter_use : (o : ℕ) (e : Edit) → (edit e (w.obj o)).quota ≡ (w.obj o).quota → (edit e (w.obj o)).bytes ≡ (w.obj o).bytes
      → (p : ℕ) → use_of (apply (alter o e) w) p ≡ use_of w p
  alter_use o e q b p =
      use_same w (apply (alter o e) w) p p (alter_kind w o e p) (alter_field w o e (λ x. x.bytes) b p) (λ k. alter_charged o e q p)

  pub rewrite_charged : (o : ℕ) (b : List ℕ) (d : ℕ) → charged (apply (alter o (rewrite b)) w) d ≡ charged w d
  rewrite_charged o b = alter_charged o (rewrite b) (unfold edit in refl)

  pub rewrite_use : (o : ℕ) (b : List ℕ) → is_segment (w.obj o).kind ≡ true → use_of (apply (alter o (rewrite b)) w) o ≡ units (length b)
  rewrite_use o b k =
      use_segment (apply (alter o (rewrite b)) w) o (ap is_segment (alter_kind w o (rewrite b) o) ∙ k)
      ∙ ap (λ (x : Obj). units (length x.bytes)) (alter_at o (rewrite b))
      ∙ unfold edit in refl

  -- whatever the edit, another object that is charged with what it was uses what it used
  pub alter_use_others : (o : ℕ) (e : Edit) (p : ℕ) → (p ≡ o → ⊥) → charged (apply (alter o e) w) p ≡ charged w p → use_of (apply (alter o e) w) p ≡ use_of w p
  unfolding apply
  alter_use_others o e p n h =
      let same = put_other o (edit e (w.obj o)) w.obj p n in
      use_same w (apply (alter o e) w) p p (ap (λ (x : Obj). x.kind) same) (ap (λ (x : Obj). x.bytes) same) (λ k. h)

  pub rewrite_use_others : (o : ℕ) (b : List ℕ) (p : ℕ) → (p ≡ o → ⊥) → use_of (apply (alter o (rewrite b)) w) p ≡ use_of w p
  rewrite_use_others o b p n = alter_use_others o (rewrite b) p n (rewrite_charged o b p)

  -- the one container that holds o is charged with its new quota
  pub requota_charged : (o q : ℕ) (m : Moved w o q) → charged (apply (alter o (requota q)) w) m.holder + (w.obj o).quota ≡ charged w m.holder + q
  requota_charged o q m = unfold edit in (alter_linked o (requota q) m.holder m.is_linked)

  pub requota_others : (o q : ℕ) (m : Moved w o q) (d : ℕ) → (d ≡ m.holder → ⊥) → charged (apply (alter o (requota q)) w) d ≡ charged w d
  requota_others o q m d n =
      alter_unlinked o (requota q) d (not_i (w.linked d o) (λ l. n (s.one_link d m.holder o l m.is_linked m.not_fixed)))

  pub requota_use : (o q : ℕ) (m : Moved w o q) → use_of (apply (alter o (requota q)) w) m.holder + (w.obj o).quota ≡ use_of w m.holder + q
  requota_use o q m =
      let k = s.tree.holder m.holder o m.is_linked in
      omega (
        arith,
        use_container (apply (alter o (requota q)) w) m.holder (ap is_container (alter_kind w o (requota q) m.holder) ∙ k),
        use_container w m.holder k,
        requota_charged o q m,
      )

  -- every other object uses what it used, o too
  pub requota_use_others : (o q : ℕ) (m : Moved w o q) (p : ℕ) → (p ≡ m.holder → ⊥) → use_of (apply (alter o (requota q)) w) p ≡ use_of w p
  requota_use_others o q m p n =
      use_same w (apply (alter o (requota q)) w) p p (alter_kind w o (requota q) p) (alter_field w o (requota q) (λ x. x.bytes) (unfold edit in refl) p)
      (λ k. requota_others o q m p n)

  -- ---- create

  create_charge : (d : ℕ) (x : Obj) (e : ℕ) → charged (apply (create d x) w) e ≡ charged w e + when (link_in d w.next w.linked e w.next) x.quota
  unfolding apply
  create_charge d x e =
      charged_same w (apply (create d x) w) refl e
      (λ o l. ap₂ (λ (t : Bool) (y : Obj). when t y.quota) (link_other d w.next w.linked e o (λ p q. omega arith))
      (put_other w.next x w.obj o (λ p. omega arith)))
      ∙ ap (λ (y : Obj). charged w e + when (link_in d w.next w.linked e w.next) y.quota) (put_same w.next x w.obj w.next refl)

  -- what stands at an id after a create
  pub create_old : (d : ℕ) (x : Obj) (p : ℕ) → is_live (w.obj p).kind ≡ true → (apply (create d x) w).obj p ≡ w.obj p
  unfolding apply
  create_old d x p l = put_other w.next x w.obj p (λ e. let i = s.ids p l in omega arith)

  pub create_at : (d : ℕ) (x : Obj) → (apply (create d x) w).obj w.next ≡ x
  unfolding apply
  create_at d x = put_same w.next x w.obj w.next refl

  pub create_charged : (d : ℕ) (x : Obj) → charged (apply (create d x) w) d ≡ charged w d + x.quota
  create_charged d x = omega (arith, create_charge d x d, when_true (link_in d w.next w.linked d w.next) x.quota (link_new d w.next w.linked))

  pub create_others : (d : ℕ) (x : Obj) (e : ℕ) → (e ≡ d → ⊥) → charged (apply (create d x) w) e ≡ charged w e
  create_others d x e n =
      omega (
        arith,
        create_charge d x e,
        when_false (link_in d w.next w.linked e w.next) x.quota (link_other d w.next w.linked e w.next (λ p q. n p) ∙ next_to e),
      )

  -- what is created is charged with nothing
  pub create_new : (d : ℕ) (x : Obj) → is_container (w.obj d).kind ≡ true → charged (apply (create d x) w) w.next ≡ 0
  create_new d x k =
      create_others d x w.next
      (λ e. not_both (is_live (w.obj d).kind) (container_live (w.obj d).kind k) (subst (λ (i : ℕ). is_live (w.obj i).kind ≡ false) e next_dead))
      ∙ charged_dead w.next next_dead

  pub create_use : (d : ℕ) (x : Obj) → is_container (w.obj d).kind ≡ true → use_of (apply (create d x) w) d ≡ use_of w d + x.quota
  create_use d x k =
      omega (
        arith,
        use_container (apply (create d x) w) d (ap (λ (y : Obj). is_container y.kind) (create_old d x d (container_live (w.obj d).kind k)) ∙ k),
        use_container w d k,
        create_charged d x,
      )

  pub create_use_others : (d : ℕ) (x : Obj) (p : ℕ) → is_live (w.obj p).kind ≡ true → (p ≡ d → ⊥) → use_of (apply (create d x) w) p ≡ use_of w p
  create_use_others d x p l n =
      let same = create_old d x p l in
      use_same w (apply (create d x) w) p p (ap (λ (y : Obj). y.kind) same) (ap (λ (y : Obj). y.bytes) same) (λ k. create_others d x p n)

  -- what is created uses 1
  pub create_use_new : (d : ℕ) (x : Obj) → Made w d x → use_of (apply (create d x) w) w.next ≡ 1
  unfolding use_of
  create_use_new d x m =
      rw (create_at d x, create_new d x m.is_container_lem, m.empty) (go (is_container x.kind) (is_segment x.kind))
    where
      go : (a b : Bool) → cond a (1 + 0) (cond b (units (length {A = ℕ} [])) 1) ≡ 1
      go true b = refl
      go false true = unfold units in refl
      go false false = refl

  -- ---- link

  pub link_charged : (d o : ℕ) → Linked w d o → charged (apply (link d o) w) d ≡ charged w d + (w.obj o).quota
  unfolding apply
  link_charged d o m =
      let l : o < w.next = (s.ids o (segment_live (w.obj o).kind m.is_segment_lem)).1 in
      omega (
        arith,
        charged_change w (apply (link d o) w) refl d o l
            (λ p k n. ap (λ (t : Bool). when t (w.obj p).quota) (link_other d o w.linked d p (λ q r. n r))),
        when_false (link_in d o w.linked d w.next) (w.obj w.next).quota (link_other d o w.linked d w.next (λ q r. omega arith) ∙ next_to d),
        when_false (w.linked d o) (w.obj o).quota m.is_new,
        when_true (link_in d o w.linked d o) (w.obj o).quota (link_new d o w.linked),
      )

  pub link_others : (d o e : ℕ) → (e ≡ d → ⊥) → charged (apply (link d o) w) e ≡ charged w e
  unfolding apply
  link_others d o e n =
      omega (
        arith,
        charged_same w (apply (link d o) w) refl e (λ p l. ap (λ (t : Bool). when t (w.obj p).quota) (link_other d o w.linked e p (λ q r. n q))),
        when_false (link_in d o w.linked e w.next) (w.obj w.next).quota (link_other d o w.linked e w.next (λ q r. n q) ∙ next_to e),
      )

  pub link_use : (d o : ℕ) → Linked w d o → use_of (apply (link d o) w) d ≡ use_of w d + (w.obj o).quota
  unfolding apply
  link_use d o m = omega (arith, use_container (apply (link d o) w) d m.is_container_lem, use_container w d m.is_container_lem, link_charged d o m)

  pub link_use_others : (d o p : ℕ) → (p ≡ d → ⊥) → use_of (apply (link d o) w) p ≡ use_of w p
  unfolding apply
  link_use_others d o p n = use_same w (apply (link d o) w) p p refl refl (λ k. link_others d o p n)

  -- ---- cut

  pub cut_kept : (d o p : ℕ) → kept w d o p ≡ true → (apply (cut d o) w).obj p ≡ w.obj p
  unfolding apply
  cut_kept d o p k = rw k

  pub cut_charged_le : (d o e : ℕ) → charged (apply (cut d o) w) e ≤ charged w e
  unfolding apply
  cut_charged_le d o e = omega (arith, charged_le w (apply (cut d o) w) refl e (λ p l. each p), each w.next, no_charge e (w.obj w.next).quota)
    where
      kept_le : (t : Bool) (x : Obj) → (cond t x nothing).quota ≤ x.quota
      kept_le true x = omega arith
      kept_le false x = unfold nothing in (omega arith)

      each : (p : ℕ) → when (stays w d o e p) (cond (kept w d o p) (w.obj p) nothing).quota ≤ charge w e p
      each p =
          when_le (stays w d o e p) (cond (kept w d o p) (w.obj p) nothing).quota (charge w e p)
          (λ h. omega (
            arith,
            kept_le (kept w d o p) (w.obj p),
            when_true (w.linked e p) (w.obj p).quota (unfold stays in (then_l (w.linked e p) (not (eqb e d && eqb p o) && not (below w o e)) h)),
          ))

  -- what is kept uses no more than before
  pub cut_use_le : (d o p : ℕ) → kept w d o p ≡ true → use_of (apply (cut d o) w) p ≤ use_of w p
  unfolding use_of
  cut_use_le d o p k = rw (cut_kept d o p k) (go (is_container (w.obj p).kind))
    where
      rest : ℕ
      rest = cond (is_segment (w.obj p).kind) (units (length (w.obj p).bytes)) 1

      go : (a : Bool) → cond a (1 + charged (apply (cut d o) w) p) rest ≤ cond a (1 + charged w p) rest
      go true = omega (arith, cut_charged_le d o p)
      go false = omega arith
