-- Call 8: what is below an object, which links stay when one to it is cut, and what is kept.
use Prim.Native.Nat.{ℕ, zero, suc, ◌+◌, ◌<◌, ◌≤◌}
use Rattle.std.proofs.Math.Decide.{ℕ_discrete}
use Rattle.std.proofs.Common.{arith, sym, ◌∙◌, subst}
use Rattle.std.specs.Prelude.{Bool, ◌&&◌, ◌≡◌}
use Rattle.std.proofs.Math.Bool.{true, false, not, cond}
use Rattle.std.proofs.Math.Path.{refl, ap}
use Rattle.std.proofs.Math.Dec.{eqb}
use borrow.Author.Tests.{eqb-true, eq-eqb, not-true}
use Rattle.quotas.specs.Any.{any, any_found, any_of}
use Rattle.rules.specs.Kernel.{is_live, is_segment, is_container, World, under, below, stays, kept, root_quota}
use Rattle.rules.specs.Sound.{Sound}
use Rattle.rules.proofs.Laws.Bools.{and_l, and_r, or_cases, or_i_l, or_i_r, then_l, then_r, then_i, not_i, not_both, bool_cases}
use Rattle.rules.proofs.Laws.Kinds.{container_live, container_no_segment}
use Rattle.rules.proofs.Laws.Usage.{holder_below}
use Rattle.rules.proofs.Laws.Falls.{falls, quota_most}

-- ---- what is below

module _ (w : World) where
  -- a way down of one link more
  pub under_step : (o k e : ℕ) → under w o (suc k) e ≡ true → (d : ℕ) × (w.linked d e ≡ true) × (under w o k d ≡ true)
  unfolding under
  under_step o k e h =
      let (d, l, t) = any_found w.next (λ d. cond (w.linked d e) (under w o k d) false) h in
      (d, then_l (w.linked d e) (under w o k d) t, then_r (w.linked d e) (under w o k d) t)

  pub below_self : (o : ℕ) → below w o o ≡ true
  unfolding below under
  below_self o = any_of root_quota (λ k. under w o k o) 0 (omega arith) (eq-eqb o o refl)

  -- what is below o is o, or is linked in what is below it
  pub below_cases : {C : Type 0} (o e : ℕ) → below w o e ≡ true → (e ≡ o → C) → ((d : ℕ) → w.linked d e ≡ true → below w o d ≡ true → C) → C
  unfolding below
  below_cases {C} o e h here step = let (k, l, t) = any_found root_quota (λ k. under w o k e) h in go k l t
    where
      go : (k : ℕ) → k < root_quota → under w o k e ≡ true → C
      go zero l t = unfold under in (here (eqb-true e o t))
      go (suc k) l t =
          let (d, c, u) = under_step o k e t in
          step d c (unfold below in (any_of root_quota (λ j. under w o j d) k (omega arith) u))

module _ (w : World) (s : Sound w) where
  -- the quota falls by one at least with each link
  under_quota : (o k e : ℕ) → under w o k e ≡ true → (w.obj e).quota + k ≤ (w.obj o).quota
  under_quota o zero e h = unfold under in (omega (arith, ap (λ (j : ℕ). (w.obj j).quota) (eqb-true e o h)))
  under_quota o (suc k) e h = let (d, l, t) = under_step w o k e h in omega (arith, under_quota o k d t, falls w s d e l)

  under_live : (o k e : ℕ) → under w o k e ≡ true → is_live (w.obj e).kind ≡ true → is_live (w.obj o).kind ≡ true
  under_live o zero e h i = unfold under in (subst (λ (j : ℕ). is_live (w.obj j).kind ≡ true) (eqb-true e o h) i)
  under_live o (suc k) e h i = let (d, l, t) = under_step w o k e h in under_live o k d t (container_live (w.obj d).kind (s.tree.holder d e l))

  pub below_quota : (o e : ℕ) → below w o e ≡ true → (w.obj e).quota ≤ (w.obj o).quota
  unfolding below
  below_quota o e h = let (k, l, t) = any_found root_quota (λ k. under w o k e) h in omega (arith, under_quota o k e t)

  -- What is linked in what is below o is below o.
  pub below_down : (o d e : ℕ) → w.linked d e ≡ true → below w o d ≡ true → below w o e ≡ true
  unfolding below
  below_down o d e l h =
      let (k, i, t) = any_found root_quota (λ k. under w o k d) h in
      let u : under w o (suc k) e ≡ true =
      unfold under in
      (any_of w.next (λ c. cond (w.linked c e) (under w o k c) false) d (holder_below w s d e l) (then_i (w.linked d e) (under w o k d) l t)) in
      let i = s.tree.held d e l in
      any_of root_quota (λ j. under w o j e) (suc k)
      (omega (arith, under_quota o (suc k) e u, (s.ranges e i).quota_some, quota_most w s o (under_live o (suc k) e u i))) u

  -- A container that o is linked in is not below o.
  pub holder_not_below : (d o : ℕ) → w.linked d o ≡ true → below w o d ≡ false
  holder_not_below d o l = not_i (below w o d) (λ h. omega (arith, below_quota o d h, falls w s d o l))

  pub root_not_below : (d o : ℕ) → w.linked d o ≡ true → below w o w.root ≡ false
  root_not_below d o l =
      not_i (below w o w.root) (λ h. below_cases w o w.root h
      (λ e. not_both (w.linked d o) l (subst (λ (p : ℕ). w.linked d p ≡ false) e (s.tree.root_top d)))
      (λ c k b. not_both (w.linked c w.root) k (s.tree.root_top c)))

  -- up from what has one link: what holds it is below o too
  pub below_up : (o d e : ℕ) → w.linked d e ≡ true → (w.obj e).fixed ≡ false → (e ≡ o → ⊥) → below w o e ≡ true → below w o d ≡ true
  below_up o d e l f n h =
      below_cases w o e h (λ q. absurd (n q)) (λ c k b. subst (λ (j : ℕ). below w o j ≡ true) (s.one_link c d e k l f) b)

  -- only segments are fixed
  pub container_free : (o : ℕ) → is_container (w.obj o).kind ≡ true → (w.obj o).fixed ≡ false
  container_free o k =
      not_i (w.obj o).fixed
      (λ f. not_both (is_segment (w.obj o).kind) ((s.ranges o (container_live (w.obj o).kind k)).fixed_segment f)
      (container_no_segment (w.obj o).kind k))

-- ---- which links stay, and what is kept, when o is cut from d

module _ (w : World) (d o : ℕ) where
  pub stays_linked : (e p : ℕ) → stays w d o e p ≡ true → w.linked e p ≡ true
  unfolding stays
  stays_linked e p h = then_l (w.linked e p) (not (eqb e d && eqb p o) && not (below w o e)) h

  pub stays_not_below : (e p : ℕ) → stays w d o e p ≡ true → below w o e ≡ false
  unfolding stays
  stays_not_below e p h =
      not-true (below w o e)
      (and_r (not (eqb e d && eqb p o)) (not (below w o e)) (then_r (w.linked e p) (not (eqb e d && eqb p o) && not (below w o e)) h))

  pub stays_not_cut : (e p : ℕ) → stays w d o e p ≡ true → e ≡ d → p ≡ o → ⊥
  unfolding stays
  stays_not_cut e p h x y =
      let h2 = and_l (not (eqb e d && eqb p o)) (not (below w o e)) (then_r (w.linked e p) (not (eqb e d && eqb p o) && not (below w o e)) h) in
      not_both (eqb e d && eqb p o) (rw (eq-eqb e d x, eq-eqb p o y)) (not-true (eqb e d && eqb p o) h2)

  pub stays_i : (e p : ℕ) → w.linked e p ≡ true → (e ≡ d → p ≡ o → ⊥) → below w o e ≡ false → stays w d o e p ≡ true
  unfolding stays
  stays_i e p l n b = rw (l, b) (go (eqb e d) (eqb p o) refl refl)
    where
      go : (x y : Bool) → eqb e d ≡ x → eqb p o ≡ y → (not (x && y) && true) ≡ true
      go true true x y = absurd (n (eqb-true e d x) (eqb-true p o y))
      go true false x y = refl
      go false y x z = refl

  -- in a container that is not below o every other link stays
  pub stays_same : (e p : ℕ) → (e ≡ d → p ≡ o → ⊥) → below w o e ≡ false → stays w d o e p ≡ w.linked e p
  stays_same e p n b =
      bool_cases (w.linked e p) (λ l. stays_i e p l n b ∙ sym l) (λ l. not_i (stays w d o e p) (λ h. not_both (w.linked e p) (stays_linked e p h) l) ∙ sym l)

  pub root_kept : kept w d o w.root ≡ true
  unfolding kept
  root_kept = or_i_l (eqb w.root w.root) (any w.next (λ e. stays w d o e w.root)) (eq-eqb w.root w.root refl)

  -- What is kept is the root, or the end of a link that stays.
  pub kept_cases : {C : Type 0} (p : ℕ) → kept w d o p ≡ true → (p ≡ w.root → C) → ((e : ℕ) → stays w d o e p ≡ true → C) → C
  unfolding kept
  kept_cases p k at_root by_link =
      or_cases (eqb p w.root) (any w.next (λ e. stays w d o e p)) k (λ q. at_root (eqb-true p w.root q))
      (λ q. let (e, l, t) = any_found w.next (λ e. stays w d o e p) q in by_link e t)

module _ (w : World) (s : Sound w) (d o : ℕ) where
  -- The end of a link that stays is kept.
  pub stays_kept : (e p : ℕ) → stays w d o e p ≡ true → kept w d o p ≡ true
  unfolding kept
  stays_kept e p h =
      or_i_r (eqb p w.root) (any w.next (λ f. stays w d o f p))
      (any_of w.next (λ f. stays w d o f p) e (holder_below w s e p (stays_linked w d o e p h)) h)

  -- A container that is not below o is kept.
  pub container_kept : (e : ℕ) → is_container (w.obj e).kind ≡ true → below w o e ≡ false → kept w d o e ≡ true
  container_kept e k b = elim (ℕ_discrete e w.root) [
    | yes q ↦ subst (λ (i : ℕ). kept w d o i ≡ true) (sym q) (root_kept w d o)
    | no n ↦ (let (f, l) = s.has_link e (container_live (w.obj e).kind k) n in
        stays_kept f e (stays_i w d o f e l
        (λ x y. not_both (below w o e) (subst (λ (i : ℕ). below w o i ≡ true) (sym y) (below_self w o)) b)
        (not_i (below w o f) (λ h. not_both (below w o e) (below_down w s o f e l h) b))))
  ]
