-- The tree of a container: what a way down the links leads to.
use Rattle.std.specs.Prelude.{◌≡◌, Bool, eqb}
use Rattle.std.proofs.Math.Path.{refl, subst}
use Rattle.std.proofs.Common.{sym, ◌∙◌, not-suc-le-zero, eq-or-lt_of_le, le_of_suc-le-suc, arith}
use Rattle.std.proofs.Math.Bool.{true}
use Rattle.std.proofs.Math.Logic.{⊎_elim}
use Prim.Native.Nat.{ℕ, zero, suc, ◌+◌, ◌<◌, ◌≤◌}
use Rattle.std.proofs.Math.Decide.{ℕ_discrete}
use borrow.Author.Tests.{eqb-true, eq-eqb}
use Rattle.quotas.specs.Any.{no_both, both, either, any, both_parts, both_of, either_parts, either_left, either_right, any_found, any_of}
use Rattle.quotas.specs.Sum.{Σ, when, sum_term, when_true}
use Rattle.quotas.specs.Tree.{View, Sound, Part, Within, Way, here, step, links, spare_of_lem, held_within, way_falls, no_cycle}
use Rattle.quotas.specs.Room.{counted}

-- r is at most k steps down from d
unfoldable pub within_steps : View → ℕ → ℕ → ℕ → ℕ → Bool
within_steps v m d zero r = eqb r d
within_steps v m d (suc k) r = either (eqb r d) (any m (λ l. both (v.on l) (both (eqb (v.obj l) r) (within_steps v m d k (v.par l)))))

-- r lies in the tree of d: the quota falls along every link, so no way is longer than d's
unfoldable pub in_tree_lem : View → ℕ → ℕ → ℕ → Bool
in_tree_lem v m d r = within_steps v m d (v.quota d) r

-- its containers
unfoldable pub tree_con : View → ℕ → ℕ → ℕ → Bool
tree_con v m d c = both (v.con c) (in_tree_lem v m d c)

module _ (v : View) (m : ℕ) where
  steps_way : (d k r : ℕ) → within_steps v m d k r ≡ true → (j : ℕ) × (Way v m j d r)
  unfolding within_steps
  steps_way d zero r e = (0, subst (λ (x : ℕ). Way v m 0 d x) (sym (eqb-true r d e)) (here d))
  steps_way d (suc k) r e =
      ⊎_elim {C = (j : ℕ) × (Way v m j d r)}
      (λ p. (0, subst (λ (x : ℕ). Way v m 0 d x) (sym (eqb-true r d p)) (here d)))
      (λ p.
      let (l, lm, q) = any_found m (λ l. both (v.on l) (both (eqb (v.obj l) r) (within_steps v m d k (v.par l)))) p in
      let (on, q₂) = both_parts (v.on l) _ q in
      let (ob, q₃) = both_parts (eqb (v.obj l) r) _ q₂ in
      let (j, w) = steps_way d k (v.par l) q₃ in
      (suc j, subst (λ (x : ℕ). Way v m (suc j) d x) (eqb-true (v.obj l) r ob) (step l lm on w)))
      (either_parts (eqb r d) _ e)

  way_steps : {j d r : ℕ} → Way v m j d r → (k : ℕ) → j ≤ k → within_steps v m d k r ≡ true
  unfolding within_steps
  way_steps (here d) zero le = eq-eqb d d refl
  way_steps (here d) (suc k) le = either_left (eqb d d) _ (eq-eqb d d refl)
  way_steps (step l h on w) zero le = absurd (not-suc-le-zero le)
  way_steps {d = d} (step l h on w) (suc k) le =
      either_right (eqb (v.obj l) d) _
      (any_of m _ l h (both_of (v.on l) _ on (both_of (eqb (v.obj l) (v.obj l)) _ (eq-eqb (v.obj l) (v.obj l) refl) (way_steps w k (le_of_suc-le-suc le)))))

-- two that count are two
two : (m : ℕ) (f : ℕ → ℕ) (i j : ℕ) → i < m → j < m → (i ≡ j → ⊥) → 1 ≤ f i → 1 ≤ f j → 2 ≤ Σ m f
unfolding Σ
two zero f i j p q ne a b = absurd (not-suc-le-zero p)
two (suc m) f i j p q ne a b =
    ⊎_elim
    (λ e. ⊎_elim (λ e₂. absurd (ne (e ∙ sym e₂))) (λ k. omega (arith, sum_term m f j k, subst (λ (x : ℕ). 1 ≤ f x) e a)) (eq-or-lt_of_le (le_of_suc-le-suc q)))
    (λ k. ⊎_elim (λ e₂. omega (arith, sum_term m f i k, subst (λ (x : ℕ). 1 ≤ f x) e₂ b)) (λ k₂. omega (arith, two m f i j k k₂ ne a b)) (eq-or-lt_of_le (le_of_suc-le-suc q)))
    (eq-or-lt_of_le (le_of_suc-le-suc p))

module _ (v : View) (m : ℕ) where
  -- an object with one link hangs by that link
  pub same_link : (l k r : ℕ) → l < m → k < m → v.on l ≡ true → v.on k ≡ true → v.obj l ≡ r → v.obj k ≡ r → links v m r ≡ 1 → l ≡ k
  unfolding links
  same_link l k r lm km ol ok el ek one = elim (ℕ_discrete l k) [ yes e ↦ e | no ne ↦ absurd (clash ne) ]
    where
      pos : (i : ℕ) → v.on i ≡ true → v.obj i ≡ r → 1 ≤ when (v.on i) (when (eqb (v.obj i) r) 1)
      pos i o e = omega (arith, when_true (v.on i) (when (eqb (v.obj i) r) 1) o, when_true (eqb (v.obj i) r) 1 (eq-eqb (v.obj i) r e))

      clash : (l ≡ k → ⊥) → ⊥
      clash ne =
          let o : Σ m (λ l. when (v.on l) (when (eqb (v.obj l) r) 1)) ≡ 1 = one in
          omega (arith, two m (λ l. when (v.on l) (when (eqb (v.obj l) r) 1)) l k lm km ne (pos l ol el) (pos k ok ek))

module _ (v : View) (n m root : ℕ) (s : Sound v n m root) (d : ℕ) where
  pub tree_way : (r : ℕ) → in_tree_lem v m d r ≡ true → (j : ℕ) × (Way v m j d r)
  unfolding in_tree_lem
  tree_way r e = steps_way v m d (v.quota d) r e

  pub way_tree : {j r : ℕ} → Way v m j d r → in_tree_lem v m d r ≡ true
  unfolding in_tree_lem
  way_tree w = way_steps v m w (v.quota d) (omega (arith, way_falls v n m root s w))

module _ (v : View) (n m root : ℕ) (s : Sound v n m root) (d : ℕ) (d-in : d < n) (d-con : v.con d ≡ true) where
  -- what hangs by a link is not the root
  not_root : (l : ℕ) → l < m → v.on l ≡ true → v.obj l ≡ root → ⊥
  not_root l h on e = let a : links v m root ≡ 0 = s.root_none in omega (arith, counted v n m root s l root h on e)

  -- the last step of a way down to what has one link is that link
  last_step : (l : ℕ) → l < m → v.on l ≡ true → links v m (v.obj l) ≡ 1 → (v.obj l ≡ d → ⊥) → {j r : ℕ} → Way v m j d r → r ≡ v.obj l → in_tree_lem v m d (v.par l) ≡ true
  last_step l h on one ne (here c) e = absurd (ne (sym e))
  last_step l h on one ne (step k hk ok w) e =
      subst (λ (x : ℕ). in_tree_lem v m d (v.par x) ≡ true) (same_link v m k l (v.obj l) hk h ok on e refl one) (way_tree v n m root s d w)

  -- a way down that goes anywhere ends in a link
  last_link : {j r : ℕ} → Way v m j d r → (r ≡ d → ⊥) → (l : ℕ) × (l < m) × (v.on l ≡ true) × (v.obj l ≡ r) × (in_tree_lem v m d (v.par l) ≡ true)
  last_link (here c) ne = absurd (ne refl)
  last_link (step l h on w) ne = (l, h, on, refl, way_tree v n m root s d w)

  pub tree_part : Part v n m (tree_con v m d) d
  unfolding tree_con
  tree_part = record {
    top_in = d-in;
    top = both_of (v.con d) _ d-con (way_tree v n m root s d (here d));
    are_con = λ c e. (both_parts (v.con c) _ e).0;
    down = λ l h on sp isC. both_of (v.con (v.obj l)) _ isC (way_tree v n m root s d (step l h on (tree_way v n m root s d (v.par l) (both_parts (v.con (v.par l)) _ sp).1).1));
    up = λ l h on so ne.
        let q = both_parts (v.con (v.obj l)) _ so in
        let one : links v m (v.obj l) ≡ 1 = s.one (v.obj l) (s.obj_live l h on).0 q.0 (not_root l h on) in
        both_of (v.con (v.par l)) _ (s.par_con l h on).1 (last_step l h on one ne (tree_way v n m root s d (v.obj l) q.1).1 refl);
    over = λ l h on e sp.
        let w = tree_way v n m root s d (v.par l) (both_parts (v.con (v.par l)) _ sp).1 in
        no_cycle v n m root s w.0 d (subst (λ (x : ℕ). Way v m (suc w.0) d x) e (step l h on w.1));
    hung = λ c k e ne.
        let q = both_parts (v.con c) _ e in
        s.one c k q.0 (λ isRoot.
        let (l, h, on, ob, pa) = last_link (tree_way v n m root s d c q.1).1 ne in
        not_root l h on (ob ∙ isRoot));
  }

  pub tree_within : Within v n m (tree_con v m d) (in_tree_lem v m d)
  unfolding tree_con
  tree_within = record {
    con_in = λ r t e. both_of (v.con r) _ e t;
    by_link = λ r k t e.
        let (l, h, on, ob, pa) = last_link (tree_way v n m root s d r t).1 (λ q. no_both (v.con r) (subst (λ (x : ℕ). v.con x ≡ true) (sym q) d-con) e) in
        (l, h, on, both_of (v.con (v.par l)) _ (s.par_con l h on).1 pa, ob);
  }

  hold_con : (r : ℕ) → v.con r ≡ true → v.hold r ≤ 1
  hold_con r e = omega (arith, s.con_holds r e)

  -- (c) THE STATEMENT: the objects in the tree of d, each counted once, hold no more than d's quota, and its spare is over
  pub held_in_tree : Σ n (λ r. when (in_tree_lem v m d r) (v.hold r)) + Σ n (λ c. when (tree_con v m d c) (spare_of_lem v m c)) ≤ v.quota d
  held_in_tree = held_within v n m root s (tree_con v m d) d tree_part (in_tree_lem v m d) tree_within v.hold hold_con (λ r k t nc. (s.holds r k t).1)
