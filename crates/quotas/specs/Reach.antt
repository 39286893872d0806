-- Every live object is reached from the root, so no quota is above the root's; and blocks are never wanting.
use Rattle.std.specs.Prelude.{◌≡◌, Bool, ℕ, zero, suc, ◌+◌, ◌-◌, ◌<◌, ◌≤◌, eqb}
use Rattle.std.proofs.Math.Path.{refl, sym}
use Rattle.std.proofs.Common.{ap, subst, ◌∙◌, ne_eqb}
use Rattle.std.proofs.Math.Bool.{true, false}
use Rattle.std.proofs.Math.Decide.{ℕ_discrete}
use native.Mathlib.Omega.{arith}
use Rattle.quotas.specs.Any.{no_both}
use Rattle.quotas.specs.Sum.{Σ, when, put, put_here, put_else, sum_cong, sum_mono, sum_add, sum_none, sum_swap, sum_term, sum_change, sum_pick, when_true, when_false, when_none}
use Rattle.quotas.specs.Tree.{View, Sound, Way, here, step, links, quota_falls}
use Rattle.quotas.specs.Room.{link_of, all_held}

module _ (v : View) (n m root : ℕ) (s : Sound v n m root) where
  -- climb: the quota rises, and none is above the sum of all
  climb : (fuel c : ℕ) → c < n → v.con c ≡ true → Σ n v.quota ≤ v.quota c + fuel → (j : ℕ) × (Way v m j root c)
  climb zero c h e f = elim (ℕ_discrete c root) [
    | yes p ↦ (0, subst (λ (x : ℕ). Way v m 0 root x) (sym p) (here root))
    | no np ↦ (let (l, lm, on, ob) = link_of v n m root s c (let z : links v m c ≡ 1 = s.one c h e np in omega arith) in
        absurd (omega (arith, quota_falls v n m root s l lm on, ap v.quota ob, sum_term n v.quota (v.par l) (s.par_con l lm on).0)))
  ]
  climb (suc fuel) c h e f = elim (ℕ_discrete c root) [
    | yes p ↦ (0, subst (λ (x : ℕ). Way v m 0 root x) (sym p) (here root))
    | no np ↦ (let (l, lm, on, ob) = link_of v n m root s c (let z : links v m c ≡ 1 = s.one c h e np in omega arith) in
        let p = s.par_con l lm on in
        let (j, w) = climb fuel (v.par l) p.0 p.1 (omega (arith, quota_falls v n m root s l lm on, ap v.quota ob)) in
        (suc j, subst (λ (x : ℕ). Way v m (suc j) root x) ob (step l lm on w)))
  ]

  pub con_reached : (c : ℕ) → c < n → v.con c ≡ true → (j : ℕ) × (Way v m j root c)
  con_reached c h e = climb (Σ n v.quota) c h e (omega arith)

  -- the tree: every live object is reached from the root
  pub reached : (r : ℕ) → r < n → v.live r ≡ true → (j : ℕ) × (Way v m j root r)
  reached r h e = go (v.con r) refl
    where
      go : (t : Bool) → v.con r ≡ t → (j : ℕ) × (Way v m j root r)
      go true q = con_reached r h q
      go false q =
          let (l, lm, on, ob) = link_of v n m root s r (s.some r h e q) in
          let p = s.par_con l lm on in
          let (j, w) = con_reached (v.par l) p.0 p.1 in
          (suc j, subst (λ (x : ℕ). Way v m (suc j) root x) ob (step l lm on w))

-- ---- blocks
-- block b is used and is row `own b`'s; each row has as many blocks as it holds beyond 1
pub record Blocks (v : View) (n blocks : ℕ) (used : ℕ → Bool) (own : ℕ → ℕ) : Type 0 where
  pub owned : (b : ℕ) → b < blocks → used b ≡ true → (own b < n) × (v.live (own b) ≡ true)
  pub exact : (r : ℕ) → r < n → v.live r ≡ true → 1 + Σ blocks (λ b. when (used b) (when (eqb (own b) r) 1)) ≡ v.hold r

module _ (v : View) (n m root : ℕ) (s : Sound v n m root) (blocks : ℕ) (used : ℕ → Bool) (own : ℕ → ℕ) (k : Blocks v n blocks used own) where
  has : ℕ → ℕ
  has r = Σ blocks (λ b. when (used b) (when (eqb (own b) r) 1))

  -- the blocks in use, row by row
  by_rows : Σ blocks (λ b. when (used b) 1) ≡ Σ n has
  unfolding has
  by_rows =
      sum_cong blocks _ (λ b. Σ n (λ r. when (used b) (when (eqb (own b) r) 1))) each
      ∙ sum_swap blocks n (λ b r. when (used b) (when (eqb (own b) r) 1))
    where
      each : (b : ℕ) → b < blocks → when (used b) 1 ≡ Σ n (λ r. when (used b) (when (eqb (own b) r) 1))
      each b h = go (used b) refl
        where
          go : (t : Bool) → used b ≡ t → when (used b) 1 ≡ Σ n (λ r. when (used b) (when (eqb (own b) r) 1))
          go true e = when_true (used b) 1 e ∙ sym (sum_cong n _ (λ r. when (eqb (own b) r) 1) (λ r i. when_true (used b) _ e) ∙ sum_pick n (own b) 1 (k.owned b h e).0)
          go false e = when_false (used b) 1 e ∙ sym (sum_none n _ (λ r i. when_false (used b) _ e))

  -- what rows have is at most what live rows hold, less 1 each
  row_has : (r : ℕ) → r < n → has r + when (v.live r) 1 ≤ when (v.live r) (v.hold r)
  unfolding has
  row_has r h = go (v.live r) refl
    where
      go : (t : Bool) → v.live r ≡ t → Σ blocks (λ b. when (used b) (when (eqb (own b) r) 1)) + when (v.live r) 1 ≤ when (v.live r) (v.hold r)
      go true e = omega (arith, k.exact r h e, when_true (v.live r) 1 e, when_true (v.live r) (v.hold r) e)
      go false e =
          omega (
            arith,
            when_false (v.live r) 1 e,
            sum_none blocks (λ b. when (used b) (when (eqb (own b) r) 1))
                (λ b i. when_none (used b) _ (λ u. when_false (eqb (own b) r) 1 (ne_eqb (own b) r (λ q. no_both (v.live (own b)) (k.owned b i u).1 (ap v.live q ∙ e))))),
          )

  -- blocks in use, the root's own unit, and what one segment may still grow by, are within the root's quota
  pub blocks_held : (r : ℕ) → r < n → v.live r ≡ true → v.con r ≡ false → 1 + Σ blocks (λ b. when (used b) 1) + (v.quota r - v.hold r) ≤ v.quota root
  blocks_held r h e nc =
      let full = put v.hold r (v.quota r) in
      omega (
        arith,
        all_held v n m root s full con_one leaf_less root s.root_in s.root_con,
        sum_change n (λ i. when (v.live i) (v.hold i)) (λ i. when (v.live i) (full i)) r h (λ i l ne. ap (λ (x : ℕ). when (v.live i) x) (put_else v.hold r (v.quota r) i ne)),
        when_true (v.live r) (v.hold r) e,
        when_true (v.live r) (full r) e,
        put_here v.hold r (v.quota r) r refl,
        by_rows,
        sum_mono n _ _ row_has,
        sum_add n has (λ i. when (v.live i) 1),
        sum_term n (λ i. when (v.live i) 1) root s.root_in,
        when_true (v.live root) 1 (s.con_live root s.root_con),
        s.holds r h e,
      )
    where
      con_one : (i : ℕ) → v.con i ≡ true → put v.hold r (v.quota r) i ≤ 1
      con_one i q = elim (ℕ_discrete i r) [
        | yes p ↦ absurd (no_both (v.con r) (subst (λ (x : ℕ). v.con x ≡ true) p q) nc)
        | no np ↦ omega (arith, put_else v.hold r (v.quota r) i np, s.con_holds i q)
      ]

      leaf_less : (i : ℕ) → i < n → v.live i ≡ true → v.con i ≡ false → put v.hold r (v.quota r) i ≤ v.quota i
      leaf_less i l q z = elim (ℕ_discrete i r) [
        | yes p ↦ omega (arith, put_here v.hold r (v.quota r) i p, ap v.quota p)
        | no np ↦ omega (arith, put_else v.hold r (v.quota r) i np, s.holds i l q)
      ]
