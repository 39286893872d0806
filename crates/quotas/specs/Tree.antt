-- A book seen as functions of row and link numbers, and what its quotas add up to.
use Rattle.std.specs.Prelude.{◌≡◌, Bool, ℕ, zero, suc, ◌+◌, ◌*◌, ◌-◌, ◌<◌, ◌≤◌, eqb}
use Rattle.std.proofs.Math.Path.{refl, sym, ap, subst}
use Rattle.std.proofs.Common.{◌∙◌}
use Rattle.std.proofs.Math.Bool.{true, false, not}
use native.Mathlib.Omega.{arith}
use borrow.Author.Tests.{eqb-true, eqb-false, eq-eqb, ne_eqb}
use Rattle.quotas.specs.Any.{no_both}
use Rattle.quotas.specs.Sum.{Σ, when, sum_cong, sum_mono, sum_add, sum_none, sum_swap, sum_term, sum_point, sum_when, sum_const2, sum_pick, when_true, when_false, when_cong}
use Rattle.quotas.specs.Sum.{when_none, when_add, when_swap, when_split, when_le}

pub record View : Type 0 where
  -- row r is live; is a live container
  pub live : ℕ → Bool
  pub con : ℕ → Bool
  -- a row's quota, and what it holds
  pub quota : ℕ → ℕ
  pub hold : ℕ → ℕ
  -- link l is live; its container's row; its object's row
  pub on : ℕ → Bool
  pub par : ℕ → ℕ
  pub obj : ℕ → ℕ

-- the quotas of all that is linked in c, over the first m links
unfoldable pub linked : View → ℕ → ℕ → ℕ
linked v m c = Σ m (λ l. when (v.on l) (when (eqb (v.par l) c) (v.quota (v.obj l))))

-- what a container uses
unfoldable pub use_of_lem : View → ℕ → ℕ → ℕ
use_of_lem v m c = 1 + linked v m c

-- how many links an object has
unfoldable pub links : View → ℕ → ℕ → ℕ
links v m r = Σ m (λ l. when (v.on l) (when (eqb (v.obj l) r) 1))

-- what the quotas' argument needs of a book of n rows and m links
pub record Sound (v : View) (n m root : ℕ) : Type 0 where
  pub par_con : (l : ℕ) → l < m → v.on l ≡ true → (v.par l < n) × (v.con (v.par l) ≡ true)
  pub obj_live : (l : ℕ) → l < m → v.on l ≡ true → (v.obj l < n) × (v.live (v.obj l) ≡ true)
  pub con_live : (c : ℕ) → v.con c ≡ true → v.live c ≡ true
  pub root_in : root < n
  pub root_con : v.con root ≡ true
  pub root_none : links v m root ≡ 0
  pub one : (c : ℕ) → c < n → v.con c ≡ true → (c ≡ root → ⊥) → links v m c ≡ 1
  pub some : (r : ℕ) → r < n → v.live r ≡ true → v.con r ≡ false → 1 ≤ links v m r
  pub fits : (c : ℕ) → c < n → v.con c ≡ true → use_of_lem v m c ≤ v.quota c
  pub holds : (r : ℕ) → r < n → v.live r ≡ true → (1 ≤ v.hold r) × (v.hold r ≤ v.quota r)
  pub con_holds : (c : ℕ) → v.con c ≡ true → v.hold c ≡ 1

-- S is a part of the tree with the top d: containers, closed downwards, and each but d hangs by its one link on another in S
pub record Part (v : View) (n m : ℕ) (S : ℕ → Bool) (d : ℕ) : Type 0 where
  pub top_in : d < n
  pub top : S d ≡ true
  pub are_con : (c : ℕ) → S c ≡ true → v.con c ≡ true
  pub down : (l : ℕ) → l < m → v.on l ≡ true → S (v.par l) ≡ true → v.con (v.obj l) ≡ true → S (v.obj l) ≡ true
  pub up : (l : ℕ) → l < m → v.on l ≡ true → S (v.obj l) ≡ true → (v.obj l ≡ d → ⊥) → S (v.par l) ≡ true
  pub over : (l : ℕ) → l < m → v.on l ≡ true → v.obj l ≡ d → S (v.par l) ≡ true → ⊥
  pub hung : (c : ℕ) → c < n → S c ≡ true → (c ≡ d → ⊥) → links v m c ≡ 1

-- (a) the quota falls from a container to what is linked in it
module _ (v : View) (n m root : ℕ) (s : Sound v n m root) where
  pub quota_falls : (l : ℕ) → l < m → v.on l ≡ true → v.quota (v.obj l) < v.quota (v.par l)
  unfolding use_of_lem linked
  quota_falls l h e =
      let p = s.par_con l h e in
      let t = sum_term m (λ k. when (v.on k) (when (eqb (v.par k) (v.par l)) (v.quota (v.obj k)))) l h in
      let u = when_true (v.on l) (when (eqb (v.par l) (v.par l)) (v.quota (v.obj l))) e in
      let w = when_true (eqb (v.par l) (v.par l)) (v.quota (v.obj l)) (eq-eqb (v.par l) (v.par l) refl) in
      let f = s.fits (v.par l) p.0 p.1 in
      omega arith

-- a way down the links, k steps long
pub data Way (v : View) (m : ℕ) : ℕ → ℕ → ℕ → Type 0 where
  here : (c : ℕ) → Way v m zero c c
  step : {k c : ℕ} (l : ℕ) → l < m → v.on l ≡ true → Way v m k c (v.par l) → Way v m (suc k) c (v.obj l)

module _ (v : View) (n m root : ℕ) (s : Sound v n m root) where
  pub way_falls : {k c r : ℕ} → Way v m k c r → v.quota r + k ≤ v.quota c
  way_falls (here c) = omega arith
  way_falls (step l h e w) = omega (arith, way_falls w, quota_falls v n m root s l h e)

  pub no_cycle : (k c : ℕ) → Way v m (suc k) c c → ⊥
  no_cycle k c w = omega (arith, way_falls w)

-- ---- the telescope
-- what hangs in S and is a container; what hangs in S and is none
unfoldable pub inner : View → (ℕ → Bool) → (ℕ → ℕ) → ℕ → ℕ
inner v S g l = when (v.on l) (when (S (v.par l)) (when (v.con (v.obj l)) (g (v.obj l))))

unfoldable pub leaf : View → (ℕ → Bool) → ℕ → ℕ
leaf v S l = when (v.on l) (when (S (v.par l)) (when (not (v.con (v.obj l))) (v.quota (v.obj l))))

unfoldable pub spare_of_lem : View → ℕ → ℕ → ℕ
spare_of_lem v m c = v.quota c - use_of_lem v m c

module _ (v : View) (n m root : ℕ) (s : Sound v n m root) (S : ℕ → Bool) (d : ℕ) (p : Part v n m S d) (g : ℕ → ℕ) where
  -- each container's own quota, by way of the link that it hangs by
  at_row : ℕ → ℕ
  at_row c = when (eqb c d) (g c) + Σ m (λ l. when (eqb (v.obj l) c) (inner v S g l))

  -- S c is false: nothing in S leads there
  row_out : (c : ℕ) → S c ≡ false → when (S c) (g c) ≡ at_row c
  unfolding at_row inner
  row_out c e = omega (
    arith,
    when_false (S c) (g c) e,
    when_false (eqb c d) (g c) (ne_eqb c d (λ q. no_both (S c) (subst (λ (k : ℕ). S k ≡ true) (sym q) p.top) e)),
    sum_none m (λ l. when (eqb (v.obj l) c) (inner v S g l))
        (λ l h. when_none (eqb (v.obj l) c) (inner v S g l) (λ q. when_none (v.on l) _
        (λ on. when_none (S (v.par l)) _ (λ ins. when_none (v.con (v.obj l)) _ (λ isC.
        absurd (no_both (S c) (subst (λ (k : ℕ). S k ≡ true) (eqb-true (v.obj l) c q) (p.down l h on ins isC)) e)))))),
  )

  row_top : (c : ℕ) → c ≡ d → when (S c) (g c) ≡ at_row c
  unfolding at_row inner
  row_top c e = omega (
    arith,
    when_true (S c) (g c) (subst (λ (k : ℕ). S k ≡ true) (sym e) p.top),
    when_true (eqb c d) (g c) (eq-eqb c d e),
    sum_none m (λ l. when (eqb (v.obj l) c) (inner v S g l))
        (λ l h. when_none (eqb (v.obj l) c) (inner v S g l) (λ q. when_none (v.on l) _ (λ on. when_none (S (v.par l)) _ (λ ins. absurd (p.over l h on (eqb-true (v.obj l) c q ∙ e) ins))))),
  )

  row_in : (c : ℕ) → c < n → S c ≡ true → (c ≡ d → ⊥) → when (S c) (g c) ≡ at_row c
  unfolding at_row inner links
  row_in c lt e ne = omega (arith, when_true (S c) (g c) e, when_false (eqb c d) (g c) (ne_eqb c d ne), all)
    where
      each : (l : ℕ) → l < m → when (eqb (v.obj l) c) (inner v S g l) ≡ when (v.on l) (when (eqb (v.obj l) c) (g c))
      each l h =
          when_cong (eqb (v.obj l) c) _ _ (λ q.
          let oc : v.obj l ≡ c = eqb-true (v.obj l) c q in
          when_cong (v.on l) _ _ (λ on.
          let so : S (v.obj l) ≡ true = subst (λ (k : ℕ). S k ≡ true) (sym oc) e in
          let sp : S (v.par l) ≡ true = p.up l h on so (λ od. ne (sym oc ∙ od)) in
          when_true (S (v.par l)) _ sp ∙ when_true (v.con (v.obj l)) _ (p.are_con (v.obj l) so) ∙ ap g oc))
          ∙ when_swap (eqb (v.obj l) c) (v.on l) (g c)

      ones : Σ m (λ l. when (v.on l) (when (eqb (v.obj l) c) (g c))) ≡ g c
      ones =
          let k = sum_const2 m v.on (λ l. eqb (v.obj l) c) (g c) in
          let one : Σ m (λ l. when (v.on l) (when (eqb (v.obj l) c) 1)) ≡ 1 = p.hung c lt e ne in
          k ∙ ap (λ (x : ℕ). x * g c) one ∙ omega arith

      all : Σ m (λ l. when (eqb (v.obj l) c) (inner v S g l)) ≡ g c
      all = sum_cong m _ _ each ∙ ones

  row : (c : ℕ) → c < n → when (S c) (g c) ≡ at_row c
  row c lt = go (S c) refl (eqb c d) refl
    where
      go : (b : Bool) → S c ≡ b → (t : Bool) → eqb c d ≡ t → when (S c) (g c) ≡ at_row c
      go false e t q = row_out c e
      go true e true q = row_top c (eqb-true c d q)
      go true e false q = row_in c lt e (eqb-false c d q)

  -- the quotas of S are that of its top and those of the containers that hang in S
  pub by_links : Σ n (λ c. when (S c) (g c)) ≡ g d + Σ m (inner v S g)
  unfolding at_row inner
  by_links =
      sum_cong n _ at_row row
      ∙ sum_add n (λ c. when (eqb c d) (g c)) (λ c. Σ m (λ l. when (eqb (v.obj l) c) (inner v S g l)))
      ∙ omega (
        arith,
        sum_point n g d p.top_in,
        sum_swap n m (λ c l. when (eqb (v.obj l) c) (inner v S g l)),
        sum_cong m
            (λ l. Σ n (λ c. when (eqb (v.obj l) c) (inner v S g l))) (inner v S g) each,
      )
    where
      each : (l : ℕ) → l < m → Σ n (λ c. when (eqb (v.obj l) c) (inner v S g l)) ≡ inner v S g l
      each l h = by_on (v.on l) refl
        where
          by_on : (b : Bool) → v.on l ≡ b → Σ n (λ c. when (eqb (v.obj l) c) (inner v S g l)) ≡ inner v S g l
          by_on true e = sum_pick n (v.obj l) (inner v S g l) (s.obj_live l h e).0
          by_on false e =
              let z : inner v S g l ≡ 0 = when_false (v.on l) _ e in
              sum_none n (λ c. when (eqb (v.obj l) c) (inner v S g l)) (λ c k. when_none (eqb (v.obj l) c) (inner v S g l) (λ q. z)) ∙ sym z

module _ (v : View) (n m root : ℕ) (s : Sound v n m root) (S : ℕ → Bool) (d : ℕ) (p : Part v n m S d) where
  -- what hangs in S, counted link by link
  hangs : ℕ → ℕ
  hangs l = when (v.on l) (when (S (v.par l)) (v.quota (v.obj l)))

  hangs_split : (l : ℕ) → hangs l ≡ inner v S v.quota l + leaf v S l
  unfolding hangs inner leaf
  hangs_split l =
      ap (λ (x : ℕ). when (v.on l) (when (S (v.par l)) x)) (when_split (v.con (v.obj l)) (v.quota (v.obj l)))
      ∙ ap (λ (x : ℕ). when (v.on l) x) (when_add (S (v.par l)) _ _)
      ∙ when_add (v.on l) _ _

  -- the uses of S, by links
  kept_by_links : Σ n (λ c. when (S c) (linked v m c)) ≡ Σ m hangs
  unfolding linked hangs
  kept_by_links =
      sum_cong n _ (λ c. Σ m (λ l. when (S c) (when (v.on l) (when (eqb (v.par l) c) (v.quota (v.obj l))))))
      (λ c k. sym (sum_when m (S c) (λ l. when (v.on l) (when (eqb (v.par l) c) (v.quota (v.obj l))))))
      ∙ sum_swap n m (λ c l. when (S c) (when (v.on l) (when (eqb (v.par l) c) (v.quota (v.obj l)))))
      ∙ sum_cong m (λ l. Σ n (λ c. when (S c) (when (v.on l) (when (eqb (v.par l) c) (v.quota (v.obj l)))))) hangs each
    where
      turn : (c l : ℕ) → when (S c) (when (v.on l) (when (eqb (v.par l) c) (v.quota (v.obj l)))) ≡ when (eqb (v.par l) c) (when (v.on l) (when (S (v.par l)) (v.quota (v.obj l))))
      turn c l =
          when_swap (S c) (v.on l) _
          ∙ ap (λ (x : ℕ). when (v.on l) x) (when_swap (S c) (eqb (v.par l) c) (v.quota (v.obj l)))
          ∙ when_swap (v.on l) (eqb (v.par l) c) _
          ∙ when_cong (eqb (v.par l) c) _ _ (λ q. ap (λ (k : ℕ). when (v.on l) (when (S k) (v.quota (v.obj l)))) (sym (eqb-true (v.par l) c q)))

      each : (l : ℕ) → l < m → Σ n (λ c. when (S c) (when (v.on l) (when (eqb (v.par l) c) (v.quota (v.obj l))))) ≡ hangs l
      each l h = sum_cong n _ (λ c. when (eqb (v.par l) c) (hangs l)) (λ c k. turn c l) ∙ by_on (v.on l) refl
        where
          by_on : (b : Bool) → v.on l ≡ b → Σ n (λ c. when (eqb (v.par l) c) (hangs l)) ≡ hangs l
          by_on true e = sum_pick n (v.par l) (hangs l) (s.par_con l h e).0
          by_on false e =
              let z : hangs l ≡ 0 = when_false (v.on l) _ e in
              sum_none n (λ c. when (eqb (v.par l) c) (hangs l)) (λ c k. when_none (eqb (v.par l) c) (hangs l) (λ q. z)) ∙ sym z

  row_spare : (c : ℕ) → c < n → when (S c) (v.quota c) ≡ when (S c) 1 + (when (S c) (linked v m c) + when (S c) (spare_of_lem v m c))
  unfolding spare_of_lem use_of_lem
  row_spare c k =
      when_cong (S c) _ _ (λ e.
      let f : 1 + linked v m c ≤ v.quota c = s.fits c k (p.are_con c e) in
      let g : v.quota c ≡ 1 + (linked v m c + (v.quota c - (1 + linked v m c))) = omega arith in
      g)
      ∙ when_add (S c) 1 _ ∙ ap (λ (x : ℕ). when (S c) 1 + x) (when_add (S c) _ _)

  -- (b), (c): the quota of the top is one for each container, what hangs in S and is no container, link by link, and the spare
  pub telescope : v.quota d ≡ Σ n (λ c. when (S c) 1) + Σ m (leaf v S) + Σ n (λ c. when (S c) (spare_of_lem v m c))
  telescope =
      omega (
        arith,
        by_links v n m root s S d p v.quota,
        sum_cong n _ _ row_spare,
        sum_add n (λ c. when (S c) 1) (λ c. when (S c) (linked v m c) + when (S c) (spare_of_lem v m c)),
        sum_add n (λ c. when (S c) (linked v m c)) (λ c. when (S c) (spare_of_lem v m c)),
        kept_by_links,
        sum_cong m hangs _ (λ l h. hangs_split l),
        sum_add m (inner v S v.quota) (leaf v S),
      )

-- ---- each object once
-- T is what lies in the tree of S: containers of S, and what a link in S leads to
pub record Within (v : View) (n m : ℕ) (S T : ℕ → Bool) : Type 0 where
  pub con_in : (r : ℕ) → T r ≡ true → v.con r ≡ true → S r ≡ true
  pub by_link : (r : ℕ) → r < n → T r ≡ true → v.con r ≡ false → (l : ℕ) × (l < m) × (v.on l ≡ true) × (S (v.par l) ≡ true) × (v.obj l ≡ r)

module _ (v : View) (n m root : ℕ) (s : Sound v n m root) (S : ℕ → Bool) (d : ℕ) (p : Part v n m S d)
    (T : ℕ → Bool) (w : Within v n m S T) (h : ℕ → ℕ)
    (con_one : (r : ℕ) → v.con r ≡ true → h r ≤ 1)
    (leaf_less : (r : ℕ) → r < n → v.live r ≡ true → v.con r ≡ false → h r ≤ v.quota r) where
  once_row : (r : ℕ) → r < n → when (T r) (h r) ≤ when (S r) 1 + Σ m (λ l. when (eqb (v.obj l) r) (leaf v S l))
  unfolding leaf
  once_row r k = when_le (T r) (h r) _ (λ t. go t (v.con r) refl)
    where
      go : T r ≡ true → (b : Bool) → v.con r ≡ b → h r ≤ when (S r) 1 + Σ m (λ l. when (eqb (v.obj l) r) (leaf v S l))
      go t true e = omega (arith, con_one r e, when_true (S r) 1 (w.con_in r t e))
      go t false e =
          let (l, lm, on, sp, ob) = w.by_link r k t e in
          let nc : not (v.con (v.obj l)) ≡ true = ap not (ap v.con ob ∙ e) in
          let q : v.quota (v.obj l) ≡ v.quota r = ap v.quota ob in
          omega (
            arith,
            leaf_less r k (subst (λ (i : ℕ). v.live i ≡ true) ob (s.obj_live l lm on).1) e,
            sum_term m (λ l. when (eqb (v.obj l) r) (leaf v S l)) l lm,
            when_true (eqb (v.obj l) r) (leaf v S l) (eq-eqb (v.obj l) r ob),
            when_true (v.on l) (when (S (v.par l)) (when (not (v.con (v.obj l))) (v.quota (v.obj l)))) on,
            when_true (S (v.par l)) (when (not (v.con (v.obj l))) (v.quota (v.obj l))) sp,
            when_true (not (v.con (v.obj l))) (v.quota (v.obj l)) nc,
          )

  once_links : Σ n (λ r. Σ m (λ l. when (eqb (v.obj l) r) (leaf v S l))) ≡ Σ m (leaf v S)
  unfolding leaf
  once_links =
      sum_swap n m (λ r l. when (eqb (v.obj l) r) (leaf v S l))
      ∙ sum_cong m (λ l. Σ n (λ r. when (eqb (v.obj l) r) (leaf v S l))) (leaf v S) each
    where
      each : (l : ℕ) → l < m → Σ n (λ c. when (eqb (v.obj l) c) (leaf v S l)) ≡ leaf v S l
      each l k = by_on (v.on l) refl
        where
          by_on : (b : Bool) → v.on l ≡ b → Σ n (λ c. when (eqb (v.obj l) c) (leaf v S l)) ≡ leaf v S l
          by_on true e = sum_pick n (v.obj l) (leaf v S l) (s.obj_live l k e).0
          by_on false e =
              let z : leaf v S l ≡ 0 = when_false (v.on l) _ e in
              sum_none n (λ c. when (eqb (v.obj l) c) (leaf v S l)) (λ c i. when_none (eqb (v.obj l) c) (leaf v S l) (λ q. z)) ∙ sym z

  -- (c) what the tree holds, each object once, and the spare of each of its containers, are no more than its top's quota
  pub held_within : Σ n (λ r. when (T r) (h r)) + Σ n (λ c. when (S c) (spare_of_lem v m c)) ≤ v.quota d
  held_within =
      omega (
        arith,
        telescope v n m root s S d p,
        sum_mono n _ _ once_row,
        once_links,
        sum_add n (λ r. when (S r) 1) (λ r. Σ m (λ l. when (eqb (v.obj l) r) (leaf v S l))),
      )
