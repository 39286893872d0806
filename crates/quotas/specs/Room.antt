-- Room is never wanting elsewhere: where a container has spare, a row and a link are free.
use Rattle.std.specs.Prelude.{◌≡◌, refl, Bool, ℕ, ◌+◌, ◌<◌, ◌≤◌, eqb}
use Rattle.std.proofs.Common.{ap}
use Rattle.std.proofs.Math.Bool.{true, false, not}
use native.Mathlib.Omega.{arith}
use borrow.Author.Tests.{eqb-true, eq-eqb}
use Rattle.quotas.specs.Sum.{Σ, when, sum_mono, sum_add, sum_term, when_true, when_le, free_one, sum_pos, when_pos}
use Rattle.quotas.specs.Tree.{View, Sound, Part, Within, links, inner, leaf, spare_of_lem, telescope, by_links, held_within}

module _ (v : View) (n m root : ℕ) (s : Sound v n m root) where
  -- a link to r is one of r's links
  pub counted : (l r : ℕ) → l < m → v.on l ≡ true → v.obj l ≡ r → 1 ≤ links v m r
  unfolding links
  counted l r h on e =
      omega (
        arith,
        sum_term m (λ k. when (v.on k) (when (eqb (v.obj k) r) 1)) l h,
        when_true (v.on l) (when (eqb (v.obj l) r) 1) on,
        when_true (eqb (v.obj l) r) 1 (eq-eqb (v.obj l) r e),
      )

  -- an object with a link has one to show
  pub link_of : (r : ℕ) → 1 ≤ links v m r → (l : ℕ) × (l < m) × (v.on l ≡ true) × (v.obj l ≡ r)
  unfolding links
  link_of r h =
      let (l, k, q) = sum_pos m (λ l. when (v.on l) (when (eqb (v.obj l) r) 1)) h in
      let (on, q₂) = when_pos (v.on l) (when (eqb (v.obj l) r) 1) q in
      let (e, q₃) = when_pos (eqb (v.obj l) r) 1 q₂ in
      (l, k, on, eqb-true (v.obj l) r e)

  -- the whole tree is such a part
  pub whole : Part v n m v.con root
  whole = record {
    top_in = s.root_in;
    top = s.root_con;
    are_con = λ c e. e;
    down = λ l h on sp isC. isC;
    up = λ l h on so ne. (s.par_con l h on).1;
    over = λ l h on e sp. let a : links v m root ≡ 0 = s.root_none in omega (arith, counted l root h on e);
    hung = λ c k e ne. s.one c k e ne;
  }

  pub all_live : Within v n m v.con v.live
  all_live = record {
    con_in = λ r t e. e;
    by_link = λ r k t e.
        let (l, lm, on, ob) = link_of r (s.some r k t e) in
        (l, lm, on, (s.par_con l lm on).1, ob);
  }

  -- what all live rows hold, or any h that no row's quota forbids, and one container's spare, are within the root's quota
  module _ (h : ℕ → ℕ) (con_one : (r : ℕ) → v.con r ≡ true → h r ≤ 1) (leaf_less : (r : ℕ) → r < n → v.live r ≡ true → v.con r ≡ false → h r ≤ v.quota r) where
    pub all_held : (c : ℕ) → c < n → v.con c ≡ true → Σ n (λ r. when (v.live r) (h r)) + spare_of_lem v m c ≤ v.quota root
    all_held c k e =
        omega (
          arith,
          held_within v n m root s v.con root whole v.live all_live h con_one leaf_less,
          sum_term n (λ c. when (v.con c) (spare_of_lem v m c)) c k,
          when_true (v.con c) (spare_of_lem v m c) e,
        )

  -- (b) a row is free, where there are as many as the root has units
  pub row_free : v.quota root ≤ n → (c : ℕ) → c < n → v.con c ≡ true → 1 ≤ spare_of_lem v m c → (r : ℕ) × (r < n) × (v.live r ≡ false)
  row_free all c k e sp =
      free_one n v.live (omega (arith, all_held (λ r. 1) (λ r t. omega arith) (λ r lt t nc. omega (arith, s.holds r lt t)) c k e))

  -- each live link leads to a container or to a leaf
  link_split : (l : ℕ) → l < m → when (v.on l) 1 ≤ inner v v.con (λ c. 1) l + leaf v v.con l
  unfolding inner leaf
  link_split l h = when_le (v.on l) 1 _ (λ on. go on (v.con (v.obj l)) refl)
    where
      go : v.on l ≡ true → (b : Bool) → v.con (v.obj l) ≡ b → 1 ≤ inner v v.con (λ c. 1) l + leaf v v.con l
      go on true e =
          omega (
            arith,
            when_true (v.on l) (when (v.con (v.par l)) (when (v.con (v.obj l)) 1)) on,
            when_true (v.con (v.par l)) (when (v.con (v.obj l)) 1) (s.par_con l h on).1,
            when_true (v.con (v.obj l)) 1 e,
          )
      go on false e =
          let o = s.obj_live l h on in
          omega (
            arith,
            when_true (v.on l) (when (v.con (v.par l)) (when (not (v.con (v.obj l))) (v.quota (v.obj l)))) on,
            when_true (v.con (v.par l)) (when (not (v.con (v.obj l))) (v.quota (v.obj l))) (s.par_con l h on).1,
            when_true (not (v.con (v.obj l))) (v.quota (v.obj l)) (ap not e),
            s.holds (v.obj l) o.0 o.1,
          )

  -- live links, the root's row and one container's spare are within the root's quota
  pub links_held : (c : ℕ) → c < n → v.con c ≡ true → 1 + Σ m (λ l. when (v.on l) 1) + spare_of_lem v m c ≤ v.quota root
  links_held c k e =
      omega (
        arith,
        sum_mono m _ _ link_split,
        sum_add m (inner v v.con (λ c. 1)) (leaf v v.con),
        by_links v n m root s v.con root whole (λ c. 1),
        telescope v n m root s v.con root whole,
        sum_term n (λ c. when (v.con c) (spare_of_lem v m c)) c k,
        when_true (v.con c) (spare_of_lem v m c) e,
      )

  -- (b) a link is free: one less of them is enough
  pub link_free : v.quota root ≤ 1 + m → (c : ℕ) → c < n → v.con c ≡ true → 1 ≤ spare_of_lem v m c → (l : ℕ) × (l < m) × (v.on l ≡ false)
  link_free all c k e sp = free_one m v.on (omega (arith, links_held c k e))
