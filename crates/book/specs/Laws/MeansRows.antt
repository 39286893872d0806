-- What the tests of rows say: ranges, ids, labels, links and quotas.
use Rattle.std.specs.Prelude.{ℕ, ◌+◌, ◌<◌, ◌≤◌, Bool, cond, ◌&&◌, ◌≡◌, refl, eqb, ltb, leb}
use Rattle.std.proofs.Common.{eq-or-lt_of_le, arith, ⊎_elim, sym}
use Rattle.std.proofs.Math.Bool.{true, false, not}
use borrow.Author.Tests.{eq-eqb, ne_eqb, eqb-true, eqb-false, lt-ltb, ltb-true, le-leb, leb-true, leb-false}
use Rattle.labels.specs.Core.{well_formed, flows}
use Rattle.quotas.specs.Any.{both_parts, both_of, no_both}
use Rattle.rules.specs.Kernel.{gate_code, segment_code, container_code, max_code, root_quota, max_mask, max_length, units}
use Rattle.tables.specs.Layout.{View, row_count}
use Rattle.book.specs.Book.{next_of, root_of, id_of, code_of, quota_of, len_of, fixed_of, mask_of, label_of, clearance_of, live_row, has_id, ThreadOrGate, is_thread_or_gate}
use Rattle.book.specs.Sound.{Live, Range}
use Rattle.book.specs.Test.{range_n, range_b, new_b, id_b, clear_b, label_b, row_b, tied_n, fits_n, tie_b}
use Rattle.book.specs.Laws.Tests.{no_true, and_l, and_r, unless, unless_by, only, only_by, not_by, not_of, every_of, every_by}

-- ---- ranges

-- beyond 2 and at most 4, and not 3
last : (x : ℕ) → gate_code < x → x ≤ max_code → (x ≡ segment_code → ⊥) → x ≡ container_code
last x lo hi ne = ⊎_elim (λ q. absurd (ne (sym q))) (λ l. omega arith) (eq-or-lt_of_le {n = segment_code} {m = x} lo)

range_of : (code q n fixed mask : ℕ) → range_n code q n fixed mask ≡ true → Range code q n fixed mask
unfolding range_n
range_of code q n fixed mask h = go (is_thread_or_gate code) refl h
  where
    large : gate_code < code → 1 ≤ q → q ≤ root_quota → (b : Bool) → eqb code segment_code ≡ b → cond b (leb n max_length && leb fixed 1) (eqb code container_code && leb mask max_mask)
        ≡ true → Range code q n fixed mask
    large g lo hi true e x =
        let k = eqb-true code segment_code e in
        record {
          code_most = omega arith;
          quota_some = lo;
          quota_most = hi;
          quota_one = λ z. absurd (omega arith);
          length_most = λ z. leb-true n max_length
              (and_l (leb n max_length) _ x);
          fixed_most = λ z. leb-true fixed 1 (and_r (leb n max_length) _ x);
          mask_most = λ z. absurd (omega arith);
        }
    large g lo hi false e x =
        let k = eqb-true code container_code (and_l (eqb code container_code) _ x) in
        record {
          code_most = omega arith;
          quota_some = lo;
          quota_most = hi;
          quota_one = λ z. absurd (omega arith);
          length_most = λ z. absurd (omega arith);
          fixed_most = λ z. absurd
              (omega arith);
          mask_most = λ z. leb-true mask max_mask (and_r (eqb code container_code) _ x);
        }

    go : (b : Bool) → is_thread_or_gate code ≡ b → cond b (eqb q 1)
        (leb 1 q && (leb q root_quota && (cond (eqb code segment_code) (leb n max_length && leb fixed 1) (eqb code container_code && leb mask max_mask)))) ≡ true → Range code q n fixed mask
    go true e x =
        let k = leb-true code gate_code e in
        let u = eqb-true q 1 x in
        record {
          code_most = omega arith;
          quota_some = omega arith;
          quota_most = omega arith;
          quota_one = λ z. u;
          length_most = λ z. absurd (omega arith);
          fixed_most = λ z. absurd
              (omega arith);
          mask_most = λ z. absurd (omega arith);
        }
    go false e x =
        let y = and_r (leb 1 q) _ x in
        large (leb-false code gate_code e) (leb-true 1 q (and_l (leb 1 q) _ x)) (leb-true q root_quota (and_l (leb q root_quota) _ y)) (eqb code segment_code) refl (and_r (leb q root_quota) _ y)

range_by : (code q n fixed mask : ℕ) → Range code q n fixed mask → range_n code q n fixed mask ≡ true
unfolding range_n
range_by code q n fixed mask s = go (is_thread_or_gate code) refl
  where
    large : gate_code < code → (b : Bool) → eqb code segment_code ≡ b → cond b (leb n max_length && leb fixed 1) (eqb code container_code && leb mask max_mask) ≡ true
    large g true e = rw (le-leb n max_length (s.length_most (eqb-true code segment_code e)), le-leb fixed 1 (s.fixed_most (eqb-true code segment_code e)))
    large g false e = let k = last code g s.code_most (eqb-false code segment_code e) in rw (eq-eqb code container_code k, le-leb mask max_mask (s.mask_most k))

    go : (b : Bool) → is_thread_or_gate code ≡ b → cond b (eqb q 1)
        (leb 1 q && (leb q root_quota && (cond (eqb code segment_code) (leb n max_length && leb fixed 1) (eqb code container_code && leb mask max_mask)))) ≡ true
    go true e = eq-eqb q 1 (s.quota_one (leb-true code gate_code e))
    go false e = rw (le-leb 1 q s.quota_some, le-leb q root_quota s.quota_most) (large (leb-false code gate_code e) (eqb code segment_code) refl)

-- ---- links and quotas of a row

-- what tied_n says: of the root, and of every other object
pub record Tied (isRoot : Bool) (code fixed q n : ℕ) : Type 0 where
  pub root_container : isRoot ≡ true → code ≡ container_code
  pub root_quota_lem : isRoot ≡ true → q ≡ root_quota
  pub root_none : isRoot ≡ true → n ≡ 0
  pub some : isRoot ≡ false → 1 ≤ n
  pub most : ((code ≡ segment_code) × (fixed ≡ 1) → ⊥) → n ≤ 1

tied_of : (isRoot : Bool) (code fixed q n : ℕ) → tied_n isRoot code fixed q n ≡ true → Tied isRoot code fixed q n
unfolding tied_n
tied_of true code fixed q n h =
    let h1 = and_r (eqb code container_code) _ h in
    let z = eqb-true n 0 (and_r (eqb q root_quota) _ h1) in
    record {
      root_container = λ e. eqb-true code container_code (and_l (eqb code container_code) _ h);
      root_quota_lem = λ e. eqb-true q root_quota (and_l (eqb q root_quota) _ h1);
      root_none = λ e. z;
      some = λ e. absurd (no_true (sym e));
      most = λ e. omega arith;
    }
tied_of false code fixed q n h = go (eqb code segment_code && eqb fixed 1) refl h
  where
    go : (b : Bool) → (eqb code segment_code && eqb fixed 1) ≡ b → cond b (leb 1 n) (eqb n 1) ≡ true → Tied false code fixed q n
    go true e x =
        record {
          root_container = λ y. absurd (no_true y);
          root_quota_lem = λ y. absurd (no_true y);
          root_none = λ y. absurd (no_true y);
          some = λ y. leb-true 1 n x;
          most = λ y. absurd (y (eqb-true code segment_code (and_l (eqb code segment_code) _ e), eqb-true fixed 1 (and_r (eqb code segment_code) _ e)));
        }
    go false e x =
        let z = eqb-true n 1 x in
        record {
          root_container = λ y. absurd (no_true y);
          root_quota_lem = λ y. absurd (no_true y);
          root_none = λ y. absurd (no_true y);
          some = λ y. omega arith;
          most = λ y. omega arith;
        }

tied_by : (isRoot : Bool) (code fixed q n : ℕ) → Tied isRoot code fixed q n → tied_n isRoot code fixed q n ≡ true
unfolding tied_n
tied_by true code fixed q n s = rw (eq-eqb code container_code (s.root_container refl), eq-eqb q root_quota (s.root_quota_lem refl), eq-eqb n 0 (s.root_none refl))
tied_by false code fixed q n s = go (eqb code segment_code && eqb fixed 1) refl
  where
    go : (b : Bool) → (eqb code segment_code && eqb fixed 1) ≡ b → cond b (leb 1 n) (eqb n 1) ≡ true
    go true e = le-leb 1 n (s.some refl)
    go false e =
        let m = s.most (λ p. no_both (eqb code segment_code && eqb fixed 1) (rw (eq-eqb code segment_code p.0) (eq-eqb fixed 1 p.1)) e) in
        let l = s.some refl in
        eq-eqb n 1 (omega arith)

-- what fits_n says: a container's use, a segment's
pub record Fits (code q n u : ℕ) : Type 0 where
  pub container : code ≡ container_code → 1 + u ≤ q
  pub segment : code ≡ segment_code → units n ≤ q

fits_of : (code q n u : ℕ) → fits_n code q n u ≡ true → Fits code q n u
unfolding fits_n
fits_of code q n u h = go (eqb code container_code) refl h
  where
    go : (b : Bool) → eqb code container_code ≡ b → cond b (leb (1 + u) q) (cond (eqb code segment_code) (leb (units n) q) true) ≡ true → Fits code q n u
    go true e x = let k = eqb-true code container_code e in record { container = λ y. leb-true (1 + u) q x; segment = λ y. absurd (omega arith) }
    go false e x =
        record { container = λ y. absurd (eqb-false code container_code e y); segment = λ y. leb-true (units n) q (only (eqb code segment_code) (leb (units n) q) x (eq-eqb code segment_code y)) }

fits_by : (code q n u : ℕ) → Fits code q n u → fits_n code q n u ≡ true
unfolding fits_n
fits_by code q n u s = go (eqb code container_code) refl
  where
    go : (b : Bool) → eqb code container_code ≡ b → cond b (leb (1 + u) q) (cond (eqb code segment_code) (leb (units n) q) true) ≡ true
    go true e = le-leb (1 + u) q (s.container (eqb-true code container_code e))
    go false e = only_by (eqb code segment_code) (leb (units n) q) (λ t. le-leb (units n) q (s.segment (eqb-true code segment_code t)))

-- How a row is linked: its test holds exactly if, where it is live, it is tied and fits.
pub tie_of : (v : View) (r n u : ℕ) → Live v r → tie_b v r n u ≡ true
    → Tied (eqb (id_of v r) (root_of v)) (code_of v r) (fixed_of v r) (quota_of v r) n × Fits (code_of v r) (quota_of v r) (len_of v r) u
unfolding tie_b
tie_of v r n u live h =
    let T = tied_n (eqb (id_of v r) (root_of v)) (code_of v r) (fixed_of v r) (quota_of v r) n in
    let F = fits_n (code_of v r) (quota_of v r) (len_of v r) u in
    let x = unless (eqb (code_of v r) 0) (T && F) h (ne_eqb (code_of v r) 0 live.used) in
    (tied_of (eqb (id_of v r) (root_of v)) (code_of v r) (fixed_of v r) (quota_of v r) n (and_l T F x), fits_of (code_of v r) (quota_of v r) (len_of v r) u (and_r T F x))

pub tie_by : (v : View) (r n u : ℕ) → r < row_count → (Live v r → Tied (eqb (id_of v r) (root_of v)) (code_of v r) (fixed_of v r) (quota_of v r) n × Fits (code_of v r) (quota_of v r)
    (len_of v r) u) → tie_b v r n u ≡ true
unfolding tie_b
tie_by v r n u low f =
    unless_by (eqb (code_of v r) 0) _ (λ e.
    let s = f (record { low = low; used = eqb-false (code_of v r) 0 e }) in
    rw (tied_by (eqb (id_of v r) (root_of v)) (code_of v r) (fixed_of v r) (quota_of v r) n s.0) (fits_by (code_of v r) (quota_of v r) (len_of v r) u s.1))

-- ---- a row alone

-- what row_b says of a live row
pub record Row (v : View) (r : ℕ) : Type 0 where
  pub range : Range (code_of v r) (quota_of v r) (len_of v r) (fixed_of v r) (mask_of v r)
  pub id_from : 1 ≤ id_of v r
  pub id_below : id_of v r < next_of v
  pub id_new : (s : ℕ) → Live v s → s < r → id_of v r ≡ id_of v s → ⊥
  pub label : well_formed (next_of v) (is_thread_or_gate (code_of v r)) (label_of v r) ≡ true
  pub clearance : ThreadOrGate (code_of v r) → well_formed (next_of v) false (clearance_of v r) ≡ true
  pub flow : ThreadOrGate (code_of v r) → flows (label_of v r) (clearance_of v r) ≡ true

module _ (v : View) where
  -- a live row with the id o, as a test
  pub id_here : (o r : ℕ) → Live v r → id_of v r ≡ o → has_id v o r ≡ true
  id_here o r live e = both_of (live_row v r) (eqb (id_of v r) o) (not_by (eqb (code_of v r) 0) (λ t. live.used (eqb-true (code_of v r) 0 t))) (eq-eqb (id_of v r) o e)

  pub id_is : (o r : ℕ) → r < row_count → has_id v o r ≡ true → Live v r × (id_of v r ≡ o)
  id_is o r low h =
      let p = both_parts (live_row v r) (eqb (id_of v r) o) h in
      (record { low = low; used = λ e. not_of (eqb (code_of v r) 0) p.0 (eq-eqb (code_of v r) 0 e) }, eqb-true (id_of v r) o p.1)

  new_of : (r : ℕ) → new_b v r ≡ true → (s : ℕ) → Live v s → s < r → id_of v r ≡ id_of v s → ⊥
  unfolding new_b
  new_of r h s live l e = not_of (has_id v (id_of v r) s) (every_of r (λ s. not (has_id v (id_of v r) s)) h s l) (id_here (id_of v r) s live (sym e))

  new_by : (r : ℕ) → r < row_count → ((s : ℕ) → Live v s → s < r → id_of v r ≡ id_of v s → ⊥) → new_b v r ≡ true
  unfolding new_b
  new_by r low f =
      every_by r (λ s. not (has_id v (id_of v r) s)) (λ s l. not_by (has_id v (id_of v r) s) (λ t.
      let p = id_is (id_of v r) s (omega arith) t in
      f s p.0 l (sym p.1)))

  pub row_of : (r : ℕ) → Live v r → row_b v r ≡ true → Row v r
  unfolding row_b range_b id_b label_b clear_b
  row_of r live h =
      let W = well_formed (next_of v) (is_thread_or_gate (code_of v r)) (label_of v r) in
      let C = well_formed (next_of v) false (clearance_of v r) in
      let h0 = unless (eqb (code_of v r) 0) (range_b v r && (id_b v r && label_b v r)) h (ne_eqb (code_of v r) 0 live.used) in
      let h1 = and_r (range_b v r) _ h0 in
      let i = and_l (id_b v r) (label_b v r) h1 in
      let i1 = and_r (leb 1 (id_of v r)) _ i in
      let w = and_r (id_b v r) (label_b v r) h1 in
      let c : ThreadOrGate (code_of v r) → (C && flows (label_of v r) (clearance_of v r)) ≡ true = λ small. only (is_thread_or_gate (code_of v r)) (clear_b v r) (and_r W _ w)
      (le-leb (code_of v r) gate_code small) in
      record {
        range = range_of _ _ _ _ _ (and_l (range_b v r) _ h0);
        id_from = leb-true 1 (id_of v r) (and_l (leb 1 (id_of v r)) _ i);
        id_below = ltb-true (id_of v r) (next_of v) (and_l (ltb (id_of v r) (next_of v)) _ i1);
        id_new = new_of r (and_r (ltb (id_of v r) (next_of v)) _ i1);
        label = and_l W _ w;
        clearance = λ small. and_l C _ (c small);
        flow = λ small. and_r C _ (c small);
      }

  pub row_by : (r : ℕ) → r < row_count → (Live v r → Row v r) → row_b v r ≡ true
  unfolding row_b range_b id_b label_b clear_b
  row_by r low f =
      unless_by (eqb (code_of v r) 0) _ (λ e.
      let s = f (record { low = low; used = eqb-false (code_of v r) 0 e }) in
      rw (range_by _ _ _ _ _ s.range, le-leb 1 (id_of v r) s.id_from, lt-ltb (id_of v r) (next_of v) s.id_below, new_by r low s.id_new, s.label)
      (only_by (is_thread_or_gate (code_of v r)) _ (λ t. let small = leb-true (code_of v r) gate_code t in rw (s.clearance small) (s.flow small))))
