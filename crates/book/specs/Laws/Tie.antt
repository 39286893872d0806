-- Rows, links and the world they spell: which row an object stands at, which links a pair is linked by, and that sums over links are sums over ids.
use Prim.Native.Nat.{ℕ, zero, suc, ◌+◌, ◌-◌, ◌<◌, ◌≤◌}
use Rattle.std.proofs.Common.{not-suc-le-zero, eq-or-lt_of_le, le_of_suc-le-suc, ⊎_elim, ◌∙◌, subst}
use Rattle.std.proofs.Math.Decide.{ℕ_discrete}
use native.Mathlib.Omega.{arith}
use Rattle.std.specs.Prelude.{Bool, true, false, not, ◌≡◌, List, [], length, eqb, ltb, Some, None}
use Rattle.std.proofs.Math.Path.{refl, sym, ap, ap₂}
use borrow.Author.Tests.{eqb-true, eqb-false, eq-eqb, ne_eqb, not-true, ltb-true, ltb-false, le-leb}
use Rattle.quotas.specs.Any.{no_both, any, any_found, any_of, both, both_of, both_parts, any_cong}
use Rattle.quotas.specs.Sum.{Σ, when, sum_cong, sum_swap, sum_only, sum_none, sum_term, sum_pos, when_true, when_false, when_cong, when_none, when_le, when_pos}
use Rattle.rules.specs.Kernel.{thread_code, gate_code, segment_code, container_code, max_code, is_live, is_thread, is_gate}
use Rattle.rules.specs.Kernel.{is_segment, is_container, has_clearance, Obj, nothing, charged, use_of, spare_of, units}
use Rattle.rules.proofs.Laws.Bools.{bool_cases, not_i, not_both, same_by}
use Rattle.rules.proofs.Laws.Kinds.{nothing_dead}
use Rattle.rules.proofs.Laws.Usage.{use_container, use_segment, use_cleared}
use Rattle.tables.specs.Layout.{View, row_count, link_count}
use Rattle.book.specs.Book.{next_of, root_of, id_of, code_of, mask_of, fixed_of, quota_of, len_of, entry_of, label_of, clearance_of, description_of, closure_of, mark_of, from_of, to_of}
use Rattle.book.specs.Book.{live_row, live_link, kind_from, bytes_of, object_at, has_id, row_of, is_link, world_of, ThreadOrGate, is_thread_or_gate}
use Rattle.book.specs.Sound.{Live, On, links_to, charged_to}
use Rattle.book.specs.Placed.{Placed}
use Rattle.book.specs.Laws.First.{first_only, first_low, first_hit, first_none, first_nothing, found_cases, on_at, on_nothing, collect_length}
use Rattle.book.specs.Laws.Codes.{live_from, thread_from, gate_from, segment_from, container_from, cleared_from}

-- ---- what is in use, as tests

module _ (v : View) where
  pub live_test : (r : ℕ) → Live v r → live_row v r ≡ true
  live_test r x = ap not (ne_eqb (code_of v r) 0 x.used)

  pub test_live : (r : ℕ) → r < row_count → live_row v r ≡ true → Live v r
  test_live r l t = record { low = l; used = eqb-false (code_of v r) 0 (not-true (eqb (code_of v r) 0) t) }

  pub on_test : (l : ℕ) → On v l → live_link v l ≡ true
  on_test l x = ap not (ne_eqb (mark_of v l) 0 x.used)

  pub test_on : (l : ℕ) → l < link_count → live_link v l ≡ true → On v l
  test_on l h t = record { low = h; used = eqb-false (mark_of v l) 0 (not-true (eqb (mark_of v l) 0) t) }

  -- A row with a kind's code is live.
  pub code_live : (r c : ℕ) → r < row_count → code_of v r ≡ c → 1 ≤ c → Live v r
  code_live r c l e h = record { low = l; used = λ z. omega arith }

-- ---- the row of an id

module _ (v : View) (p : Placed v) where
  -- Two live rows with one id are one.
  pub same_row : (r s : ℕ) → Live v r → Live v s → id_of v r ≡ id_of v s → r ≡ s
  same_row r s a b e = elim (ℕ_discrete r s) [
    | yes z ↦ z
    | no z ↦ absurd
        (bool_cases (ltb r s)
        (λ t. p.ids_apart s r b a (ltb-true r s t) (sym e))
        (λ t. let h = ltb-false r s t in p.ids_apart r s a b (omega arith) e))
  ]

  -- Two live links with the same ends are one.
  pub same_link : (l m : ℕ) → On v l → On v m → from_of v l ≡ from_of v m → to_of v l ≡ to_of v m → l ≡ m
  same_link l m a b e f = elim (ℕ_discrete l m) [
    | yes z ↦ z
    | no z ↦ absurd
        (bool_cases (ltb l m)
        (λ t. p.links_apart m l b a (ltb-true l m t) (sym e) (sym f))
        (λ t. let h = ltb-false l m t in p.links_apart l m a b (omega arith) e f))
  ]

  -- A live row is the row of its id.
  pub row_found : (r : ℕ) → Live v r → row_of v (id_of v r) ≡ Some r
  unfolding row_of
  row_found r a =
      first_only row_count (has_id v (id_of v r)) r a.low
      (both_of (live_row v r) (eqb (id_of v r) (id_of v r)) (live_test v r a) (eq-eqb (id_of v r) (id_of v r) refl))
      (λ s l h. let (t, e) = both_parts (live_row v s) (eqb (id_of v s) (id_of v r)) h in
      same_row s r (test_live v s l t) a (eqb-true (id_of v s) (id_of v r) e))

-- The row of an id is live and has it.
pub row_is : (v : View) (o r : ℕ) → row_of v o ≡ Some r → (Live v r) × (id_of v r ≡ o)
unfolding row_of
row_is v o r e =
    let (t, q) = both_parts (live_row v r) (eqb (id_of v r) o) (first_hit row_count (has_id v o) r e) in
    (test_live v r (first_low row_count (has_id v o) r e) t, eqb-true (id_of v r) o q)

-- Where an id has no row, no live row has it.
pub row_none : (v : View) (o : ℕ) → row_of v o ≡ None → (r : ℕ) → Live v r → id_of v r ≡ o → ⊥
unfolding row_of
row_none v o e r a q =
    no_both (has_id v o r) (both_of (live_row v r) (eqb (id_of v r) o) (live_test v r a) (eq-eqb (id_of v r) o q)) (first_none row_count (has_id v o) e r a.low)

pub no_row : (v : View) (o : ℕ) → ((r : ℕ) → Live v r → id_of v r ≡ o → ⊥) → row_of v o ≡ None
unfolding row_of
no_row v o h =
    first_nothing row_count (has_id v o)
    (λ r l. not_i (has_id v o r) (λ t. let (a, e) = both_parts (live_row v r) (eqb (id_of v r) o) t in h r (test_live v r l a) (eqb-true (id_of v r) o e)))

-- ---- the object at a row

module _ (v : View) (area : List ℕ) (r : ℕ) where
  pub object_kind : (object_at v area r).kind ≡ kind_from (code_of v r)
  unfolding object_at
  object_kind = refl

  pub object_label : (object_at v area r).label ≡ label_of v r
  unfolding object_at
  object_label = refl

  pub object_quota : (object_at v area r).quota ≡ quota_of v r
  unfolding object_at
  object_quota = refl

  pub object_description : (object_at v area r).description ≡ description_of v r
  unfolding object_at
  object_description = refl

  -- Kinds by their codes.
  pub object_thread : is_thread (object_at v area r).kind ≡ eqb (code_of v r) thread_code
  unfolding object_at
  object_thread = thread_from (code_of v r)

  pub object_gate : is_gate (object_at v area r).kind ≡ eqb (code_of v r) gate_code
  unfolding object_at
  object_gate = gate_from (code_of v r)

  pub object_segment : is_segment (object_at v area r).kind ≡ eqb (code_of v r) segment_code
  unfolding object_at
  object_segment = segment_from (code_of v r)

  pub object_container : is_container (object_at v area r).kind ≡ eqb (code_of v r) container_code
  unfolding object_at
  object_container = container_from (code_of v r)

  pub object_cleared : (code_of v r ≡ 0 → ⊥) → has_clearance (object_at v area r).kind ≡ is_thread_or_gate (code_of v r)
  unfolding object_at
  object_cleared = cleared_from (code_of v r)

  pub object_live : code_of v r ≤ max_code → is_live (object_at v area r).kind ≡ live_row v r
  unfolding object_at
  object_live = live_from (code_of v r)

  -- The fields that a kind has are those of the row.
  pub object_clearance : (code_of v r ≡ 0 → ⊥) → ThreadOrGate (code_of v r) → (object_at v area r).clearance ≡ clearance_of v r
  unfolding object_at
  object_clearance ne h = rw (cleared_from (code_of v r) ne ∙ le-leb (code_of v r) gate_code h)

  pub object_fixed : code_of v r ≡ segment_code → (object_at v area r).fixed ≡ eqb (fixed_of v r) 1
  unfolding object_at
  object_fixed e = rw (segment_from (code_of v r) ∙ eq-eqb (code_of v r) segment_code e)

  pub object_bytes : code_of v r ≡ segment_code → (object_at v area r).bytes ≡ bytes_of v area r
  unfolding object_at
  object_bytes e = rw (segment_from (code_of v r) ∙ eq-eqb (code_of v r) segment_code e)

  pub object_mask : code_of v r ≡ container_code → (object_at v area r).mask ≡ mask_of v r
  unfolding object_at
  object_mask e = rw (container_from (code_of v r) ∙ eq-eqb (code_of v r) container_code e)

  pub object_entry : code_of v r ≡ gate_code → (object_at v area r).entry ≡ entry_of v r
  unfolding object_at
  object_entry e = rw (gate_from (code_of v r) ∙ eq-eqb (code_of v r) gate_code e)

  pub object_closure : code_of v r ≡ gate_code → (object_at v area r).closure ≡ closure_of v r
  unfolding object_at
  object_closure e = rw (gate_from (code_of v r) ∙ eq-eqb (code_of v r) gate_code e)

  -- Those that it has not are blank.
  pub object_unfixed : (code_of v r ≡ segment_code → ⊥) → (object_at v area r).fixed ≡ false
  unfolding object_at
  object_unfixed ne = rw (segment_from (code_of v r) ∙ ne_eqb (code_of v r) segment_code ne)

  pub object_no_bytes : (code_of v r ≡ segment_code → ⊥) → (object_at v area r).bytes ≡ []
  unfolding object_at
  object_no_bytes ne = rw (segment_from (code_of v r) ∙ ne_eqb (code_of v r) segment_code ne)

  pub object_no_mask : (code_of v r ≡ container_code → ⊥) → (object_at v area r).mask ≡ 0
  unfolding object_at
  object_no_mask ne = rw (container_from (code_of v r) ∙ ne_eqb (code_of v r) container_code ne)

  -- A segment has as many bytes as its row says.
  pub bytes_length : length (bytes_of v area r) ≡ len_of v r
  unfolding bytes_of
  bytes_length = collect_length (len_of v r) _

-- ---- the object of an id

module _ (v : View) (area : List ℕ) where
  pub world_next : (world_of v area).next ≡ next_of v
  unfolding world_of
  world_next = refl

  pub world_root : (world_of v area).root ≡ root_of v
  unfolding world_of
  world_root = refl

  pub obj_found : (o r : ℕ) → row_of v o ≡ Some r → (world_of v area).obj o ≡ object_at v area r
  unfolding world_of
  obj_found o r e = on_at (row_of v o) r (object_at v area) nothing e

  pub obj_missing : (o : ℕ) → row_of v o ≡ None → (world_of v area).obj o ≡ nothing
  unfolding world_of
  obj_missing o e = on_nothing (row_of v o) (object_at v area) nothing e

  -- An id that no live row has is nothing's.
  pub obj_none : (o : ℕ) → ((r : ℕ) → Live v r → id_of v r ≡ o → ⊥) → (world_of v area).obj o ≡ nothing
  obj_none o h = obj_missing o (no_row v o h)

  -- A live object stands at a live row.
  pub live_row_lem : (o : ℕ) → is_live ((world_of v area).obj o).kind ≡ true → (r : ℕ) × (Live v r) × (id_of v r ≡ o)
  live_row_lem o h =
      found_cases {C = (r : ℕ) × (Live v r) × (id_of v r ≡ o)} (row_of v o)
      (λ r e. let (a, q) = row_is v o r e in (r, a, q))
      (λ e. not_both (is_live ((world_of v area).obj o).kind) h (ap (λ (x : Obj). is_live x.kind) (obj_missing o e) ∙ nothing_dead))

module _ (v : View) (area : List ℕ) (p : Placed v) where
  -- The object of a live row's id is the object at the row.
  pub obj_at : (r : ℕ) → Live v r → (world_of v area).obj (id_of v r) ≡ object_at v area r
  obj_at r a = obj_found v area (id_of v r) r (row_found v p r a)

  pub kind_at : (r : ℕ) → Live v r → ((world_of v area).obj (id_of v r)).kind ≡ kind_from (code_of v r)
  kind_at r a = ap (λ (x : Obj). x.kind) (obj_at r a) ∙ object_kind v area r

  pub quota_at : (r : ℕ) → Live v r → ((world_of v area).obj (id_of v r)).quota ≡ quota_of v r
  quota_at r a = ap (λ (x : Obj). x.quota) (obj_at r a) ∙ object_quota v area r

  -- The object of a live row is live.
  pub live_at : (r : ℕ) → Live v r → is_live ((world_of v area).obj (id_of v r)).kind ≡ true
  live_at r a = ap (λ (x : Obj). is_live x.kind) (obj_at r a) ∙ object_live v area r (p.code_most r a) ∙ live_test v r a

  pub thread_at : (r : ℕ) → Live v r → is_thread ((world_of v area).obj (id_of v r)).kind ≡ eqb (code_of v r) thread_code
  thread_at r a = ap is_thread (kind_at r a) ∙ thread_from (code_of v r)

  pub segment_at : (r : ℕ) → Live v r → is_segment ((world_of v area).obj (id_of v r)).kind ≡ eqb (code_of v r) segment_code
  segment_at r a = ap is_segment (kind_at r a) ∙ segment_from (code_of v r)

  pub container_at : (r : ℕ) → Live v r → is_container ((world_of v area).obj (id_of v r)).kind ≡ eqb (code_of v r) container_code
  container_at r a = ap is_container (kind_at r a) ∙ container_from (code_of v r)

  pub cleared_at_lem : (r : ℕ) → Live v r → has_clearance ((world_of v area).obj (id_of v r)).kind ≡ is_thread_or_gate (code_of v r)
  cleared_at_lem r a = ap has_clearance (kind_at r a) ∙ cleared_from (code_of v r) a.used

-- ---- links

module _ (v : View) (area : List ℕ) where
  -- A live link links the ids of its ends.
  pub linked_at : (l : ℕ) → On v l → (world_of v area).linked (id_of v (from_of v l)) (id_of v (to_of v l)) ≡ true
  unfolding world_of
  linked_at l a =
      any_of link_count (is_link v (id_of v (from_of v l)) (id_of v (to_of v l))) l a.low
      (both_of (live_link v l) (both (eqb (id_of v (from_of v l)) (id_of v (from_of v l))) (eqb (id_of v (to_of v l)) (id_of v (to_of v l)))) (on_test v l a)
      (both_of (eqb (id_of v (from_of v l)) (id_of v (from_of v l))) (eqb (id_of v (to_of v l)) (id_of v (to_of v l)))
      (eq-eqb (id_of v (from_of v l)) (id_of v (from_of v l)) refl) (eq-eqb (id_of v (to_of v l)) (id_of v (to_of v l)) refl)))

  -- What is linked is linked by a live link.
  pub linked_is : (d o : ℕ) → (world_of v area).linked d o ≡ true → (l : ℕ) × (On v l) × (id_of v (from_of v l) ≡ d) × (id_of v (to_of v l) ≡ o)
  unfolding world_of
  linked_is d o h =
      let (l, low, t) = any_found link_count (is_link v d o) h in
      let (a, t₂) = both_parts (live_link v l) (both (eqb (id_of v (from_of v l)) d) (eqb (id_of v (to_of v l)) o)) t in
      let (e, f) = both_parts (eqb (id_of v (from_of v l)) d) (eqb (id_of v (to_of v l)) o) t₂ in
      (l, test_on v l low a, eqb-true (id_of v (from_of v l)) d e, eqb-true (id_of v (to_of v l)) o f)

  -- A link from row c to row r links their ids,
  pub rows_linked : (l c r : ℕ) → On v l → from_of v l ≡ c → to_of v l ≡ r → (world_of v area).linked (id_of v c) (id_of v r) ≡ true
  rows_linked l c r a e f =
      subst (λ (d : ℕ). (world_of v area).linked (id_of v c) (id_of v d) ≡ true) f
      (subst (λ (d : ℕ). (world_of v area).linked (id_of v d) (id_of v (to_of v l)) ≡ true) e (linked_at l a))

  -- and where the ids of two live rows are linked, a live link leads from the one to the other.
  pub linked_rows : Placed v → (c r : ℕ) → Live v c → Live v r → (world_of v area).linked (id_of v c) (id_of v r) ≡ true
      → (l : ℕ) × (On v l) × (from_of v l ≡ c) × (to_of v l ≡ r)
  linked_rows p c r a b h =
      let (l, on, e, f) = linked_is (id_of v c) (id_of v r) h in
      (l, on, same_row v p (from_of v l) c (p.from_live l on) a e, same_row v p (to_of v l) r (p.to_live l on) b f)

-- ---- sums over links are sums over ids

-- a test that at most one place passes
any_once : (n : ℕ) (t : ℕ → Bool) (x : ℕ) → ((i j : ℕ) → i < n → j < n → t i ≡ true → t j ≡ true → i ≡ j) → when (any n t) x ≡ Σ n (λ k. when (t k) x)
any_once n t x u = bool_cases (any n t)
    (λ h. let (i, l, e) = any_found n t h in
    when_true (any n t) x h
    ∙ sym (sum_only n (λ k. when (t k) x) i l (λ j m ne. when_false (t j) x (not_i (t j) (λ q. ne (u j i m l q e)))) ∙ when_true (t i) x e))
    (λ h. when_false (any n t) x h ∙ sym (sum_none n (λ k. when (t k) x) (λ i l. when_false (t i) x (not_i (t i) (λ q. not_both (any n t) (any_of n t i l q) h)))))

-- Of m links those that are on have keys below n, each its own: the sum over keys is the sum over links.
pub sum_keys : (n m : ℕ) (on : ℕ → Bool) (key q : ℕ → ℕ)
    → ((l : ℕ) → l < m → on l ≡ true → key l < n)
    → ((l k : ℕ) → l < m → k < m → on l ≡ true → on k ≡ true → key l ≡ key k → l ≡ k)
    → Σ n (λ o. when (any m (λ l. both (on l) (eqb (key l) o))) (q o)) ≡ Σ m (λ l. when (on l) (q (key l)))
sum_keys n m on key q low apart =
    sum_cong n (λ o. when (any m (λ l. both (on l) (eqb (key l) o))) (q o)) (λ o. Σ m (λ l. when (both (on l) (eqb (key l) o)) (q o)))
    (λ o h. any_once m (λ l. both (on l) (eqb (key l) o)) (q o) (λ i j a b s t.
    let (x, e) = both_parts (on i) (eqb (key i) o) s in
    let (y, f) = both_parts (on j) (eqb (key j) o) t in
    apart i j a b x y (eqb-true (key i) o e ∙ sym (eqb-true (key j) o f))))
    ∙ sum_swap n m (λ o l. when (both (on l) (eqb (key l) o)) (q o))
    ∙ sum_cong m (λ l. Σ n (λ o. when (both (on l) (eqb (key l) o)) (q o))) (λ l. when (on l) (q (key l)))
    (λ l h. bool_cases (on l)
    (λ t. sum_only n (λ o. when (both (on l) (eqb (key l) o)) (q o)) (key l) (low l h t)
    (λ o k ne. when_false (both (on l) (eqb (key l) o)) (q o) (not_i (both (on l) (eqb (key l) o)) (λ s. ne (sym (eqb-true (key l) o (both_parts (on l) (eqb (key l) o) s).1)))))
    ∙ when_true (both (on l) (eqb (key l) (key l))) (q (key l)) (both_of (on l) (eqb (key l) (key l)) t (eq-eqb (key l) (key l) refl))
    ∙ sym (when_true (on l) (q (key l)) t))
    (λ t. sum_none n (λ o. when (both (on l) (eqb (key l) o)) (q o))
    (λ o k. when_false (both (on l) (eqb (key l) o)) (q o) (not_i (both (on l) (eqb (key l) o)) (λ s. no_both (on l) (both_parts (on l) (eqb (key l) o) s).0 t)))
    ∙ sym (when_false (on l) (q (key l)) t)))

both_assoc : (a b c : Bool) → both a (both b c) ≡ both (both a b) c
unfolding both
both_assoc true b c = refl
both_assoc false b c = refl

when_both : (a b : Bool) (x : ℕ) → when (both a b) x ≡ when a (when b x)
unfolding both when
when_both true b x = refl
when_both false b x = refl

module _ (v : View) (area : List ℕ) (p : Placed v) (below : (r : ℕ) → Live v r → id_of v r < next_of v) where
  -- What a container is charged with is what its links come to.
  pub charged_at : (c : ℕ) → Live v c → charged (world_of v area) (id_of v c) ≡ charged_to v c
  unfolding charged charged_to
  charged_at c a = unfold world_of in
      (sum_cong (next_of v) (λ o. when (any link_count (is_link v (id_of v c) o)) (q o)) (λ o. when (any link_count (λ l. both (on l) (eqb (key l) o))) (q o))
      (λ o h. ap (λ (t : Bool). when t (q o)) (any_cong link_count (is_link v (id_of v c) o) (λ l. both (on l) (eqb (key l) o))
      (λ l k. both_assoc (live_link v l) (eqb (id_of v (from_of v l)) (id_of v c)) (eqb (key l) o))))
      ∙ sum_keys (next_of v) link_count on key q low apart
      ∙ sum_cong link_count (λ l. when (on l) (q (key l))) (λ l. when (live_link v l) (when (eqb (from_of v l) c) (quota_of v (to_of v l)))) each)
    where
      q : ℕ → ℕ
      q o = ((world_of v area).obj o).quota

      on : ℕ → Bool
      on l = both (live_link v l) (eqb (id_of v (from_of v l)) (id_of v c))

      key : ℕ → ℕ
      key l = id_of v (to_of v l)

      from_c : (l : ℕ) → l < link_count → both (live_link v l) (eqb (id_of v (from_of v l)) (id_of v c)) ≡ true → (On v l) × (from_of v l ≡ c)
      from_c l h t =
          let (s, e) = both_parts (live_link v l) (eqb (id_of v (from_of v l)) (id_of v c)) t in
          let x = test_on v l h s in
          (x, same_row v p (from_of v l) c (p.from_live l x) a (eqb-true (id_of v (from_of v l)) (id_of v c) e))

      low : (l : ℕ) → l < link_count → both (live_link v l) (eqb (id_of v (from_of v l)) (id_of v c)) ≡ true → id_of v (to_of v l) < next_of v
      low l h t = below (to_of v l) (p.to_live l (from_c l h t).0)

      apart : (l k : ℕ) → l < link_count → k < link_count → both (live_link v l) (eqb (id_of v (from_of v l)) (id_of v c)) ≡ true
          → both (live_link v k) (eqb (id_of v (from_of v k)) (id_of v c)) ≡ true → id_of v (to_of v l) ≡ id_of v (to_of v k) → l ≡ k
      apart l k h i s t e =
          let (x, f) = from_c l h s in
          let (y, g) = from_c k i t in
          same_link v p l k x y (f ∙ sym g) (same_row v p (to_of v l) (to_of v k) (p.to_live l x) (p.to_live k y) e)

      each : (l : ℕ) → l < link_count → when (both (live_link v l) (eqb (id_of v (from_of v l)) (id_of v c))) ((world_of v area).obj (id_of v (to_of v l))).quota
          ≡ when (live_link v l) (when (eqb (from_of v l) c) (quota_of v (to_of v l)))
      each l h =
          when_both (live_link v l) (eqb (id_of v (from_of v l)) (id_of v c)) ((world_of v area).obj (id_of v (to_of v l))).quota
          ∙ when_cong (live_link v l) (when (eqb (id_of v (from_of v l)) (id_of v c)) ((world_of v area).obj (id_of v (to_of v l))).quota) (when (eqb (from_of v l) c) (quota_of v (to_of v l)))
          (λ t. let x = test_on v l h t in
          ap₂ (λ (b : Bool) (n : ℕ). when b n)
          (same_by (eqb (id_of v (from_of v l)) (id_of v c)) (eqb (from_of v l) c)
          (λ s. eq-eqb (from_of v l) c (same_row v p (from_of v l) c (p.from_live l x) a (eqb-true (id_of v (from_of v l)) (id_of v c) s)))
          (λ s. eq-eqb (id_of v (from_of v l)) (id_of v c) (ap (id_of v) (eqb-true (from_of v l) c s))))
          (quota_at v area p (to_of v l) (p.to_live l x)))

  -- ---- units

  -- A container uses one unit and what its links come to,
  pub use_container_at : (r : ℕ) → Live v r → code_of v r ≡ container_code → use_of (world_of v area) (id_of v r) ≡ 1 + charged_to v r
  use_container_at r a e =
      use_container (world_of v area) (id_of v r) (container_at v area p r a ∙ eq-eqb (code_of v r) container_code e) ∙ ap (λ (n : ℕ). 1 + n) (charged_at r a)

  pub spare_container_at : (r : ℕ) → Live v r → code_of v r ≡ container_code → spare_of (world_of v area) (id_of v r) ≡ quota_of v r - (1 + charged_to v r)
  unfolding spare_of
  spare_container_at r a e = ap₂ (λ (m n : ℕ). m - n) (quota_at v area p r a) (use_container_at r a e)

module _ (v : View) (area : List ℕ) (p : Placed v) where
  -- a segment what its length asks,
  pub use_segment_at : (r : ℕ) → Live v r → code_of v r ≡ segment_code → use_of (world_of v area) (id_of v r) ≡ units (len_of v r)
  use_segment_at r a e =
      use_segment (world_of v area) (id_of v r) (segment_at v area p r a ∙ eq-eqb (code_of v r) segment_code e)
      ∙ ap units (ap (λ (x : Obj). length x.bytes) (obj_at v area p r a) ∙ ap (λ (b : List ℕ). length b) (object_bytes v area r e) ∙ bytes_length v area r)

  -- a thread or gate one unit.
  pub use_cleared_at : (r : ℕ) → Live v r → ThreadOrGate (code_of v r) → use_of (world_of v area) (id_of v r) ≡ 1
  use_cleared_at r a h = use_cleared (world_of v area) (id_of v r) (cleared_at_lem v area p r a ∙ le-leb (code_of v r) gate_code h)

-- ---- links to a row, counted

-- two that count are two
two_terms : (n : ℕ) (f : ℕ → ℕ) (i j : ℕ) → i < n → j < n → (i ≡ j → ⊥) → 1 ≤ f i → 1 ≤ f j → 2 ≤ Σ n f
unfolding Σ
two_terms zero f i j p q ne a b = absurd (not-suc-le-zero p)
two_terms (suc n) f i j p q ne a b =
    ⊎_elim
    (λ e. ⊎_elim (λ e₂. absurd (ne (e ∙ sym e₂))) (λ k. omega (arith, sum_term n f j k, subst (λ (x : ℕ). 1 ≤ f x) e a)) (eq-or-lt_of_le (le_of_suc-le-suc q)))
    (λ k. ⊎_elim (λ e₂. omega (arith, sum_term n f i k, subst (λ (x : ℕ). 1 ≤ f x) e₂ b)) (λ k₂. omega (arith, two_terms n f i j k k₂ ne a b)) (eq-or-lt_of_le (le_of_suc-le-suc q)))
    (eq-or-lt_of_le (le_of_suc-le-suc p))

-- A sum of ones where at most one place passes is at most 1.
pub sum_once : (n : ℕ) (t : ℕ → Bool) → ((i j : ℕ) → i < n → j < n → t i ≡ true → t j ≡ true → i ≡ j) → Σ n (λ k. when (t k) 1) ≤ 1
sum_once n t u = omega (arith, any_once n t 1 u, when_le (any n t) 1 1 (λ e. omega arith))

module _ (v : View) where
  counts : (l r : ℕ) → On v l → to_of v l ≡ r → 1 ≤ when (live_link v l) (when (eqb (to_of v l) r) 1)
  counts l r a e = omega (arith, when_true (live_link v l) (when (eqb (to_of v l) r) 1) (on_test v l a), when_true (eqb (to_of v l) r) 1 (eq-eqb (to_of v l) r e))

  -- A link to a row is counted,
  pub link_counted : (l r : ℕ) → On v l → to_of v l ≡ r → 1 ≤ links_to v r
  unfolding links_to
  link_counted l r a e = omega (arith, sum_term link_count (λ k. when (live_link v k) (when (eqb (to_of v k) r) 1)) l a.low, counts l r a e)

  -- what is counted is a link,
  pub link_there : (r : ℕ) → 1 ≤ links_to v r → (l : ℕ) × (On v l) × (to_of v l ≡ r)
  unfolding links_to
  link_there r h =
      let (l, k, q) = sum_pos link_count (λ l. when (live_link v l) (when (eqb (to_of v l) r) 1)) h in
      let (t, q₂) = when_pos (live_link v l) (when (eqb (to_of v l) r) 1) q in
      let (e, q₃) = when_pos (eqb (to_of v l) r) 1 q₂ in
      (l, test_on v l k t, eqb-true (to_of v l) r e)

  -- two links are two,
  pub link_same : (r : ℕ) → links_to v r ≤ 1 → (l m : ℕ) → On v l → On v m → to_of v l ≡ r → to_of v m ≡ r → l ≡ m
  unfolding links_to
  link_same r h l m a b e f = elim (ℕ_discrete l m) [
    | yes z ↦ z
    | no z ↦ absurd (omega (arith, two_terms link_count (λ k. when (live_link v k) (when (eqb (to_of v k) r) 1)) l m a.low b.low z (counts l r a e) (counts m r b f)))
  ]

  -- where any two are one there is one at most,
  pub link_once : (r : ℕ) → ((l m : ℕ) → On v l → On v m → to_of v l ≡ r → to_of v m ≡ r → l ≡ m) → links_to v r ≤ 1
  unfolding links_to
  link_once r u =
      omega (
        arith,
        sum_cong link_count (λ l. when (live_link v l) (when (eqb (to_of v l) r) 1)) (λ l. when (both (live_link v l) (eqb (to_of v l) r)) 1)
            (λ l h. sym (when_both (live_link v l) (eqb (to_of v l) r) 1)),
        sum_once link_count (λ l. both (live_link v l) (eqb (to_of v l) r))
            (λ i j a b s t.
            let (x, e) = both_parts (live_link v i) (eqb (to_of v i) r) s in
            let (y, f) = both_parts (live_link v j) (eqb (to_of v j) r) t in
            u i j (test_on v i a x) (test_on v j b y) (eqb-true (to_of v i) r e) (eqb-true (to_of v j) r f)),
      )

  -- and where there is none, none is counted.
  pub link_none : (r : ℕ) → ((l : ℕ) → On v l → to_of v l ≡ r → ⊥) → links_to v r ≡ 0
  unfolding links_to
  link_none r u =
      sum_none link_count (λ l. when (live_link v l) (when (eqb (to_of v l) r) 1))
      (λ l h. when_none (live_link v l) (when (eqb (to_of v l) r) 1)
      (λ t. when_none (eqb (to_of v l) r) 1 (λ e. absurd (u l (test_on v l h t) (eqb-true (to_of v l) r e)))))
