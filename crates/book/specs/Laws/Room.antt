-- Rows, links and blocks are never wanting: a container with spare leaves a free row and a free link, and a segment within its quota finds its blocks.
-- The reckoning is that of the crate quotas, over the book seen as a tree of rows.
use Rattle.std.specs.Prelude.{ℕ, zero, suc, ◌+◌, ◌-◌, ◌<◌, ◌≤◌, Bool, cond, ◌≡◌, refl, List, eqb, Some}
use native.Mathlib.Omega.{arith}
use Rattle.std.proofs.Math.Bool.{true, false, not}
use Rattle.std.proofs.Math.Path.{sym, ap}
use Rattle.std.proofs.Common.{◌∙◌, subst}
use borrow.Author.Tests.{eqb-true, eqb-false, eq-eqb, ne_eqb, not-true, not-false}
use Rattle.quotas.specs.Any.{both, both_parts}
use Rattle.quotas.specs.Sum.{Σ, when, sum_cong, sum_swap, sum_none, sum_pick, sum_add, sum_change, found, when_true, when_false, when_none, when_split}
use Rattle.quotas.specs.Tree as tree
use Rattle.quotas.specs.Room.{row_free, link_free}
use Rattle.quotas.specs.Reach.{Blocks, blocks_held}
use Rattle.rules.specs.Kernel.{segment_code, container_code, spare_of, units}
use Rattle.rules.proofs.Laws.Bools.{bool_cases, not_i, not_both, same_by}
use Rattle.tables.specs.Layout.{View, row_count, link_count, block_count}
use Rattle.book.specs.Book.{id_of, root_of, code_of, quota_of, len_of, mark_of, from_of, to_of, owner_of, index_of, live_row, live_link, blocks_of, is_block, first, world_of}
use Rattle.book.specs.Sound.{Live, Used, Sound, links_to, charged_to, times_held}
use Rattle.book.specs.Laws.First.{first_some}
use Rattle.book.specs.Laws.Tie.{code_live, test_live, test_on, live_test, same_row, spare_container_at}
use Rattle.book.specs.Laws.WorldSound.{placed}

-- ---- a sound book is sound to the theory of quotas

-- what a row holds
abbrev pub holds : View → ℕ → ℕ
holds v r = cond (eqb (code_of v r) segment_code) (units (len_of v r)) 1

-- the book as a tree of rows
abbrev pub rows_of : View → tree.View
rows_of v = record { live = live_row v; con = λ r. eqb (code_of v r) container_code; quota = quota_of v; hold = holds v; on = live_link v; par = from_of v; obj = to_of v }

module _ (v : View) (s : Sound v) where
  root_live : Live v s.root.0
  root_live = code_live v s.root.0 container_code s.root.1.low s.root.1.is_container_lem (omega arith)

  -- a live row other than the root has another id
  other_id : (r : ℕ) → Live v r → (r ≡ s.root.0 → ⊥) → id_of v r ≡ root_of v → ⊥
  other_id r a ne e = ne (same_row v (placed v s) r s.root.0 a root_live (e ∙ sym s.root.1.has_id_lem))

  is_con : (c : ℕ) → c < row_count → eqb (code_of v c) container_code ≡ true → Live v c
  is_con c l t = code_live v c container_code l (eqb-true (code_of v c) container_code t) (omega arith)

  one_link : (c : ℕ) → c < row_count → eqb (code_of v c) container_code ≡ true → (c ≡ s.root.0 → ⊥) → links_to v c ≡ 1
  one_link c l t ne =
      let a = is_con c l t in
      let e = eqb-true (code_of v c) container_code t in
      omega (arith, s.some_link c a (other_id c a ne), s.one_link c a (λ q. let z = q.0 in omega arith))

  -- a thread, gate or segment is not the root
  some_link : (r : ℕ) → r < row_count → live_row v r ≡ true → eqb (code_of v r) container_code ≡ false → 1 ≤ links_to v r
  some_link r l t n =
      let a = test_live v r l t in
      s.some_link r a (other_id r a (λ e. eqb-false (code_of v r) container_code n (ap (code_of v) e ∙ s.root.1.is_container_lem)))

  holding : (r : ℕ) → Live v r → (b : Bool) → eqb (code_of v r) segment_code ≡ b → (1 ≤ cond b (units (len_of v r)) 1) × (cond b (units (len_of v r)) 1 ≤ quota_of v r)
  holding r a true e = (unfold units in (omega arith), s.segment_fits r a (eqb-true (code_of v r) segment_code e))
  holding r a false e = (omega arith, (s.ranges r a).quota_some)

  pub tree_sound : tree.Sound (rows_of v) row_count link_count s.root.0
  unfolding tree.links tree.use_of_lem tree.linked links_to charged_to
  tree_sound =
      record {
        par_con = λ l h t. let e = s.ends l (test_on v l h t) in (e.from_low, eq-eqb (code_of v (from_of v l)) container_code e.from_container);
        obj_live = λ l h t. let e = s.ends l (test_on v l h t) in (e.to_low, live_test v (to_of v l) (record { low = e.to_low; used = e.to_live }));
        con_live = λ c t. ap not (ne_eqb (code_of v c) 0 (λ z. let e = eqb-true (code_of v c) container_code t in omega arith));
        root_in = s.root.1.low;
        root_con = eq-eqb (code_of v s.root.0) container_code s.root.1.is_container_lem;
        root_none = s.root.1.no_link;
        one = one_link;
        some = some_link;
        fits = λ c h t. s.container_fits c (is_con c h t) (eqb-true (code_of v c) container_code t);
        holds = λ r h t. holding r (test_live v r h t) (eqb (code_of v r) segment_code) refl;
        con_holds = λ c t. let z = ne_eqb (code_of v c) segment_code (λ e. let f = eqb-true (code_of v c) container_code t in omega arith) in rw z;
      }

  -- ---- rows and links

  spare_there : (c : ℕ) → 1 ≤ quota_of v c - (1 + charged_to v c) → 1 ≤ tree.spare_of_lem (rows_of v) link_count c
  unfolding charged_to tree.spare_of_lem tree.use_of_lem tree.linked
  spare_there c h = h

  -- Where a container has spare, a row is free,
  pub row_room : (c : ℕ) → c < row_count → code_of v c ≡ container_code → 1 ≤ quota_of v c - (1 + charged_to v c) → (r : ℕ) × (first row_count (λ r. eqb (code_of v r) 0) ≡ Some r)
  row_room c l e h =
      let (r, a, b) = row_free (rows_of v) row_count link_count s.root.0 tree_sound (omega (arith, s.root.1.quota_all)) c l (eq-eqb (code_of v c) container_code e) (spare_there c h) in
      first_some row_count (λ r. eqb (code_of v r) 0) r a (not-false (eqb (code_of v r) 0) b)

  -- and a link.
  pub link_room : (c : ℕ) → c < row_count → code_of v c ≡ container_code → 1 ≤ quota_of v c - (1 + charged_to v c) → (l : ℕ) × (first link_count (λ l. eqb (mark_of v l) 0) ≡ Some l)
  link_room c l e h =
      let (k, a, b) = link_free (rows_of v) row_count link_count s.root.0 tree_sound (omega (arith, s.root.1.quota_all)) c l (eq-eqb (code_of v c) container_code e) (spare_there c h) in
      first_some link_count (λ k. eqb (mark_of v k) 0) k a (not-false (eqb (mark_of v k) 0) b)

  -- The same by the spare of the world.
  spare_row : (area : List ℕ) (c : ℕ) → Live v c → code_of v c ≡ container_code → 1 ≤ spare_of (world_of v area) (id_of v c) → 1 ≤ quota_of v c - (1 + charged_to v c)
  spare_row area c a e h = subst (λ (n : ℕ). 1 ≤ n) (spare_container_at v area (placed v s) s.ids_below c a e) h

  pub spare_row_room : (area : List ℕ) (c : ℕ) → Live v c → code_of v c ≡ container_code → 1 ≤ spare_of (world_of v area) (id_of v c)
      → (r : ℕ) × (first row_count (λ r. eqb (code_of v r) 0) ≡ Some r)
  spare_row_room area c a e h = row_room c a.low e (spare_row area c a e h)

  pub spare_link_room : (area : List ℕ) (c : ℕ) → Live v c → code_of v c ≡ container_code → 1 ≤ spare_of (world_of v area) (id_of v c)
      → (l : ℕ) × (first link_count (λ l. eqb (mark_of v l) 0) ≡ Some l)
  spare_link_room area c a e h = link_room c a.low e (spare_row area c a e h)

-- ---- blocks

-- how many blocks are free
unfoldable pub free_blocks : View → ℕ
free_blocks v = Σ block_count (λ b. when (eqb (owner_of v b) 0) 1)

sum_ones : (n : ℕ) → Σ n (λ i. 1) ≡ n
unfolding Σ
sum_ones zero = refl
sum_ones (suc n) = omega (arith, sum_ones n)

-- What is not in use is free.
pub used_and_free : (v : View) → Σ block_count (λ b. when (not (eqb (owner_of v b) 0)) 1) + free_blocks v ≡ block_count
unfolding free_blocks
used_and_free v =
    omega (
      arith,
      sum_add block_count (λ b. when (eqb (owner_of v b) 0) 1) (λ b. when (not (eqb (owner_of v b) 0)) 1),
      sum_cong block_count (λ b. 1) (λ b. when (eqb (owner_of v b) 0) 1 + when (not (eqb (owner_of v b) 0)) 1) (λ b l. when_split (eqb (owner_of v b) 0) 1),
      sum_ones block_count,
    )

-- Where a block is free, the lowest is found.
pub block_found : (v : View) → 1 ≤ free_blocks v → (b : ℕ) × (first block_count (λ b. eqb (owner_of v b) 0) ≡ Some b)
unfolding free_blocks
block_found v h =
    let (b, l, t) = found block_count (λ b. eqb (owner_of v b) 0) h in
    first_some block_count (λ b. eqb (owner_of v b) 0) b l t

-- A block that is taken is one free block less.
pub block_taken : (v u : View) (b : ℕ) → b < block_count → owner_of v b ≡ 0 → (owner_of u b ≡ 0 → ⊥)
    → ((c : ℕ) → c < block_count → (c ≡ b → ⊥) → owner_of u c ≡ owner_of v c) → free_blocks u + 1 ≡ free_blocks v
unfolding free_blocks
block_taken v u b l e ne h =
    omega (
      arith,
      sum_change block_count (λ c. when (eqb (owner_of v c) 0) 1) (λ c. when (eqb (owner_of u c) 0) 1) b l (λ c k n. ap (λ (x : ℕ). when (eqb x 0) 1) (h c k n)),
      when_true (eqb (owner_of v b) 0) 1 (eq-eqb (owner_of v b) 0 e),
      when_false (eqb (owner_of u b) 0) 1 (ne_eqb (owner_of u b) 0 ne),
    )

-- the blocks of row r, told by their owner
owned_by : (v : View) (r b : ℕ) → when (not (eqb (owner_of v b) 0)) (when (eqb (owner_of v b - 1) r) 1) ≡ when (eqb (owner_of v b) (r + 1)) 1
owned_by v r b = bool_cases (eqb (owner_of v b) 0)
    (λ t. let e = eqb-true (owner_of v b) 0 t in
    when_false (not (eqb (owner_of v b) 0)) (when (eqb (owner_of v b - 1) r) 1) (ap not t)
    ∙ sym (when_false (eqb (owner_of v b) (r + 1)) 1 (ne_eqb (owner_of v b) (r + 1) (λ f. omega arith))))
    (λ t. let ne = eqb-false (owner_of v b) 0 t in
    when_true (not (eqb (owner_of v b) 0)) (when (eqb (owner_of v b - 1) r) 1) (ap not t)
    ∙ ap (λ (x : Bool). when x 1)
    (same_by (eqb (owner_of v b - 1) r) (eqb (owner_of v b) (r + 1))
    (λ q. let z = eqb-true (owner_of v b - 1) r q in eq-eqb (owner_of v b) (r + 1) (omega arith))
    (λ q. let z = eqb-true (owner_of v b) (r + 1) q in eq-eqb (owner_of v b - 1) r (omega arith))))

module _ (v : View) (s : Sound v) where
  is_used : (b : ℕ) → b < block_count → not (eqb (owner_of v b) 0) ≡ true → Used v b
  is_used b l t = record { low = l; used = eqb-false (owner_of v b) 0 (not-true (eqb (owner_of v b) 0) t) }

  -- a block of row r is one of those that its length asks
  numbered : (r b : ℕ) → b < block_count → when (eqb (owner_of v b) (r + 1)) 1 ≡ Σ (blocks_of (len_of v r)) (λ k. when (is_block v r k b) 1)
  numbered r b l = bool_cases (eqb (owner_of v b) (r + 1))
      (λ t.
      let e = eqb-true (owner_of v b) (r + 1) t in
      let own : owner_of v b - 1 ≡ r = omega arith in
      let used : Used v b = record { low = l; used = λ z. omega arith } in
      let low : index_of v b < blocks_of (len_of v r) = subst (λ (i : ℕ). index_of v b < blocks_of (len_of v i)) own (s.owned b used).within in
      when_true (eqb (owner_of v b) (r + 1)) 1 t
      ∙ sym (sum_cong (blocks_of (len_of v r)) (λ k. when (is_block v r k b) 1) (λ k. when (eqb (index_of v b) k) 1)
      (λ k h. ap (λ (x : Bool). when x 1) (rw t (unfold both in refl)))
      ∙ sum_pick (blocks_of (len_of v r)) (index_of v b) 1 low))
      (λ t.
      when_false (eqb (owner_of v b) (r + 1)) 1 t
      ∙ sym (sum_none (blocks_of (len_of v r)) (λ k. when (is_block v r k b) 1)
      (λ k h. when_false (is_block v r k b) 1 (not_i (is_block v r k b) (λ q. not_both (eqb (owner_of v b) (r + 1)) (both_parts (eqb (owner_of v b) (r + 1)) (eqb (index_of v b) k) q).0 t)))))

  -- a segment has as many blocks as its length asks
  counted : (r : ℕ) → Live v r → code_of v r ≡ segment_code → Σ block_count (λ b. when (not (eqb (owner_of v b) 0)) (when (eqb (owner_of v b - 1) r) 1)) ≡ blocks_of (len_of v r)
  unfolding times_held
  counted r a e =
      sum_cong block_count (λ b. when (not (eqb (owner_of v b) 0)) (when (eqb (owner_of v b - 1) r) 1)) (λ b. Σ (blocks_of (len_of v r)) (λ k. when (is_block v r k b) 1))
      (λ b l. owned_by v r b ∙ numbered r b l)
      ∙ sum_swap block_count (blocks_of (len_of v r)) (λ b k. when (is_block v r k b) 1)
      ∙ sum_cong (blocks_of (len_of v r)) (λ k. Σ block_count (λ b. when (is_block v r k b) 1)) (λ k. 1) (λ k l. s.blocks_once r a e k l)
      ∙ sum_ones (blocks_of (len_of v r))

  -- what is no segment has none
  none_owned : (r : ℕ) → (code_of v r ≡ segment_code → ⊥) → Σ block_count (λ b. when (not (eqb (owner_of v b) 0)) (when (eqb (owner_of v b - 1) r) 1)) ≡ 0
  none_owned r ne =
      sum_none block_count (λ b. when (not (eqb (owner_of v b) 0)) (when (eqb (owner_of v b - 1) r) 1))
      (λ b l. when_none (not (eqb (owner_of v b) 0)) (when (eqb (owner_of v b - 1) r) 1)
      (λ t. when_none (eqb (owner_of v b - 1) r) 1
      (λ q. absurd (ne (ap (code_of v) (sym (eqb-true (owner_of v b - 1) r q)) ∙ (s.owned b (is_used b l t)).owner_segment)))))

  -- each row has the blocks that it holds beyond 1
  exact : (r : ℕ) → Live v r → (t : Bool) → eqb (code_of v r) segment_code ≡ t
      → 1 + Σ block_count (λ b. when (not (eqb (owner_of v b) 0)) (when (eqb (owner_of v b - 1) r) 1)) ≡ cond t (units (len_of v r)) 1
  unfolding units
  exact r a true e = ap (λ (n : ℕ). 1 + n) (counted r a (eqb-true (code_of v r) segment_code e))
  exact r a false e = ap (λ (n : ℕ). 1 + n) (none_owned r (eqb-false (code_of v r) segment_code e))

  blocks : Blocks (rows_of v) row_count block_count (λ b. not (eqb (owner_of v b) 0)) (λ b. owner_of v b - 1)
  blocks =
      record {
        owned = λ b l t. let o = s.owned b (is_used b l t) in
            (o.owner_low, live_test v (owner_of v b - 1) (code_live v (owner_of v b - 1) segment_code o.owner_low o.owner_segment (omega arith)));
        exact = λ r l t. exact r (test_live v r l t) (eqb (code_of v r) segment_code) refl;
      }

  -- A segment that is to be n bytes long within its quota finds the blocks that it lacks.
  pub block_room : (r n : ℕ) → r < row_count → code_of v r ≡ segment_code → units n ≤ quota_of v r → blocks_of n ≤ blocks_of (len_of v r) + free_blocks v
  unfolding units
  block_room r n l e h =
      let a = code_live v r segment_code l e (omega arith) in
      let held : holds v r ≡ units (len_of v r) = rw (eq-eqb (code_of v r) segment_code e) in
      omega (
        arith,
        blocks_held (rows_of v) row_count link_count s.root.0 (tree_sound v s) block_count (λ b. not (eqb (owner_of v b) 0)) (λ b. owner_of v b - 1) blocks r l
            (live_test v r a) (ne_eqb (code_of v r) container_code (λ z. omega arith)),
        s.root.1.quota_all,
        used_and_free v,
        held,
      )
