-- A resize, step by step, leaves the data area as the change asks it: bytes that stay are as they were, freed and new bytes are zero, and other segments'
-- bytes are untouched.
use Rattle.std.specs.Prelude.{ℕ, ◌+◌, ◌*◌, ◌-◌, ◌/◌, ◌%◌, ◌<◌, ◌≤◌, false, ◌≡◌, List, get_or, eqb, leb, ltb, Some}
use Rattle.std.proofs.Math.Decide.{ℕ_discrete}
use native.Mathlib.Omega.{arith}
use Rattle.std.proofs.Math.Logic.{⊎_elim}
use Rattle.std.proofs.Math.Path.{refl, sym, ap}
use Rattle.std.proofs.Common.{◌∙◌, subst}
use Rattle.std.proofs.Math.ListN.{length, get_or-eq_default}
use borrow.Author.Tests.{eqb-true, leb-true, leb-false, ltb-true, ltb-false, lt-leb}
use Rattle.quotas.specs.Any.{no_both, both_parts}
use Rattle.rules.specs.Kernel.{segment_code, block_size, rewrite, alter, resized}
use Rattle.rules.proofs.Laws.Bools.{bool_cases}
use Rattle.rules.proofs.Laws.Bytes.{resized_at}
use Rattle.rules.proofs.Laws.Lengths.{resized_length}
use Rattle.tables.specs.Layout.{View, row_count, block_count, index_t}
use Rattle.book.specs.Book.{id_of, code_of, len_of, owner_of, index_of, blocks_of, is_block, first, bytes_of, row_of}
use Rattle.book.specs.Sound.{Live, Sound}
use Rattle.book.specs.Placed.{Placed}
use Rattle.book.specs.Shape.{Shape}
use Rattle.book.specs.Enact.{area_size, moved_on, blocks_dropped, lengthened, byte_after, area_after, altered_view, altered_area, enact_view, enact_area}
use Rattle.book.specs.Resize.{is_past, wiped_to, edge_end, edge_cleared, between_cleared, resized_area}
use Rattle.book.specs.Laws.First.{found_cases, first_hit, on_at, collect_is}
use Rattle.book.specs.Laws.Tie.{code_live, row_found, bytes_length}
use Rattle.book.specs.Laws.WorldSound.{placed}
use Rattle.book.specs.Laws.Cleared.{if_true, if_false, cleared_in, cleared_out, wiped_length, wiped_in, wiped_out, edge_span, edge_at, edge_nothing, between_less, between_more}
use Rattle.book.specs.Laws.Blocks.{Held, held, held_found, test_block, place_back}
use Rattle.book.specs.Laws.Lengthened.{drop_out, drop_keep, drop_index, drop_long, is_past_lem, added_each, added_area_long}
use Rattle.book.specs.Laws.Rewrite.{spot, byte_mine, byte_stays, byte_freed, byte_new, byte_gone, byte_else, byte_of}

-- ---- the block in which the shorter length ends

edge_reach : (lo hi : ℕ) → lo ≤ hi → (q : ℕ) → q / block_size ≡ lo / block_size → q < hi → q % block_size < edge_end lo hi
edge_reach lo hi h q e l = bool_cases (ltb (hi - block_size * (lo / block_size)) block_size)
    (λ t. let z = if_true (ltb (hi - block_size * (lo / block_size)) block_size) (hi - block_size * (lo / block_size)) block_size t in omega arith)
    (λ t. let z = if_false (ltb (hi - block_size * (lo / block_size)) block_size) (hi - block_size * (lo / block_size)) block_size t in omega arith)

edge_short : (lo hi : ℕ) → lo ≤ hi → (p : ℕ) → p < edge_end lo hi → block_size * (lo / block_size) + p < hi
edge_short lo hi h p l = bool_cases (ltb (hi - block_size * (lo / block_size)) block_size)
    (λ t. let z = if_true (ltb (hi - block_size * (lo / block_size)) block_size) (hi - block_size * (lo / block_size)) block_size t in omega arith)
    (λ t. let z = if_false (ltb (hi - block_size * (lo / block_size)) block_size) (hi - block_size * (lo / block_size)) block_size t in
    let y = ltb-false (hi - block_size * (lo / block_size)) block_size t in omega arith)

module _ (v : View) (r m : ℕ) (h : Held v r m) (area : List ℕ) (lo hi : ℕ) (le : lo ≤ hi) (j : ℕ) where
  edge_in : j < length area → j < area_size → owner_of v (j / block_size) ≡ r + 1 → index_of v (j / block_size) ≡ lo / block_size → lo ≤ spot v j → spot v j < hi
      → get_or (edge_cleared r lo hi v area) j 0 ≡ 0
  edge_in la l o i a b =
      let f : first block_count (is_block v r (lo / block_size)) ≡ Some (j / block_size) =
      subst (λ (k : ℕ). first block_count (is_block v r k) ≡ Some (j / block_size)) i (held_found v r m h (j / block_size) (omega arith) o) in
      let s : spot v j / block_size ≡ lo / block_size = omega arith in
      let z = edge_reach lo hi le (spot v j) s b in
      ap (λ (y : List ℕ). get_or y j 0) (edge_at r lo hi v area (j / block_size) f)
      ∙ cleared_in (block_size * (j / block_size) + lo % block_size) (block_size * (j / block_size) + edge_end lo hi) area j la (omega arith) (omega arith)

  edge_out : (owner_of v (j / block_size) ≡ r + 1 → lo ≤ spot v j → spot v j < hi → ⊥) → get_or (edge_cleared r lo hi v area) j 0 ≡ get_or area j 0
  edge_out n = found_cases (first block_count (is_block v r (lo / block_size)))
      (λ x e. ap (λ (y : List ℕ). get_or y j 0) (edge_at r lo hi v area x e)
      ∙ cleared_out (block_size * x + lo % block_size) (block_size * x + edge_end lo hi) area j
      (λ a b.
      let (s, t) = edge_span lo hi le in
      let q : j / block_size ≡ x = omega arith in
      let (o, i) = test_block v r (lo / block_size) x (first_hit block_count (is_block v r (lo / block_size)) x e) in
      let d = ap (index_of v) q ∙ i in
      let z = edge_short lo hi le (j % block_size) (omega arith) in
      n (ap (owner_of v) q ∙ o) (omega arith) (omega arith)))
      (λ e. ap (λ (y : List ℕ). get_or y j 0) (edge_nothing r lo hi v area e))

module _ (v : View) (r : ℕ) (h : Held v r (blocks_of (len_of v r))) (area : List ℕ) (long : length area ≡ area_size) (n j : ℕ) (l : j < area_size) where
  -- A byte of the segment from the new to before the old length, in a block that stays, is 0,
  between_down : owner_of v (j / block_size) ≡ r + 1 → index_of v (j / block_size) < blocks_of n → n ≤ spot v j → spot v j < len_of v r
      → get_or (between_cleared r (len_of v r) n v area) j 0 ≡ 0
  between_down o i a b =
      ap (λ (y : List ℕ). get_or y j 0) (between_less r (len_of v r) n v area (omega arith))
      ∙ edge_in v r (blocks_of (len_of v r)) h area n (len_of v r) (omega arith) j (omega arith) l o (omega arith) a b

  -- so is one from the old to before the new length in a block that was there,
  between_up : owner_of v (j / block_size) ≡ r + 1 → len_of v r ≤ spot v j → spot v j < n → get_or (between_cleared r (len_of v r) n v area) j 0 ≡ 0
  between_up o a b =
      let i = h.within (j / block_size) (omega arith) o in
      ap (λ (y : List ℕ). get_or y j 0) (between_more r (len_of v r) n v area (omega arith))
      ∙ edge_in v r (blocks_of (len_of v r)) h area (len_of v r) n (omega arith) j (omega arith) l o (omega arith) a b

  -- and any other stays.
  between_same : (owner_of v (j / block_size) ≡ r + 1 → n ≤ spot v j → spot v j < len_of v r → ⊥) → (owner_of v (j / block_size) ≡ r + 1 → len_of v r ≤ spot v j → spot v j < n → ⊥)
      → get_or (between_cleared r (len_of v r) n v area) j 0 ≡ get_or area j 0
  between_same f g = bool_cases (ltb n (len_of v r))
      (λ t. let q = ltb-true n (len_of v r) t in
      ap (λ (y : List ℕ). get_or y j 0) (between_less r (len_of v r) n v area q) ∙ edge_out v r (blocks_of (len_of v r)) h area n (len_of v r) (omega arith) j f)
      (λ t. let q = ltb-false n (len_of v r) t in
      ap (λ (y : List ℕ). get_or y j 0) (between_more r (len_of v r) n v area q) ∙ edge_out v r (blocks_of (len_of v r)) h area (len_of v r) n q j g)

-- ---- the new bytes

module _ (v : View) (area : List ℕ) (r n : ℕ) where
  kept_byte : (i : ℕ) → i < n → get_or (resized n (bytes_of v area r)) i 0 ≡ get_or (bytes_of v area r) i 0
  kept_byte i l = resized_at n (bytes_of v area r) i ∙ if_false (leb n i) 0 (get_or (bytes_of v area r) i 0) (lt-leb n i l)

  new_byte : (i : ℕ) → i < n → len_of v r ≤ i → get_or (resized n (bytes_of v area r)) i 0 ≡ 0
  new_byte i l h = kept_byte i l ∙ get_or-eq_default (bytes_of v area r) 0 (omega (arith, bytes_length v area r))

-- ---- each byte

module _ (v : View) (shape : Shape v) (p : Placed v) (r : ℕ) (a : Live v r) (c : code_of v r ≡ segment_code) (area : List ℕ) (long : length area ≡ area_size) (n : ℕ) where
  holding : Held v r (blocks_of (len_of v r))
  holding = held v r p a c

  -- a byte of a block of row r that stays
  stays : (j : ℕ) → j < area_size → owner_of (lengthened r n v) (j / block_size) ≡ r + 1 → owner_of v (j / block_size) ≡ r + 1
      → index_of (lengthened r n v) (j / block_size) ≡ index_of v (j / block_size)
      → index_of v (j / block_size) < blocks_of n
      → get_or (between_cleared r (len_of v r) n v area) j 0 ≡ byte_after v (lengthened r n v) r (resized n (bytes_of v area r)) area j
  stays j l o q e i =
      let s : spot (lengthened r n v) j ≡ spot v j = omega arith in
      let long-new = resized_length n (bytes_of v area r) in
      bool_cases (ltb (spot v j) n)
      (λ t. let h = ltb-true (spot v j) n t in
      bool_cases (ltb (spot v j) (len_of v r))
      (λ u. let g = ltb-true (spot v j) (len_of v r) u in
      between_same v r holding area long n j l (λ _ x y. omega arith) (λ _ x y. omega arith)
      ∙ sym (ap (λ (y : ℕ). get_or area y 0) (place_back v r (blocks_of (len_of v r)) holding j l q))
      ∙ sym (byte_of v area r (spot v j) g)
      ∙ sym (kept_byte v area r n (spot v j) h))
      (λ u. let g = ltb-false (spot v j) (len_of v r) u in
      between_up v r holding area long n j l q g h ∙ sym (new_byte v area r n (spot v j) h g))
      ∙ sym (ap (λ (y : ℕ). get_or (resized n (bytes_of v area r)) y 0) s)
      ∙ sym (byte_mine v (lengthened r n v) r (resized n (bytes_of v area r)) area j o (omega arith)))
      (λ t. let h = ltb-false (spot v j) n t in
      bool_cases (ltb (spot v j) (len_of v r))
      (λ u. let g = ltb-true (spot v j) (len_of v r) u in
      between_down v r holding area long n j l q i h g
      ∙ sym (byte_freed v (lengthened r n v) r (resized n (bytes_of v area r)) area j o (omega arith) q (omega arith)))
      (λ u. let g = ltb-false (spot v j) (len_of v r) u in
      between_same v r holding area long n j l (λ _ x y. omega arith) (λ _ x y. omega arith)
      ∙ sym (byte_stays v (lengthened r n v) r (resized n (bytes_of v area r)) area j o (omega arith) q (omega arith))))

  -- a byte of a block that is neither new nor gone
  same : (j : ℕ) → j < area_size → owner_of (lengthened r n v) (j / block_size) ≡ owner_of v (j / block_size) → index_of (lengthened r n v) (j / block_size) ≡ index_of v (j / block_size)
      → is_past v r (blocks_of n) (j / block_size) ≡ false
      → get_or (between_cleared r (len_of v r) n v area) j 0 ≡ byte_after v (lengthened r n v) r (resized n (bytes_of v area r)) area j
  same j l d e t = elim (ℕ_discrete (owner_of v (j / block_size)) (r + 1)) [
    | yes o ↦ stays j l (d ∙ o) o e (bool_cases (leb (blocks_of n) (index_of v (j / block_size)))
        (λ u. absurd (no_both (is_past v r (blocks_of n) (j / block_size))
        (is_past_lem r (blocks_of n) v (j / block_size) (omega arith) o (leb-true (blocks_of n) (index_of v (j / block_size)) u)) t))
        (λ u. leb-false (blocks_of n) (index_of v (j / block_size)) u))
    | no o ↦ between_same v r holding area long n j l (λ q _ _. o q) (λ q _ _. o q)
        ∙ sym (byte_else v (lengthened r n v) r (resized n (bytes_of v area r)) area j (λ q. o (sym d ∙ q)) o)
  ]

  -- a byte of a new block
  new : (j : ℕ) → j < area_size → owner_of (lengthened r n v) (j / block_size) ≡ r + 1 → blocks_of (len_of v r) ≤ index_of (lengthened r n v) (j / block_size)
      → (owner_of v (j / block_size) ≡ r + 1 → ⊥) → byte_after v (lengthened r n v) r (resized n (bytes_of v area r)) area j ≡ 0
  new j l o i ne =
      let long-new = resized_length n (bytes_of v area r) in
      bool_cases (ltb (spot (lengthened r n v) j) n)
      (λ t. let h = ltb-true (spot (lengthened r n v) j) n t in
      byte_mine v (lengthened r n v) r (resized n (bytes_of v area r)) area j o (omega arith) ∙ new_byte v area r n (spot (lengthened r n v) j) h (omega arith))
      (λ t. let h = ltb-false (spot (lengthened r n v) j) n t in byte_new v (lengthened r n v) r (resized n (bytes_of v area r)) area j o (omega arith) ne)

  each : (j : ℕ) → j < area_size → get_or (resized_area r n v area) j 0 ≡ byte_after v (lengthened r n v) r (resized n (bytes_of v area r)) area j
  unfolding resized_area lengthened
  each j l =
      let x : j / block_size < block_count = omega arith in
      ⊎_elim
      (λ k. k.bytes j refl ∙ bool_cases (is_past v r (blocks_of n) (j / block_size))
      (λ t. let z = drop_out r (blocks_of n) v (j / block_size) x t in
      let o = eqb-true (owner_of v (j / block_size)) (r + 1) (both_parts (eqb (owner_of v (j / block_size)) (r + 1)) (leb (blocks_of n) (index_of v (j / block_size))) t).0 in
      wiped_in r (blocks_of n) v (between_cleared r (len_of v r) n v area) block_count j l x t
      ∙ sym (byte_gone v (lengthened r n v) r (resized n (bytes_of v area r)) area j (λ q. omega (arith, k.owner)) o))
      (λ t. wiped_out r (blocks_of n) v (between_cleared r (len_of v r) n v area) block_count j l (λ _ u. no_both (is_past v r (blocks_of n) (j / block_size)) u t)
      ∙ same j l (k.owner ∙ drop_keep r (blocks_of n) v (j / block_size) x t) (k.index ∙ drop_index r (blocks_of n) v (j / block_size) x) t))
      (λ k. k.zeros j l refl ∙ sym (new j l k.mine k.low (λ o.
      let w = holding.within (j / block_size) x o in
      bool_cases (is_past v r (blocks_of n) (j / block_size))
      (λ t. let i = leb-true (blocks_of n) (index_of v (j / block_size)) (both_parts (eqb (owner_of v (j / block_size)) (r + 1)) (leb (blocks_of n) (index_of v (j / block_size))) t).1 in
      omega (arith, k.low, k.high))
      (λ t. omega (arith, k.free, drop_keep r (blocks_of n) v (j / block_size) x t)))))
      (added_each r (blocks_of n - blocks_of (len_of v r)) (blocks_of (len_of v r)) (blocks_dropped r (blocks_of n) v)
      (wiped_to block_count r (blocks_of n) v (between_cleared r (len_of v r) n v area))
      (drop_long r (blocks_of n) v) (unfold blocks_dropped in (shape.long index_t)) (wiped_length r (blocks_of n) v (between_cleared r (len_of v r) n v area) block_count) (j / block_size) x)

  -- The steps of a resize come to what the change asks of the area.
  pub resized_area_lem : resized_area r n v area ≡ area_after v (lengthened r n v) r (resized n (bytes_of v area r)) area
  unfolding area_after
  resized_area_lem =
      sym (collect_is area_size (byte_after v (lengthened r n v) r (resized n (bytes_of v area r)) area) (resized_area r n v area) size_kept each)
    where
      size_kept : length (resized_area r n v area) ≡ area_size
      size_kept = unfold resized_area in
          (added_area_long r (blocks_of n - blocks_of (len_of v r)) (blocks_of (len_of v r)) (blocks_dropped r (blocks_of n) v)
          (wiped_to block_count r (blocks_of n) v (between_cleared r (len_of v r) n v area))
          ∙ wiped_length r (blocks_of n) v (between_cleared r (len_of v r) n v area) block_count)

-- ---- how it is enacted

module _ (v : View) (s : Sound v) (r : ℕ) (low : r < row_count) (c : code_of v r ≡ segment_code) (n : ℕ) where
  live : Live v r
  live = code_live v r segment_code low c (omega arith)

  -- A segment is given another length.
  pub resized_view : (area : List ℕ) → enact_view (alter (id_of v r) (rewrite (resized n (bytes_of v area r)))) v area ≡ moved_on (lengthened r n v)
  unfolding enact_view altered_view
  resized_view area =
      on_at (row_of v (id_of v r)) r (λ q. moved_on (lengthened q (length (resized n (bytes_of v area r))) v)) (moved_on v) (row_found v (placed v s) r live)
      ∙ ap (λ (m : ℕ). moved_on (lengthened r m v)) (resized_length n (bytes_of v area r))

  pub resized_enacted : (area : List ℕ) → enact_area (alter (id_of v r) (rewrite (resized n (bytes_of v area r)))) v area
      ≡ area_after v (lengthened r n v) r (resized n (bytes_of v area r)) area
  unfolding enact_area altered_area
  resized_enacted area =
      on_at (row_of v (id_of v r)) r (λ q. area_after v (lengthened q (length (resized n (bytes_of v area r))) v) q (resized n (bytes_of v area r)) area) area
      (row_found v (placed v s) r live)
      ∙ ap (λ (m : ℕ). area_after v (lengthened r m v) r (resized n (bytes_of v area r)) area) (resized_length n (bytes_of v area r))
