-- Bytes written into part of a block, and read from it: a write of the area is a write of the segment, and a read is that part of the area itself.
use Rattle.std.specs.Prelude.{ℕ, ◌+◌, ◌*◌, ◌-◌, ◌/◌, ◌<◌, ◌≤◌, false, ◌&&◌, ◌≡◌, get_or, take, drop, leb, ltb}
use Rattle.std.proofs.Math.Decide.{ℕ_discrete}
use native.Mathlib.Omega.{arith}
use Rattle.std.proofs.Math.Path.{sym, ap}
use Rattle.std.proofs.Common.{◌∙◌, subst, length-drop, get_or-take, get_or-drop, length-take-le, ext_get_or, leb-true, ltb-true, ltb-false, le-leb, lt-ltb}
use mathlib.Core.List.{List, append_assoc}
use Rattle.std.proofs.Math.ListN.{length}
use Rattle.std.proofs.lemmas.List.Edits.{sets}
use Rattle.std.proofs.Math.Seq.{length-sets, sets-eq}
use Rattle.std.proofs.lemmas.List.{set-get_or}
use Rattle.quotas.specs.Any.{no_both}
use Rattle.rules.specs.Kernel.{segment_code, block_size, rewrite, alter, overwrite}
use Rattle.rules.proofs.Laws.Bools.{bool_cases, and_l, and_r, and_i, not_i}
use Rattle.rules.proofs.Laws.Bytes.{overwrite_at, overwrite_length}
use Rattle.tables.specs.Layout.{View, block_count, len_t, owner_t, on_tab, put_t}
use Rattle.book.specs.Book.{id_of, code_of, len_of, owner_of, index_of, blocks_of, is_block, first, block_at, place_of, bytes_of, row_of}
use Rattle.book.specs.Sound.{Live}
use Rattle.book.specs.Placed.{Placed}
use Rattle.book.specs.Shape.{Shape}
use Rattle.book.specs.Enact.{area_size, moved_on, blocks_added, blocks_dropped, lengthened, byte_after, area_after, altered_view, altered_area, enact_view, enact_area}
use Rattle.book.specs.Laws.First.{found_cases, first_low, on_at, on_nothing, collect_is}
use Rattle.book.specs.Laws.Tie.{row_found, bytes_length}
use Rattle.book.specs.Laws.Cleared.{if_true, if_false}
use Rattle.book.specs.Laws.Blocks.{held, held_at, at_owner, at_index, place_back}
use Rattle.book.specs.Laws.Lengthened.{dropped_same}
use Rattle.book.specs.Laws.Rewrite.{spot, byte_mine, byte_stays, byte_else, byte_of}

-- ---- part of a list overwritten

module _ (from : ℕ) (b bytes : List ℕ) (fits : from + length b ≤ length bytes) where
  over_in : (i : ℕ) → from ≤ i → i < from + length b → get_or (overwrite from b bytes) i 0 ≡ get_or b (i - from) 0
  over_in i h k =
      overwrite_at from b bytes fits i
      ∙ if_true (leb from i && ltb i (from + length b)) (get_or b (i - from) 0) (get_or bytes i 0) (and_i (leb from i) (ltb i (from + length b)) (le-leb from i h) (lt-ltb i (from + length b) k))

  over_out : (i : ℕ) → (from ≤ i → i < from + length b → ⊥) → get_or (overwrite from b bytes) i 0 ≡ get_or bytes i 0
  over_out i n =
      overwrite_at from b bytes fits i
      ∙ if_false (leb from i && ltb i (from + length b)) (get_or b (i - from) 0) (get_or bytes i 0)
      (not_i (leb from i && ltb i (from + length b))
      (λ t. n (leb-true from i (and_l (leb from i) (ltb i (from + length b)) t)) (ltb-true i (from + length b) (and_r (leb from i) (ltb i (from + length b)) t))))

  sets_over : sets bytes from b ≡ overwrite from b bytes
  unfolding overwrite
  sets_over = sets-eq b bytes from fits ∙ append_assoc (take from bytes) b (drop (from + length b) bytes)

-- ---- where a part of block k lies

-- The block is one of the data area's, whatever k is,
pub block_low : (v : View) (r k : ℕ) → block_at v r k < block_count
unfolding block_at
block_low v r k = found_cases (first block_count (is_block v r k))
    (λ x e. subst (λ (y : ℕ). y < block_count) (sym (on_at (first block_count (is_block v r k)) x (λ b. b) 0 e)) (first_low block_count (is_block v r k) x e))
    (λ e. subst (λ (y : ℕ). y < block_count) (sym (on_nothing (first block_count (is_block v r k)) (λ b. b) 0 e)) (omega arith))

-- so a part of it lies in the data area.
pub part_low : (v : View) (r k f n : ℕ) → f + n ≤ block_size → block_size * block_at v r k + f + n ≤ area_size
part_low v r k f n h = omega (arith, block_low v r k)

-- The same length again is the same book.
pub lengthened_same : (v : View) → Shape v → Placed v → (r : ℕ) → Live v r → code_of v r ≡ segment_code → lengthened r (len_of v r) v ≡ v
unfolding lengthened blocks_added
lengthened_same v shape p r a c =
    ap (λ (m : ℕ). put_t len_t r (len_of v r) (blocks_added r (blocks_of (len_of v r)) m (blocks_dropped r (blocks_of (len_of v r)) v)))
    (let z : blocks_of (len_of v r) - blocks_of (len_of v r) ≡ 0 = omega arith in z)
    ∙ ap (put_t len_t r (len_of v r)) (dropped_same r (blocks_of (len_of v r)) (blocks_of (len_of v r)) v (held v r p a c) (omega arith) (shape.long owner_t))
    ∙ ap (λ (l : List ℕ). on_tab len_t (λ x. l) v) (set-get_or v.len r 0)

module _ (v : View) (p : Placed v) (r : ℕ) (a : Live v r) (c : code_of v r ≡ segment_code) (k f : ℕ) where
  -- Byte 64 k + f + i of the segment lies i bytes on.
  pub part_place : (n : ℕ) → f + n ≤ block_size → (i : ℕ) → i < n → place_of v r (block_size * k + f + i) ≡ block_size * block_at v r k + f + i
  unfolding place_of
  part_place n h i l =
      let e : (block_size * k + f + i) / block_size ≡ k = omega arith in
      omega (arith, ap (block_at v r) e)

  -- A read hands out that part of the area itself.
  pub read_part : (area : List ℕ) → length area ≡ area_size → (n : ℕ) → f + n ≤ block_size → block_size * k + f + n ≤ len_of v r
      → take n (drop (block_size * k + f) (bytes_of v area r)) ≡ take n (drop (block_size * block_at v r k + f) area)
  read_part area long n h g =
      let q = part_low v r k f n h in
      let s : length (take n (drop (block_size * k + f) (bytes_of v area r))) ≡ n =
      length-take-le n (drop (block_size * k + f) (bytes_of v area r)) (omega (arith, length-drop (block_size * k + f) (bytes_of v area r), bytes_length v area r)) in
      let t : length (take n (drop (block_size * block_at v r k + f) area)) ≡ n =
      length-take-le n (drop (block_size * block_at v r k + f) area) (omega (arith, length-drop (block_size * block_at v r k + f) area)) in
      ext_get_or 0 (take n (drop (block_size * k + f) (bytes_of v area r))) (take n (drop (block_size * block_at v r k + f) area)) (s ∙ sym t)
      (λ i m. let l : i < n = omega arith in
      get_or-take n (drop (block_size * k + f) (bytes_of v area r)) i 0 l
      ∙ get_or-drop (block_size * k + f) (bytes_of v area r) i 0
      ∙ byte_of v area r (block_size * k + f + i) (omega arith)
      ∙ ap (λ (x : ℕ). get_or area x 0) (part_place n h i l)
      ∙ sym (get_or-take n (drop (block_size * block_at v r k + f) area) i 0 l ∙ get_or-drop (block_size * block_at v r k + f) area i 0))

  module _ (area b : List ℕ) (long : length area ≡ area_size) (one : f + length b ≤ block_size) (fits : block_size * k + f + length b ≤ len_of v r) where
    room : block_size * k + f + length b ≤ length (bytes_of v area r)
    room = omega (arith, bytes_length v area r)

    low : block_size * block_at v r k + f + length b ≤ length area
    low = omega (arith, part_low v r k f (length b) one)

    -- a byte that is written is that byte of the segment
    reached : (j : ℕ) → block_size * block_at v r k + f ≤ j → j < block_size * block_at v r k + f + length b
        → (owner_of v (j / block_size) ≡ r + 1) × (spot v j ≡ block_size * k + f + (j - (block_size * block_at v r k + f)))
    reached j h g =
        let x : j / block_size ≡ block_at v r k = omega arith in
        let l : k < blocks_of (len_of v r) = omega arith in
        let i = ap (index_of v) x ∙ at_index v r (blocks_of (len_of v r)) (held v r p a c) k l in
        (ap (owner_of v) x ∙ at_owner v r (blocks_of (len_of v r)) (held v r p a c) k l, omega arith)

    written_long : length (overwrite (block_size * k + f) b (bytes_of v area r)) ≡ len_of v r
    written_long = overwrite_length (block_size * k + f) b (bytes_of v area r) room ∙ bytes_length v area r

    hit : (j : ℕ) → block_size * block_at v r k + f ≤ j → j < block_size * block_at v r k + f + length b
        → get_or (sets area (block_size * block_at v r k + f) b) j 0 ≡ get_or b (j - (block_size * block_at v r k + f)) 0
    hit j h g = ap (λ (l : List ℕ). get_or l j 0) (sets_over (block_size * block_at v r k + f) b area low) ∙ over_in (block_size * block_at v r k + f) b area low j h g

    miss : (j : ℕ) → (block_size * block_at v r k + f ≤ j → j < block_size * block_at v r k + f + length b → ⊥)
        → get_or (sets area (block_size * block_at v r k + f) b) j 0 ≡ get_or area j 0
    miss j n = ap (λ (l : List ℕ). get_or l j 0) (sets_over (block_size * block_at v r k + f) b area low) ∙ over_out (block_size * block_at v r k + f) b area low j n

    -- a byte of the segment that is written
    inside : (j : ℕ) → j < area_size → owner_of v (j / block_size) ≡ r + 1 → block_size * k + f ≤ spot v j → spot v j < block_size * k + f + length b
        → get_or (sets area (block_size * block_at v r k + f) b) j 0 ≡ get_or (overwrite (block_size * k + f) b (bytes_of v area r)) (spot v j) 0
    inside j l o h g =
        let e : index_of v (j / block_size) ≡ k = omega arith in
        let x : block_at v r k ≡ j / block_size = sym (ap (block_at v r) e) ∙ held_at v r (blocks_of (len_of v r)) (held v r p a c) (j / block_size) (omega arith) o in
        hit j (omega arith) (omega arith)
        ∙ ap (λ (y : ℕ). get_or b y 0) (let z : j - (block_size * block_at v r k + f) ≡ spot v j - (block_size * k + f) = omega arith in z)
        ∙ sym (over_in (block_size * k + f) b (bytes_of v area r) room (spot v j) h g)

    -- one that is not
    outside : (j : ℕ) → j < area_size → owner_of v (j / block_size) ≡ r + 1 → spot v j < len_of v r → (block_size * k + f ≤ spot v j → spot v j < block_size * k + f + length b → ⊥)
        → get_or (sets area (block_size * block_at v r k + f) b) j 0 ≡ get_or (overwrite (block_size * k + f) b (bytes_of v area r)) (spot v j) 0
    outside j l o h n =
        miss j (λ x y. let (q, s) = reached j x y in n (omega arith) (omega arith))
        ∙ sym (over_out (block_size * k + f) b (bytes_of v area r) room (spot v j) n
        ∙ byte_of v area r (spot v j) h
        ∙ ap (λ (y : ℕ). get_or area y 0) (place_back v r (blocks_of (len_of v r)) (held v r p a c) j l o))

    each : (j : ℕ) → j < area_size → get_or (sets area (block_size * block_at v r k + f) b) j 0 ≡ byte_after v v r (overwrite (block_size * k + f) b (bytes_of v area r)) area j
    each j l = elim (ℕ_discrete (owner_of v (j / block_size)) (r + 1)) [
      | yes o ↦ bool_cases (ltb (spot v j) (len_of v r))
          (λ t. let h = ltb-true (spot v j) (len_of v r) t in
          bool_cases (leb (block_size * k + f) (spot v j) && ltb (spot v j) (block_size * k + f + length b))
          (λ s. inside j l o (leb-true (block_size * k + f) (spot v j) (and_l (leb (block_size * k + f) (spot v j)) (ltb (spot v j) (block_size * k + f + length b)) s))
          (ltb-true (spot v j) (block_size * k + f + length b) (and_r (leb (block_size * k + f) (spot v j)) (ltb (spot v j) (block_size * k + f + length b)) s)))
          (λ s. outside j l o h (λ x y. not_written j s x y))
          ∙ sym (byte_mine v v r (overwrite (block_size * k + f) b (bytes_of v area r)) area j o (omega (arith, written_long))))
          (λ t. let h = ltb-false (spot v j) (len_of v r) t in
          miss j (λ x y. let (q, s) = reached j x y in omega arith)
          ∙ sym (byte_stays v v r (overwrite (block_size * k + f) b (bytes_of v area r)) area j o (omega (arith, written_long)) o h))
      | no o ↦ miss j (λ x y. o (reached j x y).0) ∙ sym (byte_else v v r (overwrite (block_size * k + f) b (bytes_of v area r)) area j o o)
    ]
      where
        not_written : (j : ℕ) → (leb (block_size * k + f) (spot v j) && ltb (spot v j) (block_size * k + f + length b)) ≡ false
            → block_size * k + f ≤ spot v j → spot v j < block_size * k + f + length b → ⊥
        not_written j s x y =
            no_both (leb (block_size * k + f) (spot v j) && ltb (spot v j) (block_size * k + f + length b))
            (and_i (leb (block_size * k + f) (spot v j)) (ltb (spot v j) (block_size * k + f + length b)) (le-leb (block_size * k + f) (spot v j) x)
            (lt-ltb (spot v j) (block_size * k + f + length b) y)) s

    -- Bytes put into the area are what the change asks of it,
    pub write_same : sets area (block_size * block_at v r k + f) b ≡ area_after v v r (overwrite (block_size * k + f) b (bytes_of v area r)) area
    unfolding area_after
    write_same =
        sym (collect_is area_size (byte_after v v r (overwrite (block_size * k + f) b (bytes_of v area r)) area) (sets area (block_size * block_at v r k + f) b)
        (length-sets area (block_size * block_at v r k + f) b ∙ long) each)

    module _ (shape : Shape v) where
      pub write_area : sets area (block_size * block_at v r k + f) b ≡ area_after v (lengthened r (len_of v r) v) r (overwrite (block_size * k + f) b (bytes_of v area r)) area
      write_area =
          write_same ∙ sym (ap (λ (u : View). area_after v u r (overwrite (block_size * k + f) b (bytes_of v area r)) area) (lengthened_same v shape p r a c))

      length_same : lengthened r (length (overwrite (block_size * k + f) b (bytes_of v area r))) v ≡ v
      length_same = ap (λ (n : ℕ). lengthened r n v) written_long ∙ lengthened_same v shape p r a c

      -- and that is how the change is enacted.
      pub write_view : enact_view (alter (id_of v r) (rewrite (overwrite (block_size * k + f) b (bytes_of v area r)))) v area ≡ moved_on v
      unfolding enact_view altered_view
      write_view =
          on_at (row_of v (id_of v r)) r (λ s. moved_on (lengthened s (length (overwrite (block_size * k + f) b (bytes_of v area r))) v)) (moved_on v) (row_found v p r a)
          ∙ ap moved_on length_same

      pub write_enacted : enact_area (alter (id_of v r) (rewrite (overwrite (block_size * k + f) b (bytes_of v area r)))) v area ≡ sets area (block_size * block_at v r k + f) b
      unfolding enact_area altered_area
      write_enacted =
          on_at (row_of v (id_of v r)) r
          (λ s. area_after v (lengthened s (length (overwrite (block_size * k + f) b (bytes_of v area r))) v) s (overwrite (block_size * k + f) b (bytes_of v area r)) area) area
          (row_found v p r a)
          ∙ ap (λ (u : View). area_after v u r (overwrite (block_size * k + f) b (bytes_of v area r)) area) length_same
          ∙ sym write_same
