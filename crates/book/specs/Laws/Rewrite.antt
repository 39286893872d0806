-- A segment's bytes are rewritten, its length with them: the world of the changed book is the change applied to the world.
use Rattle.std.specs.Prelude.{ℕ, ◌+◌, ◌*◌, ◌-◌, ◌/◌, ◌%◌, ◌<◌, ◌≤◌, ◌≡◌, List, length, eqb}
use Rattle.std.proofs.Math.Decide.{ℕ_discrete}
use Rattle.std.proofs.Math.Numerals.{add-one}
use native.Mathlib.Omega.{arith}
use Rattle.std.proofs.Math.Path.{refl, sym, ap}
use Rattle.std.proofs.Common.{◌∙◌, subst, get_or-set_same, get_or-set_other}
use Rattle.std.proofs.Math.ListN.{get_or}
use borrow.Author.Tests.{eqb-true, eqb-false, eq-eqb, ne_eqb, lt-ltb, le-ltb, le-leb, lt-leb}
use Rattle.quotas.specs.Any.{both}
use Rattle.rules.specs.Kernel.{segment_code, block_size, rewrite, alter, edit, put, apply}
use Rattle.rules.proofs.Laws.Bools.{bool_cases}
use Rattle.rules.proofs.Laws.Put.{put_same, put_other}
use Rattle.tables.specs.Layout.{View, row_count, block_count, next_t, len_t, owner_t, index_t, on_tab}
use Rattle.rules.proofs.Laws.Worlds.{world_ext}
use Rattle.book.specs.Book.{next_of, id_of, code_of, len_of, owner_of, index_of, blocks_of, block_at, place_of, bytes_of, object_at, row_of, world_of}
use Rattle.book.specs.Sound.{Live, Used, Owned, times_held}
use Rattle.book.specs.Placed.{Placed}
use Rattle.book.specs.Shape.{Shape}
use Rattle.book.specs.Enact.{area_size, moved_on, lengthened, byte_after, area_after}
use Rattle.book.specs.Laws.First.{found_cases, collect_at, collect_is}
use Rattle.book.specs.Laws.Tie.{same_row, row_is, row_none, object_bytes, object_no_bytes, bytes_length, obj_found, obj_missing, obj_at}
use Rattle.book.specs.Laws.Room.{free_blocks}
use Rattle.book.specs.Laws.Shapes.{on_shape, put_shape}
use Rattle.book.specs.Laws.Blocks.{Held, positive, held, held_once, held_at, at_low, at_owner, at_index, place_low, place_block, place_rest}
use Rattle.book.specs.Laws.Lengthened.{reblocked, relong, lengthened_is, lengthened_owner_long, lengthened_index_long, lengthened_held, Others, lengthened_others}

-- ---- a byte of the area

-- which byte of its segment byte j of the area is
abbrev pub spot : View → ℕ → ℕ
spot u j = block_size * index_of u (j / block_size) + j % block_size

module _ (v u : View) (r : ℕ) (b area : List ℕ) (j : ℕ) where
  -- A byte within b is b's,
  pub byte_mine : owner_of u (j / block_size) ≡ r + 1 → spot u j < length b → byte_after v u r b area j ≡ get_or b (spot u j) 0
  unfolding byte_after
  byte_mine o h = rw (eq-eqb (owner_of u (j / block_size)) (r + 1) o, lt-ltb (spot u j) (length b) h)

  -- beyond it one of an old block beyond the old length stays,
  pub byte_stays : owner_of u (j / block_size) ≡ r + 1 → length b ≤ spot u j → owner_of v (j / block_size) ≡ r + 1 → len_of v r ≤ spot u j → byte_after v u r b area j ≡ get_or area j 0
  unfolding byte_after both
  byte_stays o h q g =
      rw (eq-eqb (owner_of u (j / block_size)) (r + 1) o, le-ltb (spot u j) (length b) h, eq-eqb (owner_of v (j / block_size)) (r + 1) q, le-leb (len_of v r) (spot u j) g)

  -- one within the old length is 0,
  pub byte_freed : owner_of u (j / block_size) ≡ r + 1 → length b ≤ spot u j → owner_of v (j / block_size) ≡ r + 1 → spot u j < len_of v r → byte_after v u r b area j ≡ 0
  unfolding byte_after both
  byte_freed o h q g =
      rw (eq-eqb (owner_of u (j / block_size)) (r + 1) o, le-ltb (spot u j) (length b) h, eq-eqb (owner_of v (j / block_size)) (r + 1) q, lt-leb (len_of v r) (spot u j) g)

  -- and so is one of a new block.
  pub byte_new : owner_of u (j / block_size) ≡ r + 1 → length b ≤ spot u j → (owner_of v (j / block_size) ≡ r + 1 → ⊥) → byte_after v u r b area j ≡ 0
  unfolding byte_after both
  byte_new o h q = rw (eq-eqb (owner_of u (j / block_size)) (r + 1) o, le-ltb (spot u j) (length b) h, ne_eqb (owner_of v (j / block_size)) (r + 1) q)

  -- A byte of a freed block is 0,
  pub byte_gone : (owner_of u (j / block_size) ≡ r + 1 → ⊥) → owner_of v (j / block_size) ≡ r + 1 → byte_after v u r b area j ≡ 0
  unfolding byte_after
  byte_gone o q = rw (ne_eqb (owner_of u (j / block_size)) (r + 1) o, eq-eqb (owner_of v (j / block_size)) (r + 1) q)

  -- and one of a block that is not row r's stays.
  pub byte_else : (owner_of u (j / block_size) ≡ r + 1 → ⊥) → (owner_of v (j / block_size) ≡ r + 1 → ⊥) → byte_after v u r b area j ≡ get_or area j 0
  unfolding byte_after
  byte_else o q = rw (ne_eqb (owner_of u (j / block_size)) (r + 1) o, ne_eqb (owner_of v (j / block_size)) (r + 1) q)

  pub after_at : j < area_size → get_or (area_after v u r b area) j 0 ≡ byte_after v u r b area j
  unfolding area_after
  after_at l = collect_at area_size (byte_after v u r b area) j l

-- ---- bytes

-- row r is a segment, has the blocks of n bytes by u, and every other row has its own
pub record Rewritten (v u : View) (r n : ℕ) : Type 0 where
  pub live : Live v r
  pub segment : code_of v r ≡ segment_code
  pub own : Held u r (blocks_of n)
  pub others : Others v u r
  pub len_own : len_of u r ≡ n
  pub len_other : (s : ℕ) → (s ≡ r → ⊥) → len_of u s ≡ len_of v s

-- byte i of a segment
pub byte_of : (v : View) (area : List ℕ) (s i : ℕ) → i < len_of v s → get_or (bytes_of v area s) i 0 ≡ get_or area (place_of v s i) 0
unfolding bytes_of
byte_of v area s i l = collect_at (len_of v s) (λ i. get_or area (place_of v s i) 0) i l

module _ (v u : View) (r n : ℕ) (x : Rewritten v u r n) where
  held_other : (s m : ℕ) → (s ≡ r → ⊥) → Held v s m → Held u s m
  held_other s m ne h =
      record {
        has = λ k l. let (y, g, o, i) = h.has k l in let (a, b) = x.others.to s y ne g o in (y, g, a, b ∙ i);
        once = λ y z g l o q e.
            let o₁ = x.others.back s y ne g o in
            let q₁ = x.others.back s z ne l q in
            h.once y z g l o₁ q₁ (sym (x.others.to s y ne g o₁).1 ∙ e ∙ (x.others.to s z ne l q₁).1);
        within = λ y g o. let o₁ = x.others.back s y ne g o in omega (arith, (x.others.to s y ne g o₁).1, h.within y g o₁);
      }

  module _ (area b : List ℕ) where
    own_at : length b ≡ n → (i : ℕ) → i < n → get_or (area_after v u r b area) (place_of u r i) 0 ≡ get_or b i 0
    own_at e i l =
        let k : i / block_size < blocks_of n = omega arith in
        let p = place_block u r (blocks_of n) x.own i in
        let q = place_rest u r (blocks_of n) x.own i in
        let o = ap (owner_of u) p ∙ at_owner u r (blocks_of n) x.own (i / block_size) k in
        let d = ap (index_of u) p ∙ at_index u r (blocks_of n) x.own (i / block_size) k in
        let s : spot u (place_of u r i) ≡ i = omega arith in
        after_at v u r b area (place_of u r i) (place_low u r (blocks_of n) x.own i k)
        ∙ byte_mine v u r b area (place_of u r i) o (omega arith)
        ∙ ap (λ (y : ℕ). get_or b y 0) s

    -- The segment has the new bytes,
    pub bytes_own : length b ≡ n → bytes_of u (area_after v u r b area) r ≡ b
    unfolding bytes_of
    bytes_own e =
        collect_is (len_of u r) (λ i. get_or (area_after v u r b area) (place_of u r i) 0) b (e ∙ sym x.len_own) (λ i l. sym (own_at e i (omega (arith, x.len_own))))

    -- and every other keeps its own: its blocks are others.
    same_place : (s : ℕ) → (s ≡ r → ⊥) → (m : ℕ) → Held v s m → (i : ℕ) → i / block_size < m → place_of u s i ≡ place_of v s i
    unfolding place_of
    same_place s ne m h i k =
        let y = block_at v s (i / block_size) in
        let g = at_low v s m h (i / block_size) k in
        let (o, d) = x.others.to s y ne g (at_owner v s m h (i / block_size) k) in
        let z = d ∙ at_index v s m h (i / block_size) k in
        ap (λ (t : ℕ). block_size * t + i % block_size) (sym (ap (block_at u s) z) ∙ held_at u s m (held_other s m ne h) y g o)

    other_at : (s : ℕ) → (s ≡ r → ⊥) → (m : ℕ) → Held v s m → (i : ℕ) → i / block_size < m → get_or (area_after v u r b area) (place_of v s i) 0 ≡ get_or area (place_of v s i) 0
    other_at s ne m h i k =
        let p = place_block v s m h i in
        let o = ap (owner_of v) p ∙ at_owner v s m h (i / block_size) k in
        let w = place_low v s m h i k in
        let (q, d) = x.others.to s (place_of v s i / block_size) ne (omega arith) o in
        after_at v u r b area (place_of v s i) w
        ∙ byte_else v u r b area (place_of v s i) (λ z. ne (omega arith)) (λ z. ne (omega arith))

    pub bytes_other : (s m : ℕ) → (s ≡ r → ⊥) → Held v s m → len_of v s ≤ block_size * m → bytes_of u (area_after v u r b area) s ≡ bytes_of v area s
    unfolding bytes_of
    bytes_other s m ne h le =
        collect_is (len_of u s) (λ i. get_or (area_after v u r b area) (place_of u s i) 0) (bytes_of v area s) (bytes_length v area s ∙ sym (x.len_other s ne))
        (λ i l.
        let g : i < len_of v s = omega (arith, x.len_other s ne) in
        let k : i / block_size < m = omega arith in
        byte_of v area s i g ∙ sym (other_at s ne m h i k) ∙ sym (ap (λ (q : ℕ). get_or (area_after v u r b area) q 0) (same_place s ne m h i k)))

-- ---- the world

moved_bytes : (u : View) (area : List ℕ) (r : ℕ) → bytes_of (moved_on u) area r ≡ bytes_of u area r
unfolding bytes_of place_of block_at moved_on
moved_bytes u area r = refl

moved_row : (r n : ℕ) (o i : List ℕ) (v : View) (q : ℕ) → row_of (moved_on (relong r n o i v)) q ≡ row_of v q
unfolding row_of moved_on
moved_row r n o i v q = refl

-- the object at a row of the changed book, by its bytes
edited_object : (r n : ℕ) (o i : List ℕ) (v : View) (area after b : List ℕ) (s : ℕ) → (object_at (moved_on (relong r n o i v)) after s).bytes ≡ b
    → object_at (moved_on (relong r n o i v)) after s ≡ edit (rewrite b) (object_at v area s)
unfolding object_at moved_on edit
edited_object r n o i v area after b s e = ap (λ (t : List ℕ). edit (rewrite t) (object_at v area s)) e

same_object : (r n : ℕ) (o i : List ℕ) (v : View) (area after : List ℕ) (s : ℕ) → (object_at (moved_on (relong r n o i v)) after s).bytes ≡ (object_at v area s).bytes
    → object_at (moved_on (relong r n o i v)) after s ≡ object_at v area s
unfolding edit
same_object r n o i v area after s e = edited_object r n o i v area after (object_at v area s).bytes s e

module _ (r n : ℕ) (o i : List ℕ) (v : View) (area b : List ℕ) (p : Placed v) (x : Rewritten v (relong r n o i v) r n) (e : length b ≡ n) where
  same_code : (s : ℕ) → code_of (moved_on (relong r n o i v)) s ≡ code_of v s
  unfolding moved_on
  same_code s = refl

  own_object : object_at (moved_on (relong r n o i v)) (area_after v (relong r n o i v) r b area) r ≡ edit (rewrite b) (object_at v area r)
  own_object =
      edited_object r n o i v area (area_after v (relong r n o i v) r b area) b r
      (object_bytes (moved_on (relong r n o i v)) (area_after v (relong r n o i v) r b area) r (same_code r ∙ x.segment)
      ∙ moved_bytes (relong r n o i v) (area_after v (relong r n o i v) r b area) r
      ∙ bytes_own v (relong r n o i v) r n x area b e)

  other_object : (s : ℕ) → Live v s → (s ≡ r → ⊥) → object_at (moved_on (relong r n o i v)) (area_after v (relong r n o i v) r b area) s ≡ object_at v area s
  other_object s a ne =
      same_object r n o i v area (area_after v (relong r n o i v) r b area) s (bool_cases (eqb (code_of v s) segment_code)
      (λ t. let c = eqb-true (code_of v s) segment_code t in
      object_bytes (moved_on (relong r n o i v)) (area_after v (relong r n o i v) r b area) s (same_code s ∙ c)
      ∙ moved_bytes (relong r n o i v) (area_after v (relong r n o i v) r b area) s
      ∙ bytes_other v (relong r n o i v) r n x area b s (blocks_of (len_of v s)) ne (held v s p a c) (omega arith)
      ∙ sym (object_bytes v area s c))
      (λ t. let c = eqb-false (code_of v s) segment_code t in
      object_no_bytes (moved_on (relong r n o i v)) (area_after v (relong r n o i v) r b area) s (λ z. c (sym (same_code s) ∙ z))
      ∙ sym (object_no_bytes v area s c)))

  objects : (q : ℕ) → (world_of (moved_on (relong r n o i v)) (area_after v (relong r n o i v) r b area)).obj q
      ≡ put (id_of v r) (edit (rewrite b) ((world_of v area).obj (id_of v r))) (world_of v area).obj q
  objects q = found_cases (row_of v q)
      (λ s f. let (a, d) = row_is v q s f in
      obj_found (moved_on (relong r n o i v)) (area_after v (relong r n o i v) r b area) q s (moved_row r n o i v q ∙ f)
      ∙ elim (ℕ_discrete s r) [
        | yes z ↦ ap (object_at (moved_on (relong r n o i v)) (area_after v (relong r n o i v) r b area)) z
            ∙ own_object ∙ sym (ap (edit (rewrite b)) (obj_at v area p r x.live))
            ∙ sym (put_same (id_of v r) (edit (rewrite b) ((world_of v area).obj (id_of v r))) (world_of v area).obj q (sym d ∙ ap (id_of v) z))
        | no z ↦ other_object s a z ∙ sym (obj_found v area q s f)
            ∙ sym (put_other (id_of v r) (edit (rewrite b) ((world_of v area).obj (id_of v r))) (world_of v area).obj q
            (λ y. z (same_row v p s r a x.live (d ∙ y))))
      ])
      (λ f. obj_missing (moved_on (relong r n o i v)) (area_after v (relong r n o i v) r b area) q (moved_row r n o i v q ∙ f)
      ∙ sym (obj_missing v area q f)
      ∙ sym (put_other (id_of v r) (edit (rewrite b) ((world_of v area).obj (id_of v r))) (world_of v area).obj q (λ y. row_none v q f r x.live (sym y))))

  relong_world : length v.next ≡ 1 → world_of (moved_on (relong r n o i v)) (area_after v (relong r n o i v) r b area) ≡ apply (alter (id_of v r) (rewrite b)) (world_of v area)
  relong_world long =
      world_ext (world_of (moved_on (relong r n o i v)) (area_after v (relong r n o i v) r b area)) (apply (alter (id_of v r) (rewrite b)) (world_of v area))
      (unfold world_of in (unfold moved_on in (unfold apply in (get_or-set_same v.next 0 (next_of v + 1) 0 (omega arith) ∙ add-one (next_of v)))))
      (unfold world_of in (unfold moved_on in (unfold apply in refl)))
      (unfold apply in objects)
      (unfold world_of in (unfold moved_on in (unfold apply in (λ d q. refl))))

-- ---- what of a book's soundness its world cannot see

relong_placed : (r n : ℕ) (o i : List ℕ) (v : View) → Placed v → Rewritten v (relong r n o i v) r n → Placed (relong r n o i v)
relong_placed r n o i v p x =
    record {
      code_most = λ s a. p.code_most s (live s a);
      fixed_most = λ s a. p.fixed_most s (live s a);
      ids_apart = λ s t a c. p.ids_apart s t (live s a) (live t c);
      from_live = λ l a. let z = p.from_live l (record { low = a.low; used = a.used }) in record { low = z.low; used = z.used };
      to_live = λ l a. let z = p.to_live l (record { low = a.low; used = a.used }) in record { low = z.low; used = z.used };
      links_apart = λ l m a c. p.links_apart l m (record { low = a.low; used = a.used }) (record { low = c.low; used = c.used });
      owned = owned;
      blocks_once = once;
    }
  where
    live : (s : ℕ) → Live (relong r n o i v) s → Live v s
    live s a = record { low = a.low; used = a.used }

    owned : (y : ℕ) → Used (relong r n o i v) y → Owned (relong r n o i v) y
    owned y g =
        let s = owner_of (relong r n o i v) y - 1 in
        let e = positive (owner_of (relong r n o i v) y) g.used in
        elim (ℕ_discrete s r) [
          | yes z ↦ record {
            owner_low = subst (λ (t : ℕ). t < row_count) (sym z) x.live.low;
            owner_segment = ap (code_of v) z ∙ x.segment;
            within = subst (λ (m : ℕ). index_of (relong r n o i v) y < blocks_of m) (sym (ap (len_of (relong r n o i v)) z ∙ x.len_own))
                (x.own.within y g.low (e ∙ ap (λ (t : ℕ). t + 1) z));
          }
          | no z ↦
              let f = x.others.back s y z g.low e in
              let own : owner_of v y - 1 ≡ s = omega arith in
              let w = p.owned y (record { low = g.low; used = λ q. omega arith }) in
              record {
                owner_low = subst (λ (t : ℕ). t < row_count) own w.owner_low;
                owner_segment = sym (ap (code_of v) own) ∙ w.owner_segment;
                within = subst (λ (m : ℕ). index_of (relong r n o i v) y < blocks_of m) (ap (len_of v) own ∙ sym (x.len_other s z))
                    (subst (λ (k : ℕ). k < blocks_of (len_of v (owner_of v y - 1))) (sym (x.others.to s y z g.low f).1) w.within);
              }
        ]

    once : (s : ℕ) → Live (relong r n o i v) s → code_of (relong r n o i v) s ≡ segment_code → (k : ℕ) → k < blocks_of (len_of (relong r n o i v) s) → times_held (relong r n o i v) s k ≡ 1
    once s a e k l = elim (ℕ_discrete s r) [
      | yes z ↦ subst (λ (t : ℕ). times_held (relong r n o i v) t k ≡ 1) (sym z)
          (held_once (relong r n o i v) r (blocks_of n) x.own k (subst (λ (m : ℕ). k < blocks_of m) (ap (len_of (relong r n o i v)) z ∙ x.len_own) l))
      | no z ↦ held_once (relong r n o i v) s (blocks_of (len_of v s)) (held_other v (relong r n o i v) r n x s (blocks_of (len_of v s)) z (held v s p (live s a) e)) k
          (subst (λ (m : ℕ). k < blocks_of m) (x.len_other s z) l)
    ]

relong_shape : (r n : ℕ) (o i : List ℕ) (v : View) → length o ≡ block_count → length i ≡ block_count → Shape v → Shape (relong r n o i v)
relong_shape r n o i v lo li s =
    put_shape len_t r n (reblocked v o i) (on_shape index_t (λ l. i) (on_tab owner_t (λ l. o) v) (λ y e. li) (on_shape owner_t (λ l. o) v (λ y e. lo) s))

-- ---- said of the book whose segment was given another length

module _ (v : View) (shape : Shape v) (p : Placed v) (r : ℕ) (a : Live v r) (c : code_of v r ≡ segment_code) where
  -- row r is n bytes long
  pub lengthened_len : (n : ℕ) → len_of (lengthened r n v) r ≡ n
  lengthened_len n = ap (λ (u : View). len_of u r) (lengthened_is r n v) ∙ get_or-set_same v.len r n 0 (omega (arith, shape.long len_t, a.low))

  pub lengthened_rewritten : (n : ℕ) → blocks_of n ≤ blocks_of (len_of v r) + free_blocks v → Rewritten v (lengthened r n v) r n
  lengthened_rewritten n room =
      record {
        live = a;
        segment = c;
        own = lengthened_held r n v (shape.long owner_t) (shape.long index_t) (held v r p a c) room;
        others = lengthened_others r n v (shape.long index_t);
        len_own = lengthened_len n;
        len_other = λ s ne. ap (λ (u : View). len_of u s) (lengthened_is r n v) ∙ get_or-set_other v.len r s n 0 ne;
      }

  pub lengthened_shape : (n : ℕ) → Shape (lengthened r n v)
  lengthened_shape n =
      subst Shape (sym (lengthened_is r n v))
      (relong_shape r n (lengthened r n v).owner (lengthened r n v).index v (lengthened_owner_long r n v (shape.long owner_t) (shape.long index_t))
      (lengthened_index_long r n v (shape.long owner_t) (shape.long index_t)) shape)

  pub lengthened_placed : (n : ℕ) → blocks_of n ≤ blocks_of (len_of v r) + free_blocks v → Placed (lengthened r n v)
  lengthened_placed n room =
      subst Placed (sym (lengthened_is r n v))
      (relong_placed r n (lengthened r n v).owner (lengthened r n v).index v p
      (subst (λ (u : View). Rewritten v u r n) (lengthened_is r n v) (lengthened_rewritten n room)))

  -- The world of the book whose segment was given the bytes b is the world in which it was.
  pub rewritten_world : (area b : List ℕ) → blocks_of (length b) ≤ blocks_of (len_of v r) + free_blocks v
      → world_of (moved_on (lengthened r (length b) v)) (area_after v (lengthened r (length b) v) r b area) ≡ apply (alter (id_of v r) (rewrite b)) (world_of v area)
  rewritten_world area b room =
      subst (λ (u : View). world_of (moved_on u) (area_after v u r b area) ≡ apply (alter (id_of v r) (rewrite b)) (world_of v area)) (sym (lengthened_is r (length b) v))
      (relong_world r (length b) (lengthened r (length b) v).owner (lengthened r (length b) v).index v area b p
      (subst (λ (u : View). Rewritten v u r (length b)) (lengthened_is r (length b) v) (lengthened_rewritten (length b) room)) refl (shape.long next_t))
