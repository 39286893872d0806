-- Call 8 on the book: the world of what a cut leaves is the world cut.
use Prim.Native.Nat.{ℕ, suc, ◌+◌, ◌*◌, ◌-◌, ◌/◌, ◌%◌, ◌<◌}
use Rattle.std.proofs.Common.{add-one, arith, ◌∙◌, ap₂, subst, get_or-set_same, eqb-true, eq-eqb, ne_eqb}
use Rattle.std.specs.Prelude.{Bool, true, false, cond, ◌≡◌, refl, List, length, eqb, Option, Some}
use Rattle.std.proofs.lemmas.Bool.{false≢true}
use Rattle.std.proofs.Math.Path.{sym, ap}
use Rattle.std.proofs.Math.ListN.{get_or}
use Rattle.quotas.specs.Any.{both, both_parts}
use Rattle.quotas.specs.Sum.{when, sum_cong, sum_pos, when_pos}
use Rattle.rules.specs.Kernel.{segment_code, container_code, Obj, nothing, cut, stays, kept, apply, block_size}
use Rattle.rules.proofs.Laws.Bools.{bool_cases, not_both, same_by}
use Rattle.rules.proofs.Laws.Below.{stays_linked, stays_not_below, stays_kept, container_kept}
use Rattle.tables.specs.Layout.{View, row_count, link_count, block_count, next_t, kind_t, link_from_t, owner_t}
use Rattle.rules.proofs.Laws.Worlds.{world_ext}
use Rattle.book.specs.Book.{next_of, root_of, id_of, code_of, fixed_of, len_of, mark_of, from_of, to_of, owner_of, index_of, blocks_of, first, on_found, is_block, block_at, place_of}
use Rattle.book.specs.Book.{collect, bytes_of, kind_from, object_at, row_of, world_of, of_kind, standing}
use Rattle.book.specs.Sound.{Live, On, Used, Owned, Sound, times_held}
use Rattle.book.specs.Placed.{Placed}
use Rattle.book.specs.Shape.{Shape}
use Rattle.book.specs.Enact.{moved_on, cut_view, cut_area, area_size}
use Rattle.book.specs.Laws.First.{found_cases, on_at, first_some, first_hit, first_low, first_cong, collect_length, collect_at, collect_cong}
use Rattle.book.specs.Laws.Cleared.{if_true, if_false}
use Rattle.book.specs.Laws.Codes.{segment_from}
use Rattle.book.specs.Laws.Tie.{row_is, row_none, obj_found, obj_missing, obj_none, obj_at, container_at, linked_at, linked_is, world_next, world_root}
use Rattle.book.specs.Laws.WorldSound.{placed, world_sound}
use Rattle.book.specs.Laws.Shapes.{on_shape, put_shape}

-- ---- a number that stays where a test holds, and else is 0

pub left_true : (t : Bool) (x y : ℕ) → y ≡ cond t x 0 → t ≡ true → y ≡ x
left_true true x y e h = e
left_true false x y e h = absurd (false≢true h)

pub left_some : (t : Bool) (x y : ℕ) → y ≡ cond t x 0 → (y ≡ 0 → ⊥) → t ≡ true
left_some true x y e n = refl
left_some false x y e n = absurd (n e)

picked : (a b : Bool) (x : ℕ) → a ≡ false → b ≡ true → cond a x (cond b x 0) ≡ x
picked a b x p q = rw (p, q)

-- ---- blocks and places

block_there : (v : View) (r n : ℕ) → times_held v r n ≡ 1 → (m : ℕ) × (first block_count (is_block v r n) ≡ Some m)
unfolding times_held
block_there v r n e =
    let (b, low, q) = sum_pos block_count (λ b. when (is_block v r n b) 1) (omega arith) in
    first_some block_count (is_block v r n) b low (when_pos (is_block v r n b) 1 q).0

block_found : (v : View) (r n m : ℕ) → first block_count (is_block v r n) ≡ Some m → block_at v r n ≡ m
unfolding block_at
block_found v r n m e = on_at (first block_count (is_block v r n)) m (λ b. b) 0 e

block_cong : (u v : View) (r n : ℕ) → ((b : ℕ) → b < block_count → is_block u r n b ≡ is_block v r n b) → block_at u r n ≡ block_at v r n
unfolding block_at
block_cong u v r n h = ap (λ (x : Option ℕ). on_found x (λ b. b) 0) (first_cong block_count (is_block u r n) (is_block v r n) h)

place_in : (v : View) (r i m : ℕ) → block_at v r (i / block_size) ≡ m → place_of v r i ≡ block_size * m + i % block_size
unfolding place_of
place_in v r i m e = ap (λ (x : ℕ). block_size * x + i % block_size) e

-- ---- what a cut leaves, place by place

-- the object at row r, were its code c and its bytes x
unfoldable pub object_with : View → ℕ → ℕ → List ℕ → Obj
object_with v r c x = of_kind (standing v r (kind_from c) x)

object_with_lem : (v : View) (area : List ℕ) (r : ℕ) → object_at v area r ≡ object_with v r (code_of v r) (bytes_of v area r)
unfolding object_at object_with
object_with_lem v area r = refl

-- bytes count at segments only
with_bytes : (v : View) (r c : ℕ) (x y : List ℕ) → (c ≡ segment_code → x ≡ y) → object_with v r c x ≡ object_with v r c y
with_bytes v r c x y h =
    bool_cases (eqb c segment_code)
    (λ t. ap (object_with v r c) (h (eqb-true c segment_code t)))
    (λ t. unfold object_with in (rw (segment_from c ∙ t)))

pub record Left (v : View) (area : List ℕ) (d o : ℕ) (u : View) : Type 0 where
  pub code : (r : ℕ) → r < row_count → code_of u r ≡ cond (kept (world_of v area) d o (id_of v r)) (code_of v r) 0
  pub mark : (l : ℕ) → l < link_count → mark_of u l ≡ cond (stays (world_of v area) d o (id_of v (from_of v l)) (id_of v (to_of v l))) (mark_of v l) 0
  pub owner : (b : ℕ) → b < block_count → owner_of u b ≡ cond (kept (world_of v area) d o (id_of v (owner_of v b - 1))) (owner_of v b) 0
  pub id : (r : ℕ) → id_of u r ≡ id_of v r
  pub fixed : (r : ℕ) → fixed_of u r ≡ fixed_of v r
  pub len : (r : ℕ) → len_of u r ≡ len_of v r
  pub to : (l : ℕ) → to_of u l ≡ to_of v l
  pub index : (b : ℕ) → index_of u b ≡ index_of v b
  pub object : (r c : ℕ) (x : List ℕ) → object_with u r c x ≡ object_with v r c x

pub record LeftBytes (v : View) (area : List ℕ) (d o : ℕ) (left : List ℕ) : Type 0 where
  pub byte : (j : ℕ) → j < area_size → get_or left j 0
      ≡ cond (eqb (owner_of v (j / block_size)) 0) (get_or area j 0) (cond (kept (world_of v area) d o (id_of v (owner_of v (j / block_size) - 1))) (get_or area j 0) 0)

pub cut_left : (v : View) (area : List ℕ) (d o : ℕ) → Left v area d o (moved_on (cut_view d o v area))
unfolding cut_view moved_on object_with
cut_left v area d o =
    record {
      code = λ r h. collect_at row_count (λ i. cond (kept (world_of v area) d o (id_of v i)) (code_of v i) 0) r h;
      mark = λ l h. collect_at link_count (λ i. cond (stays (world_of v area) d o (id_of v (from_of v i)) (id_of v (to_of v i))) (mark_of v i) 0) l h;
      owner = λ b h. collect_at block_count (λ i. cond (kept (world_of v area) d o (id_of v (owner_of v i - 1))) (owner_of v i) 0) b h;
      id = λ r. refl;
      fixed = λ r. refl;
      len = λ r. refl;
      to = λ l. refl;
      index = λ b. refl;
      object = λ r c x. refl;
    }

pub cut_left_bytes : (v : View) (area : List ℕ) (d o : ℕ) → LeftBytes v area d o (cut_area d o v area)
unfolding cut_area
cut_left_bytes v area d o = record { byte = λ j h. collect_at area_size _ j h }

module _ (v : View) (area : List ℕ) (shape : Shape v) (s : Sound v) (d o : ℕ) (u : View) (f : Left v area d o u) where
  -- ---- rows

  row_kept : (r : ℕ) → Live u r → kept (world_of v area) d o (id_of v r) ≡ true
  row_kept r a = left_some (kept (world_of v area) d o (id_of v r)) (code_of v r) (code_of u r) (f.code r a.low) a.used

  row_code : (r : ℕ) → Live u r → code_of u r ≡ code_of v r
  row_code r a = left_true (kept (world_of v area) d o (id_of v r)) (code_of v r) (code_of u r) (f.code r a.low) (row_kept r a)

  row_was : (r : ℕ) → Live u r → Live v r
  row_was r a = record { low = a.low; used = λ z. a.used (row_code r a ∙ z) }

  row_stays : (r : ℕ) → Live v r → kept (world_of v area) d o (id_of v r) ≡ true → Live u r
  row_stays r a k =
      record { low = a.low; used = λ z. a.used (sym (left_true (kept (world_of v area) d o (id_of v r)) (code_of v r) (code_of u r) (f.code r a.low) k) ∙ z) }

  -- ---- links

  link_kept : (l : ℕ) → On u l → stays (world_of v area) d o (id_of v (from_of v l)) (id_of v (to_of v l)) ≡ true
  link_kept l a =
      left_some (stays (world_of v area) d o (id_of v (from_of v l)) (id_of v (to_of v l))) (mark_of v l) (mark_of u l) (f.mark l a.low) a.used

  link_mark : (l : ℕ) → l < link_count → stays (world_of v area) d o (id_of v (from_of v l)) (id_of v (to_of v l)) ≡ true → mark_of u l ≡ mark_of v l
  link_mark l h k = left_true (stays (world_of v area) d o (id_of v (from_of v l)) (id_of v (to_of v l))) (mark_of v l) (mark_of u l) (f.mark l h) k

  link_from_lem : (l : ℕ) → On u l → from_of u l ≡ from_of v l
  link_from_lem l a = ap (λ (n : ℕ). n - 1) (link_mark l a.low (link_kept l a))

  link_was : (l : ℕ) → On u l → On v l
  link_was l a = record { low = a.low; used = λ z. a.used (link_mark l a.low (link_kept l a) ∙ z) }

  link_on : (l : ℕ) → On v l → stays (world_of v area) d o (id_of v (from_of v l)) (id_of v (to_of v l)) ≡ true → On u l
  link_on l a k = record { low = a.low; used = λ z. a.used (sym (link_mark l a.low k) ∙ z) }

  -- ---- blocks

  block_kept : (b : ℕ) → Used u b → kept (world_of v area) d o (id_of v (owner_of v b - 1)) ≡ true
  block_kept b a =
      left_some (kept (world_of v area) d o (id_of v (owner_of v b - 1))) (owner_of v b) (owner_of u b) (f.owner b a.low) a.used

  block_owner : (b : ℕ) → b < block_count → kept (world_of v area) d o (id_of v (owner_of v b - 1)) ≡ true → owner_of u b ≡ owner_of v b
  block_owner b h k = left_true (kept (world_of v area) d o (id_of v (owner_of v b - 1))) (owner_of v b) (owner_of u b) (f.owner b h) k

  -- the blocks of a row that is kept are as they were
  block_same : (r k b : ℕ) → kept (world_of v area) d o (id_of v r) ≡ true → b < block_count → is_block u r k b ≡ is_block v r k b
  block_same r k b e h =
      ap₂ both
      (same_by (eqb (owner_of u b) (r + 1)) (eqb (owner_of v b) (r + 1))
      (λ t.
      let q = eqb-true (owner_of u b) (r + 1) t in
      let a : Used u b = record { low = h; used = λ z. omega arith } in
      eq-eqb (owner_of v b) (r + 1) (sym (block_owner b h (block_kept b a)) ∙ q))
      (λ t.
      let q = eqb-true (owner_of v b) (r + 1) t in
      let p : owner_of v b - 1 ≡ r = omega arith in
      eq-eqb (owner_of u b) (r + 1) (block_owner b h (ap (λ (i : ℕ). kept (world_of v area) d o (id_of v i)) p ∙ e) ∙ q)))
      (ap (λ (i : ℕ). eqb i k) (f.index b))

  -- ---- the positions

  end_kept : (l : ℕ) → On u l → Live u (to_of v l)
  end_kept l a =
      row_stays (to_of v l) ((placed v s).to_live l (link_was l a))
      (stays_kept (world_of v area) (world_sound v area shape s) d o (id_of v (from_of v l)) (id_of v (to_of v l)) (link_kept l a))

  start_kept : (l : ℕ) → On u l → Live u (from_of v l)
  start_kept l a =
      let p = placed v s in
      let on = link_was l a in
      let c = p.from_live l on in
      row_stays (from_of v l) c
      (container_kept (world_of v area) (world_sound v area shape s) d o (id_of v (from_of v l))
      (container_at v area p (from_of v l) c ∙ eq-eqb (code_of v (from_of v l)) container_code (s.ends l on).from_container)
      (stays_not_below (world_of v area) d o (id_of v (from_of v l)) (id_of v (to_of v l)) (link_kept l a)))

  block_owned : (b : ℕ) → Used u b → Owned u b
  block_owned b a =
      let e = block_owner b a.low (block_kept b a) in
      let w = s.owned b (record { low = a.low; used = λ z. a.used (e ∙ z) }) in
      let q : owner_of u b - 1 ≡ owner_of v b - 1 = ap (λ (n : ℕ). n - 1) e in
      let low : owner_of v b - 1 < row_count = w.owner_low in
      record {
        owner_low = omega arith;
        owner_segment =
            ap (code_of u) q
            ∙ left_true (kept (world_of v area) d o (id_of v (owner_of v b - 1))) (code_of v (owner_of v b - 1)) (code_of u (owner_of v b - 1)) (f.code (owner_of v b - 1) low) (block_kept b a)
            ∙ w.owner_segment;
        within = subst (λ (n : ℕ). n < blocks_of (len_of u (owner_of u b - 1))) (sym (f.index b))
            (subst (λ (n : ℕ). index_of v b < blocks_of n) (sym (ap (len_of u) q ∙ f.len (owner_of v b - 1))) w.within);
      }

  held_same : (r k : ℕ) → kept (world_of v area) d o (id_of v r) ≡ true → times_held u r k ≡ times_held v r k
  unfolding times_held
  held_same r k e =
      sum_cong block_count (λ b. when (is_block u r k b) 1) (λ b. when (is_block v r k b) 1) (λ b h. ap (λ (t : Bool). when t 1) (block_same r k b e h))

  -- What a cut leaves stands where it belongs.
  pub left_placed : Placed u
  left_placed =
      let p = placed v s in
      record {
        code_most = λ r a. omega (arith, p.code_most r (row_was r a), row_code r a);
        fixed_most = λ r a e. omega (arith, p.fixed_most r (row_was r a) (sym (row_code r a) ∙ e), f.fixed r);
        ids_apart = λ r i a b l e. p.ids_apart r i (row_was r a) (row_was i b) l (sym (f.id r) ∙ e ∙ f.id i);
        from_live = λ l a. subst (Live u) (sym (link_from_lem l a)) (start_kept l a);
        to_live = λ l a. subst (Live u) (sym (f.to l)) (end_kept l a);
        links_apart = λ l m a b h e g.
            p.links_apart l m (link_was l a) (link_was m b) h (sym (link_from_lem l a) ∙ e ∙ link_from_lem m b) (sym (f.to l) ∙ g ∙ f.to m);
        owned = block_owned;
        blocks_once = λ r a e k h.
            held_same r k (row_kept r a)
            ∙ p.blocks_once r (row_was r a) (sym (row_code r a) ∙ e) k (subst (λ (n : ℕ). k < blocks_of n) (f.len r) h);
      }

  -- ---- links of the world

  left_linked : (left : List ℕ) (e p : ℕ) → (world_of u left).linked e p ≡ stays (world_of v area) d o e p
  left_linked left e p = same_by ((world_of u left).linked e p) (stays (world_of v area) d o e p)
      (λ t.
      let (l, a, x, y) = linked_is u left e p t in
      let i : id_of v (from_of v l) ≡ e = ap (id_of v) (sym (link_from_lem l a)) ∙ sym (f.id (from_of u l)) ∙ x in
      let j : id_of v (to_of v l) ≡ p = ap (id_of v) (sym (f.to l)) ∙ sym (f.id (to_of u l)) ∙ y in
      ap₂ (stays (world_of v area) d o) (sym i) (sym j) ∙ link_kept l a)
      (λ t.
      let (l, a, x, y) = linked_is v area e p (stays_linked (world_of v area) d o e p t) in
      let b = link_on l a (ap₂ (stays (world_of v area) d o) x y ∙ t) in
      ap₂ (world_of u left).linked (sym (f.id (from_of u l) ∙ ap (id_of v) (link_from_lem l b) ∙ x)) (sym (f.id (to_of u l) ∙ ap (id_of v) (f.to l) ∙ y)) ∙ linked_at u left l b)

  -- ---- objects of the world

  module _ (left : List ℕ) (g : LeftBytes v area d o left) where
    -- a byte in a block of a row that is kept
    place_same : (r m x : ℕ) → owner_of v m ≡ r + 1 → m < block_count → x < block_size → kept (world_of v area) d o (id_of v r) ≡ true
        → get_or left (block_size * m + x) 0 ≡ get_or area (block_size * m + x) 0
    place_same r m x e l h k =
        let q : (block_size * m + x) / block_size ≡ m = omega arith in
        let w : owner_of v ((block_size * m + x) / block_size) ≡ r + 1 = ap (owner_of v) q ∙ e in
        let z : owner_of v ((block_size * m + x) / block_size) - 1 ≡ r = omega arith in
        g.byte (block_size * m + x) (omega arith)
        ∙ picked (eqb (owner_of v ((block_size * m + x) / block_size)) 0) (kept (world_of v area) d o (id_of v (owner_of v ((block_size * m + x) / block_size) - 1)))
        (get_or area (block_size * m + x) 0)
        (ne_eqb (owner_of v ((block_size * m + x) / block_size)) 0 (λ y. omega arith))
        (ap (λ (i : ℕ). kept (world_of v area) d o (id_of v i)) z ∙ k)

    -- a byte of a segment that is kept
    byte_same : (r i : ℕ) → Live v r → code_of v r ≡ segment_code → kept (world_of v area) d o (id_of v r) ≡ true → i < len_of v r
        → get_or left (place_of u r i) 0 ≡ get_or area (place_of v r i) 0
    byte_same r i a c k h =
        let n = i / block_size in
        let small : n < blocks_of (len_of v r) = omega arith in
        let (m, e) = block_there v r n (s.blocks_once r a c n small) in
        let found = block_found v r n m e in
        let moved = block_cong u v r n (λ b h. block_same r n b k h) ∙ found in
        let owner = eqb-true (owner_of v m) (r + 1) (both_parts (eqb (owner_of v m) (r + 1)) (eqb (index_of v m) n) (first_hit block_count (is_block v r n) m e)).0 in
        let low : m < block_count = first_low block_count (is_block v r n) m e in
        ap (λ (x : ℕ). get_or left x 0) (place_in u r i m moved)
        ∙ place_same r m (i % block_size) owner low (omega arith) k
        ∙ ap (λ (x : ℕ). get_or area x 0) (sym (place_in v r i m found))

    bytes_same : (r : ℕ) → Live v r → code_of v r ≡ segment_code → kept (world_of v area) d o (id_of v r) ≡ true → bytes_of u left r ≡ bytes_of v area r
    unfolding bytes_of
    bytes_same r a c k =
        ap (λ (n : ℕ). collect n (λ i. get_or left (place_of u r i) 0)) (f.len r)
        ∙ collect_cong (len_of v r) (λ i. get_or left (place_of u r i) 0) (λ i. get_or area (place_of v r i) 0) (λ i h. byte_same r i a c k h)

    object_same : (r : ℕ) → Live v r → kept (world_of v area) d o (id_of v r) ≡ true → object_at u left r ≡ object_at v area r
    object_same r a k =
        object_with_lem u left r
        ∙ f.object r (code_of u r) (bytes_of u left r)
        ∙ ap (λ (c : ℕ). object_with v r c (bytes_of u left r)) (row_code r (row_stays r a k))
        ∙ with_bytes v r (code_of v r) (bytes_of u left r) (bytes_of v area r) (λ c. bytes_same r a c k)
        ∙ sym (object_with_lem v area r)

    left_obj : (p : ℕ) → (world_of u left).obj p ≡ cond (kept (world_of v area) d o p) ((world_of v area).obj p) nothing
    left_obj p = bool_cases (kept (world_of v area) d o p)
        (λ k. found_cases (row_of v p)
        (λ r e.
        let (a, q) = row_is v p r e in
        let kr = ap (kept (world_of v area) d o) q ∙ k in
        ap (world_of u left).obj (sym (f.id r ∙ q))
        ∙ obj_at u left left_placed r (row_stays r a kr)
        ∙ object_same r a kr
        ∙ sym (obj_found v area p r e)
        ∙ sym (if_true (kept (world_of v area) d o p) ((world_of v area).obj p) nothing k))
        (λ e.
        obj_none u left p (λ r a q. row_none v p e r (row_was r a) (sym (f.id r) ∙ q))
        ∙ sym (obj_missing v area p e)
        ∙ sym (if_true (kept (world_of v area) d o p) ((world_of v area).obj p) nothing k)))
        (λ k.
        obj_none u left p (λ r a q. not_both (kept (world_of v area) d o p) (ap (kept (world_of v area) d o) (sym q ∙ f.id r) ∙ row_kept r a) k)
        ∙ sym (if_false (kept (world_of v area) d o p) ((world_of v area).obj p) nothing k))

-- ---- the world

-- The next number moves on.
moved_next : (v : View) (area : List ℕ) (d o : ℕ) → length v.next ≡ 1 → next_of (moved_on (cut_view d o v area)) ≡ suc (next_of v)
unfolding moved_on cut_view
moved_next v area d o e = get_or-set_same v.next 0 (next_of v + 1) 0 (omega arith) ∙ add-one (next_of v)

moved_root : (v : View) (area : List ℕ) (d o : ℕ) → root_of (moved_on (cut_view d o v area)) ≡ root_of v
unfolding moved_on cut_view
moved_root v area d o = refl

module _ (v : View) (area : List ℕ) (shape : Shape v) (s : Sound v) (d o : ℕ) where
  -- The world of what is left of a sound book when a link is cut with all that hangs on it is the world before with that link cut,
  pub cut_world : world_of (moved_on (cut_view d o v area)) (cut_area d o v area) ≡ apply (cut d o) (world_of v area)
  cut_world = unfold apply in
      (world_ext (world_of (moved_on (cut_view d o v area)) (cut_area d o v area)) (apply (cut d o) (world_of v area))
      (world_next (moved_on (cut_view d o v area)) (cut_area d o v area) ∙ moved_next v area d o (shape.long next_t) ∙ ap suc (sym (world_next v area)))
      (world_root (moved_on (cut_view d o v area)) (cut_area d o v area) ∙ moved_root v area d o ∙ sym (world_root v area))
      (left_obj v area shape s d o (moved_on (cut_view d o v area)) (cut_left v area d o) (cut_area d o v area) (cut_left_bytes v area d o))
      (left_linked v area shape s d o (moved_on (cut_view d o v area)) (cut_left v area d o) (cut_area d o v area)))

  -- and everything in it stands where it belongs.
  pub cut_placed : Placed (moved_on (cut_view d o v area))
  cut_placed = left_placed v area shape s d o (moved_on (cut_view d o v area)) (cut_left v area d o)

-- Its tables have their lengths.
pub cut_shape : (v : View) (area : List ℕ) (d o : ℕ) → Shape v → Shape (moved_on (cut_view d o v area))
unfolding moved_on cut_view
cut_shape v area d o s =
    let u = cut_view d o v area in
    put_shape next_t 0 (next_of v + 1) u
    (on_shape owner_t (λ l. u.owner) _ (λ l e. collect_length block_count _)
    (on_shape link_from_t (λ l. u.link_from) _ (λ l e. collect_length link_count _)
    (on_shape kind_t (λ l. u.kind) v (λ l e. collect_length row_count _) s)))
