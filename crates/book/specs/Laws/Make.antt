-- An object created and a link added: the world is the rules' change applied, and positions stay in order. A create is taken in three steps: the row, the
-- link, and the number.
use Prim.Native.Nat.{ℕ, suc, ◌+◌, ◌-◌, ◌<◌, ◌≤◌}
use Rattle.std.proofs.Math.Decide.{ℕ_discrete}
use Rattle.std.proofs.Common.{arith, ◌∙◌}
use Rattle.std.specs.Prelude.{false, not, ◌&&◌, ◌||◌, ◌≡◌, List, Some}
use Rattle.std.proofs.Math.Path.{refl, sym, ap, ap₂, subst}
use Rattle.std.proofs.Math.Seq.{get_or-set_same, get_or-set_other}
use Rattle.std.proofs.Math.Dec.{eqb}
use borrow.Author.Tests.{eqb-true, eq-eqb}
use Rattle.quotas.specs.Any.{both, both_of, both_parts}
use Rattle.rules.specs.Kernel.{segment_code, container_code, max_code, Obj, kind_code, create, link, put, link_in, apply, spare_of}
use Rattle.rules.proofs.Laws.Bools.{not_i, not_both, same_by}
use Rattle.rules.proofs.Laws.Put.{put_same, put_other, link_new, link_old, link_cases}
use Rattle.rules.proofs.Laws.Kinds.{kind_most}
use Rattle.rules.proofs.Laws.Worlds.{world_ext}
use Rattle.tables.specs.Layout.{View, row_count, link_count, next_t, link_from_t, link_to_t}
use Rattle.book.specs.Book.{next_of, root_of, id_of, code_of, fixed_of, len_of, mark_of, from_of, to_of, owner_of, index_of}
use Rattle.book.specs.Book.{live_row, blocks_of, place_of, block_at, bytes_of, object_at, has_id, row_of, world_of}
use Rattle.book.specs.Sound.{Live, On, Used, Owned, Sound, times_held}
use Rattle.book.specs.Placed.{Placed}
use Rattle.book.specs.Shape.{Shape}
use Rattle.book.specs.Enact.{moved_on, relabelled, free_row, free_link, row_filled, link_filled}
use Rattle.book.specs.Laws.First.{first_only, first_cong, first_hit, found_cases}
use Rattle.book.specs.Laws.Tie.{test_live, live_test, row_is, obj_found, obj_missing, linked_at, linked_is, rows_linked}
use Rattle.book.specs.Laws.WorldSound.{placed}
use Rattle.book.specs.Laws.Room.{spare_row_room, spare_link_room}
use Rattle.book.specs.Laws.Shapes.{put_shape}
use Rattle.book.specs.Laws.Alter.{moved_row, moved_object, moved_linked, moved_root, moved_next, moved_shape, moved_placed}
use Rattle.book.specs.Laws.Places.{free_row_low, link_low}
use Rattle.book.specs.Laws.Filled.{Fresh, filled_id_other, filled_code_other, filled_fixed_other, filled_len_other, filled_object_other, filled_id, filled_code, filled_fixed}
use Rattle.book.specs.Laws.Filled.{filled_len, filled_object, filled_shape}

-- What is found is free.
pub row_free : (v : View) (r : ℕ) → free_row v ≡ Some r → code_of v r ≡ 0
unfolding free_row
row_free v r e = eqb-true (code_of v r) 0 (first_hit row_count (λ i. eqb (code_of v i) 0) r e)

pub link_free : (v : View) (l : ℕ) → free_link v ≡ Some l → mark_of v l ≡ 0
unfolding free_link
link_free v l e = eqb-true (mark_of v l) 0 (first_hit link_count (λ i. eqb (mark_of v i) 0) l e)

-- ---- the row

-- a free row r of v, and a new object for it whose number no live row has
module _ (v : View) (z : Shape v) (p : Placed v) (r id : ℕ) (x : Obj) (f : Fresh x) (h : r < row_count) (free : code_of v r ≡ 0)
    (new : (s : ℕ) → Live v s → id_of v s ≡ id → ⊥) where
  -- a live row is another
  other : (s : ℕ) → Live v s → s ≡ r → ⊥
  other s a e = a.used (ap (code_of v) e ∙ free)

  -- The new row is live,
  pub filled_live : Live (row_filled r id x v) r
  filled_live = record { low = h; used = λ e. f.live (sym (filled_code v z r id x h) ∙ e) }

  -- and live rows stay so.
  pub live_still : (s : ℕ) → Live v s → Live (row_filled r id x v) s
  live_still s a = record { low = a.low; used = λ e. a.used (sym (filled_code_other v r id x s (other s a)) ∙ e) }

  live_before : (s : ℕ) → (s ≡ r → ⊥) → Live (row_filled r id x v) s → Live v s
  live_before s ne a = record { low = a.low; used = λ e. a.used (filled_code_other v r id x s ne ∙ e) }

  id_still : (s : ℕ) → Live v s → id_of (row_filled r id x v) s ≡ id_of v s
  id_still s a = filled_id_other v r id x s (other s a)

  -- the new number's row is the new one,
  row_new : row_of (row_filled r id x v) id ≡ Some r
  unfolding row_of
  row_new =
      first_only row_count (has_id (row_filled r id x v) id) r h
      (both_of (live_row (row_filled r id x v) r) (eqb (id_of (row_filled r id x v) r) id) (live_test (row_filled r id x v) r filled_live)
      (eq-eqb (id_of (row_filled r id x v) r) id (filled_id v z r id x h)))
      (λ s k t. elim (ℕ_discrete s r) [
        | yes e ↦ e
        | no ne ↦
            let (a, q) = both_parts (live_row (row_filled r id x v) s) (eqb (id_of (row_filled r id x v) s) id) t in
            absurd (new s (live_before s ne (test_live (row_filled r id x v) s k a))
            (sym (filled_id_other v r id x s ne) ∙ eqb-true (id_of (row_filled r id x v) s) id q))
      ])

  -- every other number's is as it was
  row_old : (o : ℕ) → (o ≡ id → ⊥) → row_of (row_filled r id x v) o ≡ row_of v o
  unfolding row_of
  row_old o ne =
      first_cong row_count (has_id (row_filled r id x v) o) (has_id v o) (λ s k. elim (ℕ_discrete s r) [
        | yes e ↦
            not_i (has_id (row_filled r id x v) o s) (λ t.
            let (a, q) = both_parts (live_row (row_filled r id x v) s) (eqb (id_of (row_filled r id x v) s) o) t in
            ne (sym (eqb-true (id_of (row_filled r id x v) s) o q) ∙ ap (id_of (row_filled r id x v)) e ∙ filled_id v z r id x h))
            ∙ sym (not_i (has_id v o s) (λ t. let (a, q) = both_parts (live_row v s) (eqb (id_of v s) o) t in other s (test_live v s k a) e))
        | no n ↦ ap₂ (λ (k i : ℕ). both (not (eqb k 0)) (eqb i o)) (filled_code_other v r id x s n) (filled_id_other v r id x s n)
      ])

  -- The new object stands under its number, and the others under theirs.
  pub filled_obj : (area : List ℕ) (o : ℕ) → (world_of (row_filled r id x v) area).obj o ≡ put id x (world_of v area).obj o
  filled_obj area o = elim (ℕ_discrete o id) [
    | yes e ↦
        obj_found (row_filled r id x v) area o r (ap (row_of (row_filled r id x v)) e ∙ row_new) ∙ filled_object v z r id x h area f
        ∙ sym (put_same id x (world_of v area).obj o e)
    | no ne ↦
        found_cases (row_of v o)
        (λ s e. obj_found (row_filled r id x v) area o s (row_old o ne ∙ e) ∙ filled_object_other v r id x s (other s (row_is v o s e).0) area ∙ sym (obj_found v area o s e))
        (λ e. obj_missing (row_filled r id x v) area o (row_old o ne ∙ e) ∙ sym (obj_missing v area o e))
        ∙ sym (put_other id x (world_of v area).obj o ne)
  ]

  on_filled : (l : ℕ) → On (row_filled r id x v) l → On v l
  unfolding row_filled relabelled
  on_filled l a = record { low = a.low; used = a.used }

  filled_on : (l : ℕ) → On v l → On (row_filled r id x v) l
  unfolding row_filled relabelled
  filled_on l a = record { low = a.low; used = a.used }

  from_filled : (l : ℕ) → from_of (row_filled r id x v) l ≡ from_of v l
  unfolding row_filled relabelled
  from_filled l = refl

  to_filled : (l : ℕ) → to_of (row_filled r id x v) l ≡ to_of v l
  unfolding row_filled relabelled
  to_filled l = refl

  -- The same pairs are linked.
  pub filled_linked : (area : List ℕ) (d o : ℕ) → (world_of (row_filled r id x v) area).linked d o ≡ (world_of v area).linked d o
  filled_linked area d o =
      same_by ((world_of (row_filled r id x v) area).linked d o) ((world_of v area).linked d o)
      (λ t.
      let (l, a, e, q) = linked_is (row_filled r id x v) area d o t in
      let b = on_filled l a in
      ap₂ (world_of v area).linked
      (sym (sym (id_still (from_of v l) (p.from_live l b)) ∙ ap (id_of (row_filled r id x v)) (sym (from_filled l)) ∙ e))
      (sym (sym (id_still (to_of v l) (p.to_live l b)) ∙ ap (id_of (row_filled r id x v)) (sym (to_filled l)) ∙ q))
      ∙ linked_at v area l b)
      (λ t.
      let (l, a, e, q) = linked_is v area d o t in
      ap₂ (world_of (row_filled r id x v) area).linked
      (sym (id_still (from_of v l) (p.from_live l a) ∙ e))
      (sym (id_still (to_of v l) (p.to_live l a) ∙ q))
      ∙ rows_linked (row_filled r id x v) area l (from_of v l) (to_of v l) (filled_on l a) (from_filled l) (to_filled l))

  -- a block's owner is another row
  owned_filled : (b : ℕ) → Used (row_filled r id x v) b → Owned (row_filled r id x v) b
  unfolding row_filled relabelled
  owned_filled b a =
      let o = p.owned b (record { low = a.low; used = a.used }) in
      let ne : owner_of v b - 1 ≡ r → ⊥ = λ e. omega (arith, ap (code_of v) e, free, o.owner_segment) in
      record {
        owner_low = o.owner_low;
        owner_segment = filled_code_other v r id x (owner_of v b - 1) ne ∙ o.owner_segment;
        within = subst (λ (n : ℕ). index_of v b < blocks_of n) (sym (filled_len_other v r id x (owner_of v b - 1) ne)) o.within;
      }

  held_filled : (s k : ℕ) → times_held (row_filled r id x v) s k ≡ times_held v s k
  unfolding row_filled relabelled times_held
  held_filled s k = refl

  -- Positions stay in order.
  pub filled_placed : kind_code x.kind ≤ max_code → Placed (row_filled r id x v)
  filled_placed most =
      record {
        code_most = λ s a. elim (ℕ_discrete s r) [
          | yes e ↦ omega (arith, ap (code_of (row_filled r id x v)) e, filled_code v z r id x h)
          | no ne ↦ omega (arith, filled_code_other v r id x s ne, p.code_most s (live_before s ne a))
        ];
        fixed_most = λ s a c. elim (ℕ_discrete s r) [
          | yes e ↦ omega (arith, ap (fixed_of (row_filled r id x v)) e, filled_fixed v z r id x h)
          | no ne ↦ omega (arith, filled_fixed_other v r id x s ne, p.fixed_most s (live_before s ne a) (sym (filled_code_other v r id x s ne) ∙ c))
        ];
        ids_apart = λ s t a b k e. elim (ℕ_discrete s r) [
          | yes q ↦ elim (ℕ_discrete t r) [
            | yes w ↦ omega arith
            | no w ↦ new t (live_before t w b) (sym (filled_id_other v r id x t w) ∙ sym e ∙ ap (id_of (row_filled r id x v)) q ∙ filled_id v z r id x h)
          ]
          | no q ↦ elim (ℕ_discrete t r) [
            | yes w ↦ new s (live_before s q a) (sym (filled_id_other v r id x s q) ∙ e ∙ ap (id_of (row_filled r id x v)) w ∙ filled_id v z r id x h)
            | no w ↦ p.ids_apart s t (live_before s q a) (live_before t w b) k (sym (filled_id_other v r id x s q) ∙ e ∙ filled_id_other v r id x t w)
          ]
        ];
        from_live = λ l a. subst (Live (row_filled r id x v)) (sym (from_filled l)) (live_still (from_of v l) (p.from_live l (on_filled l a)));
        to_live = λ l a. subst (Live (row_filled r id x v)) (sym (to_filled l)) (live_still (to_of v l) (p.to_live l (on_filled l a)));
        links_apart = λ l m a b k e q.
            p.links_apart l m (on_filled l a) (on_filled m b) k (sym (from_filled l) ∙ e ∙ from_filled m) (sym (to_filled l) ∙ q ∙ to_filled m);
        owned = owned_filled;
        blocks_once = λ s a c k q. held_filled s k ∙ elim (ℕ_discrete s r) [
          | yes e ↦ absurd (let n = ap (len_of (row_filled r id x v)) e ∙ filled_len v z r id x h in let m = subst (λ (i : ℕ). k < blocks_of i) n q in omega arith)
          | no ne ↦ p.blocks_once s (live_before s ne a) (sym (filled_code_other v r id x s ne) ∙ c) k (subst (λ (i : ℕ). k < blocks_of i) (filled_len_other v r id x s ne) q)
        ];
      }

-- ---- the link

module _ (v : View) (z : Shape v) (l c o : ℕ) (h : l < link_count) (free : mark_of v l ≡ 0) where
  mark_new : mark_of (link_filled l c o v) l ≡ c + 1
  unfolding link_filled
  mark_new = get_or-set_same v.link_from l (c + 1) 0 (omega (arith, z.long link_from_t))

  to_new : to_of (link_filled l c o v) l ≡ o
  unfolding link_filled
  to_new = get_or-set_same v.link_to l o 0 (omega (arith, z.long link_to_t))

  from_new : from_of (link_filled l c o v) l ≡ c
  from_new = omega (arith, mark_new)

  on_new : On (link_filled l c o v) l
  on_new = record { low = h; used = λ e. omega (arith, mark_new) }

  mark_old : (m : ℕ) → (m ≡ l → ⊥) → mark_of (link_filled l c o v) m ≡ mark_of v m
  unfolding link_filled
  mark_old m ne = get_or-set_other v.link_from l m (c + 1) 0 ne

  from_old : (m : ℕ) → (m ≡ l → ⊥) → from_of (link_filled l c o v) m ≡ from_of v m
  from_old m ne = ap (λ (n : ℕ). n - 1) (mark_old m ne)

  to_old : (m : ℕ) → (m ≡ l → ⊥) → to_of (link_filled l c o v) m ≡ to_of v m
  unfolding link_filled
  to_old m ne = get_or-set_other v.link_to l m o 0 ne

  -- a live link of v is another
  apart : (m : ℕ) → On v m → m ≡ l → ⊥
  apart m a e = a.used (ap (mark_of v) e ∙ free)

  on_before : (m : ℕ) → (m ≡ l → ⊥) → On (link_filled l c o v) m → On v m
  on_before m ne a = record { low = a.low; used = λ e. a.used (mark_old m ne ∙ e) }

  on_still : (m : ℕ) → On v m → On (link_filled l c o v) m
  on_still m a = record { low = a.low; used = λ e. a.used (sym (mark_old m (apart m a)) ∙ e) }

  id_linked : (r : ℕ) → id_of (link_filled l c o v) r ≡ id_of v r
  unfolding link_filled
  id_linked r = refl

  -- Every object stays.
  pub linked_obj : (area : List ℕ) (p : ℕ) → (world_of (link_filled l c o v) area).obj p ≡ (world_of v area).obj p
  unfolding link_filled world_of row_of object_at bytes_of place_of block_at
  linked_obj area p = refl

  -- One pair more is linked.
  pub linked_more : (area : List ℕ) (d p : ℕ) → (world_of (link_filled l c o v) area).linked d p ≡ link_in (id_of v c) (id_of v o) (world_of v area).linked d p
  linked_more area d p =
      same_by ((world_of (link_filled l c o v) area).linked d p) (link_in (id_of v c) (id_of v o) (world_of v area).linked d p)
      (λ t.
      let (m, a, e, q) = linked_is (link_filled l c o v) area d p t in
      elim (ℕ_discrete m l) [
        | yes i ↦
            ap₂ (link_in (id_of v c) (id_of v o) (world_of v area).linked)
            (sym e ∙ id_linked (from_of (link_filled l c o v) m) ∙ ap (id_of v) (ap (from_of (link_filled l c o v)) i ∙ from_new))
            (sym q ∙ id_linked (to_of (link_filled l c o v) m) ∙ ap (id_of v) (ap (to_of (link_filled l c o v)) i ∙ to_new))
            ∙ link_new (id_of v c) (id_of v o) (world_of v area).linked
        | no ne ↦
            link_old (id_of v c) (id_of v o) (world_of v area).linked d p
            (ap₂ (world_of v area).linked
            (sym e ∙ id_linked (from_of (link_filled l c o v) m) ∙ ap (id_of v) (from_old m ne))
            (sym q ∙ id_linked (to_of (link_filled l c o v) m) ∙ ap (id_of v) (to_old m ne))
            ∙ linked_at v area m (on_before m ne a))
      ])
      (λ t. link_cases (id_of v c) (id_of v o) (world_of v area).linked d p t
      (λ e q.
      ap₂ (world_of (link_filled l c o v) area).linked (e ∙ sym (id_linked c)) (q ∙ sym (id_linked o))
      ∙ rows_linked (link_filled l c o v) area l c o on_new from_new to_new)
      (λ k.
      let (m, a, e, q) = linked_is v area d p k in
      let ne = apart m a in
      ap₂ (world_of (link_filled l c o v) area).linked (sym e ∙ sym (id_linked (from_of v m))) (sym q ∙ sym (id_linked (to_of v m)))
      ∙ rows_linked (link_filled l c o v) area m (from_of v m) (to_of v m) (on_still m a) (from_old m ne) (to_old m ne)))

  live_linked : (r : ℕ) → Live (link_filled l c o v) r → Live v r
  unfolding link_filled
  live_linked r a = record { low = a.low; used = a.used }

  linked_live : (r : ℕ) → Live v r → Live (link_filled l c o v) r
  unfolding link_filled
  linked_live r a = record { low = a.low; used = a.used }

  -- the tables of rows and blocks stay
  linked_code : Placed v → (r : ℕ) → Live (link_filled l c o v) r → code_of (link_filled l c o v) r ≤ max_code
  unfolding link_filled
  linked_code p r a = p.code_most r (record { low = a.low; used = a.used })

  linked_fixed : Placed v → (r : ℕ) → Live (link_filled l c o v) r → code_of (link_filled l c o v) r ≡ segment_code → fixed_of (link_filled l c o v) r ≤ 1
  unfolding link_filled
  linked_fixed p r a = p.fixed_most r (record { low = a.low; used = a.used })

  linked_owned : Placed v → (b : ℕ) → Used (link_filled l c o v) b → Owned (link_filled l c o v) b
  unfolding link_filled
  linked_owned p b a =
      let w = p.owned b (record { low = a.low; used = a.used }) in
      record { owner_low = w.owner_low; owner_segment = w.owner_segment; within = w.within }

  linked_once : Placed v → (r : ℕ) → Live (link_filled l c o v) r → code_of (link_filled l c o v) r ≡ segment_code
      → (k : ℕ) → k < blocks_of (len_of (link_filled l c o v) r) → times_held (link_filled l c o v) r k ≡ 1
  unfolding link_filled times_held
  linked_once p r a = p.blocks_once r (record { low = a.low; used = a.used })

  -- Positions stay in order where the two are live and the link is new.
  pub linked_placed : Placed v → Live v c → Live v o → ((m : ℕ) → On v m → from_of v m ≡ c → to_of v m ≡ o → ⊥) → Placed (link_filled l c o v)
  linked_placed p a b new =
      record {
        code_most = linked_code p;
        fixed_most = linked_fixed p;
        ids_apart = λ r s x y k e. p.ids_apart r s (live_linked r x) (live_linked s y) k (sym (id_linked r) ∙ e ∙ id_linked s);
        from_live = λ m x. linked_live (from_of (link_filled l c o v) m) (elim (ℕ_discrete m l) [
          | yes e ↦ subst (Live v) (sym (ap (from_of (link_filled l c o v)) e ∙ from_new)) a
          | no ne ↦ subst (Live v) (sym (from_old m ne)) (p.from_live m (on_before m ne x))
        ]);
        to_live = λ m x. linked_live (to_of (link_filled l c o v) m) (elim (ℕ_discrete m l) [
          | yes e ↦ subst (Live v) (sym (ap (to_of (link_filled l c o v)) e ∙ to_new)) b
          | no ne ↦ subst (Live v) (sym (to_old m ne)) (p.to_live m (on_before m ne x))
        ]);
        links_apart = λ m n x y k e f. elim (ℕ_discrete m l) [
          | yes i ↦ elim (ℕ_discrete n l) [
            | yes j ↦ omega arith
            | no j ↦ new n (on_before n j y) (sym (from_old n j) ∙ sym e ∙ ap (from_of (link_filled l c o v)) i ∙ from_new) (sym (to_old n j) ∙ sym f ∙ ap (to_of (link_filled l c o v)) i ∙ to_new)
          ]
          | no i ↦ elim (ℕ_discrete n l) [
            | yes j ↦ new m (on_before m i x) (sym (from_old m i) ∙ e ∙ ap (from_of (link_filled l c o v)) j ∙ from_new) (sym (to_old m i) ∙ f ∙ ap (to_of (link_filled l c o v)) j ∙ to_new)
            | no j ↦ p.links_apart m n (on_before m i x) (on_before n j y) k (sym (from_old m i) ∙ e ∙ from_old n j) (sym (to_old m i) ∙ f ∙ to_old n j)
          ]
        ];
        owned = linked_owned p;
        blocks_once = linked_once p;
      }

  -- The tables keep their lengths.
  pub linked_shape : Shape (link_filled l c o v)
  unfolding link_filled
  linked_shape = put_shape link_to_t l o _ (put_shape link_from_t l (c + 1) v z)

-- ---- the number and the root

next_made : (v : View) (l c r id : ℕ) (x : Obj) → next_of (link_filled l c r (row_filled r id x v)) ≡ next_of v
unfolding link_filled row_filled relabelled
next_made v l c r id x = refl

root_made_lem : (v : View) (l c r id : ℕ) (x : Obj) → root_of (link_filled l c r (row_filled r id x v)) ≡ root_of v
unfolding link_filled row_filled relabelled
root_made_lem v l c r id x = refl

next_joined : (v : View) (l c o : ℕ) → next_of (link_filled l c o v) ≡ next_of v
unfolding link_filled
next_joined v l c o = refl

root_joined : (v : View) (l c o : ℕ) → root_of (link_filled l c o v) ≡ root_of v
unfolding link_filled
root_joined v l c o = refl

-- the objects stay where the number moves on
pub moved_obj : (v : View) (area : List ℕ) (o : ℕ) → (world_of (moved_on v) area).obj o ≡ (world_of v area).obj o
moved_obj v area o =
    found_cases (row_of v o)
    (λ r e. obj_found (moved_on v) area o r (moved_row v o ∙ e) ∙ moved_object v area r ∙ sym (obj_found v area o r e))
    (λ e. obj_missing (moved_on v) area o (moved_row v o ∙ e) ∙ sym (obj_missing v area o e))

-- ---- a create

module _ (v : View) (area : List ℕ) (z : Shape v) (s : Sound v) (c : ℕ) (a : Live v c) (x : Obj) (f : Fresh x)
    (r l : ℕ) (row : free_row v ≡ Some r) (place : free_link v ≡ Some l) where
  -- no live row has the next number
  number_new : (i : ℕ) → Live v i → id_of v i ≡ next_of v → ⊥
  number_new i b e = omega (arith, s.ids_below i b)

  filled : View
  filled = row_filled r (next_of v) x v

  long : Shape filled
  unfolding filled
  long = filled_shape v z r (next_of v) x (free_row_low v r row)

  spot : mark_of filled l ≡ 0
  unfolding filled row_filled relabelled
  spot = link_free v l place

  in_order : Placed filled
  unfolding filled
  in_order = filled_placed v z (placed v s) r (next_of v) x f (free_row_low v r row) (row_free v r row) number_new (kind_most x.kind)

  here : Live filled r
  unfolding filled
  here = filled_live v z (placed v s) r (next_of v) x f (free_row_low v r row) (row_free v r row) number_new

  there : Live filled c
  unfolding filled
  there = live_still v z (placed v s) r (next_of v) x f (free_row_low v r row) (row_free v r row) number_new c a

  objects : (o : ℕ) → (world_of filled area).obj o ≡ put (next_of v) x (world_of v area).obj o
  unfolding filled
  objects = filled_obj v z (placed v s) r (next_of v) x f (free_row_low v r row) (row_free v r row) number_new area

  links : (d o : ℕ) → (world_of filled area).linked d o ≡ (world_of v area).linked d o
  unfolding filled
  links = filled_linked v z (placed v s) r (next_of v) x f (free_row_low v r row) (row_free v r row) number_new area

  id_c : id_of filled c ≡ id_of v c
  unfolding filled
  id_c = id_still v z (placed v s) r (next_of v) x f (free_row_low v r row) (row_free v r row) number_new c a

  id_r : id_of filled r ≡ next_of v
  unfolding filled
  id_r = filled_id v z r (next_of v) x (free_row_low v r row)

  -- no link leads to the new row yet
  unlinked : (m : ℕ) → On filled m → from_of filled m ≡ c → to_of filled m ≡ r → ⊥
  unfolding filled row_filled relabelled
  unlinked m b e q = ((placed v s).to_live m (record { low = b.low; used = b.used })).used (ap (code_of v) q ∙ row_free v r row)

  -- The world that a create leaves is the rules' create applied.
  pub create_world : world_of (moved_on (link_filled l c r (row_filled r (next_of v) x v))) area ≡ apply (create (id_of v c) x) (world_of v area)
  unfolding filled world_of apply link_in
  create_world =
      world_ext (world_of (moved_on (link_filled l c r filled)) area) (apply (create (id_of v c) x) (world_of v area))
      (moved_next (link_filled l c r filled) ((linked_shape filled long l c r (link_low v l place) spot).long next_t) ∙ ap suc (next_made v l c r (next_of v) x))
      (moved_root (link_filled l c r filled) ∙ root_made_lem v l c r (next_of v) x)
      (λ o. moved_obj (link_filled l c r filled) area o ∙ linked_obj filled long l c r (link_low v l place) spot area o ∙ objects o)
      (λ d o. moved_linked (link_filled l c r filled) area d o ∙ linked_more filled long l c r (link_low v l place) spot area d o
      ∙ (λ i. (eqb d (id_c i) && eqb o (id_r i)) || links d o i))

  -- Positions stay in order,
  pub create_placed : Placed (moved_on (link_filled l c r (row_filled r (next_of v) x v)))
  unfolding filled
  create_placed =
      moved_placed (link_filled l c r filled) (linked_placed filled long l c r (link_low v l place) spot in_order there here unlinked)

  -- and the tables keep their lengths.
  pub create_shape : Shape (moved_on (link_filled l c r (row_filled r (next_of v) x v)))
  unfolding filled
  create_shape = moved_shape (link_filled l c r filled) (linked_shape filled long l c r (link_low v l place) spot)

-- Where the container has spare, a row and a link are found.
pub create_room : (v : View) (area : List ℕ) → Sound v → (c : ℕ) → Live v c → code_of v c ≡ container_code → 1 ≤ spare_of (world_of v area) (id_of v c)
    → (r : ℕ) × (l : ℕ) × (free_row v ≡ Some r) × (free_link v ≡ Some l)
unfolding free_row free_link
create_room v area s c a e h =
    let (r, row) = spare_row_room v s area c a e h in
    let (l, place) = spare_link_room v s area c a e h in
    (r, l, row, place)

-- ---- a link

module _ (v : View) (area : List ℕ) (z : Shape v) (s : Sound v) (c o : ℕ) (a : Live v c) (b : Live v o) (l : ℕ) (place : free_link v ≡ Some l) where
  -- The world that a link leaves is the rules' link applied.
  pub link_world : world_of (moved_on (link_filled l c o v)) area ≡ apply (link (id_of v c) (id_of v o)) (world_of v area)
  unfolding world_of apply
  link_world =
      world_ext (world_of (moved_on (link_filled l c o v)) area) (apply (link (id_of v c) (id_of v o)) (world_of v area))
      (moved_next (link_filled l c o v) ((linked_shape v z l c o (link_low v l place) (link_free v l place)).long next_t) ∙ ap suc (next_joined v l c o))
      (moved_root (link_filled l c o v) ∙ root_joined v l c o)
      (λ p. moved_obj (link_filled l c o v) area p ∙ linked_obj v z l c o (link_low v l place) (link_free v l place) area p)
      (λ d p. moved_linked (link_filled l c o v) area d p ∙ linked_more v z l c o (link_low v l place) (link_free v l place) area d p)

  -- Positions stay in order where the pair was not linked,
  pub link_placed : (world_of v area).linked (id_of v c) (id_of v o) ≡ false → Placed (moved_on (link_filled l c o v))
  link_placed none =
      moved_placed (link_filled l c o v)
      (linked_placed v z l c o (link_low v l place) (link_free v l place) (placed v s) a b
      (λ m on e q. not_both ((world_of v area).linked (id_of v c) (id_of v o)) (rows_linked v area m c o on e q) none))

  -- and the tables keep their lengths.
  pub link_shape : Shape (moved_on (link_filled l c o v))
  link_shape = moved_shape (link_filled l c o v) (linked_shape v z l c o (link_low v l place) (link_free v l place))

-- Where the container has spare, a link is found.
pub link_room : (v : View) (area : List ℕ) → Sound v → (c : ℕ) → Live v c → code_of v c ≡ container_code → 1 ≤ spare_of (world_of v area) (id_of v c)
    → (l : ℕ) × (free_link v ≡ Some l)
unfolding free_link
link_room v area s c a e h = spare_link_room v s area c a e h
