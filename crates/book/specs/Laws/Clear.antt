-- What no live segment holds stays zero: Start leaves it so, and so does every change of the rules.
use Rattle.std.specs.Prelude.{ℕ, ◌+◌, ◌-◌, ◌/◌, ◌<◌, ◌≤◌, Bool, ◌≡◌, refl, List, length, get_or, ltb, Some}
use Rattle.std.proofs.Math.Decide.{ℕ_discrete}
use native.Mathlib.Omega.{arith}
use Rattle.std.proofs.Math.Path.{sym, ap}
use Rattle.std.proofs.Common.{◌∙◌}
use Rattle.std.proofs.lemmas.List.{get_or-replicate}
use Rattle.std.proofs.Math.Dec.{eqb}
use borrow.Author.Tests.{eqb-true, eqb-false, ne_eqb, ltb-true, ltb-false}
use Rattle.labels.specs.declared.Label.{Label}
use Rattle.rules.specs.Kernel.{segment_code, Obj, Edit, relabel, fix, requota, rewrite, Change, keep, alter, create, cut, link, kept, block_size}
use Rattle.rules.specs.Fair.{Fair}
use Rattle.rules.proofs.Laws.Bools.{bool_cases}
use Rattle.tables.specs.Layout.{View, row_count, block_count, index_t}
use Rattle.book.specs.Book.{next_of, id_of, code_of, len_of, quota_of, owner_of, index_of, blocks_of, row_of, world_of}
use Rattle.book.specs.Sound.{Live, Sound}
use Rattle.book.specs.Placed.{Placed}
use Rattle.book.specs.Shape.{Shape}
use Rattle.book.specs.Clear.{Clear}
use Rattle.book.specs.Enact.{area_size, moved_on, relabelled, fixed_at, requotaed, free_row, free_link, row_filled, link_filled, cut_view, cut_area, lengthened, area_after}
use Rattle.book.specs.Enact.{altered_view, altered_area, enact_view, enact_area, start_area}
use Rattle.book.specs.Laws.First.{found_cases, first_hit}
use Rattle.book.specs.Laws.Tie.{row_is, quota_at, code_live}
use Rattle.book.specs.Laws.WorldSound.{placed}
use Rattle.book.specs.Laws.Room.{free_blocks, block_room}
use Rattle.book.specs.Laws.Cleared.{if_true, if_false}
use Rattle.book.specs.Laws.Blocks.{held, place_back, positive}
use Rattle.book.specs.Laws.Filled.{filled_len_other}
use Rattle.book.specs.Laws.Enacted.{segment_code_lem}
use Rattle.book.specs.Laws.CutWorld.{cut_left, cut_left_bytes, left_true, left_some}
use Rattle.book.specs.Laws.Lengthened.{lengthened_mine}
use Rattle.book.specs.Laws.Rewrite.{spot, Rewritten, lengthened_rewritten, byte_stays, byte_freed, byte_new, byte_gone, byte_else, after_at}

-- ---- the same by blocks

-- a byte of a free block is 0, and so is one past its segment's length
pub record Wiped (v : View) (area : List ℕ) : Type 0 where
  pub free : (j : ℕ) → j < area_size → owner_of v (j / block_size) ≡ 0 → get_or area j 0 ≡ 0
  pub past : (j r : ℕ) → j < area_size → owner_of v (j / block_size) ≡ r + 1 → len_of v r ≤ spot v j → get_or area j 0 ≡ 0

-- In a book in order each byte of a segment's block is a byte of the segment or past its length.
pub wiped_clear : (v : View) (area : List ℕ) → Placed v → Wiped v area → Clear v area
wiped_clear v area p w j l none = elim (ℕ_discrete (owner_of v (j / block_size)) 0) [
  | yes z ↦ w.free j l z
  | no z ↦
      let r = owner_of v (j / block_size) - 1 in
      let o = p.owned (j / block_size) (record { low = omega arith; used = z }) in
      let e = positive (owner_of v (j / block_size)) z in
      let a = code_live v r segment_code o.owner_low o.owner_segment (omega arith) in
      bool_cases (ltb (spot v j) (len_of v r))
      (λ t. absurd (none r (spot v j)
      (record {
        low = o.owner_low;
        segment = o.owner_segment;
        within = ltb-true (spot v j) (len_of v r) t;
        place = place_back v r (blocks_of (len_of v r)) (held v r p a o.owner_segment) j l e;
      })))
      (λ t. w.past j r l e (ltb-false (spot v j) (len_of v r) t))
]

-- ---- Start

pub start_wiped : (v : View) → Wiped v start_area
unfolding start_area
start_wiped v = record { free = λ j l o. get_or-replicate area_size j 0 0 l; past = λ j r l o h. get_or-replicate area_size j 0 0 l }

-- ---- changes that leave the blocks as they are

same_wiped : (v u : View) (area : List ℕ) → ((x : ℕ) → owner_of u x ≡ owner_of v x) → ((x : ℕ) → index_of u x ≡ index_of v x)
    → ((x r : ℕ) → x < block_count → owner_of v x ≡ r + 1 → len_of u r ≡ len_of v r) → Wiped v area → Wiped u area
same_wiped v u area owner index len w =
    record {
      free = λ j l o. w.free j l (sym (owner (j / block_size)) ∙ o);
      past = λ j r l o h.
          let q = sym (owner (j / block_size)) ∙ o in
          w.past j r l q (omega (arith, index (j / block_size), len (j / block_size) r (omega arith) q));
    }

pub moved_wiped : (v : View) (area : List ℕ) → Wiped v area → Wiped (moved_on v) area
unfolding moved_on
moved_wiped v area = same_wiped v (moved_on v) area (λ x. refl) (λ x. refl) (λ x r l o. refl)

-- an object altered, but for a segment's bytes
relabelled_wiped : (v : View) (area : List ℕ) (r : ℕ) (l c : Label) → Wiped v area → Wiped (moved_on (relabelled r l c v)) area
unfolding moved_on relabelled
relabelled_wiped v area r l c = same_wiped v (moved_on (relabelled r l c v)) area (λ x. refl) (λ x. refl) (λ x r l o. refl)

fixed_wiped : (v : View) (area : List ℕ) (r : ℕ) → Wiped v area → Wiped (moved_on (fixed_at r v)) area
unfolding moved_on fixed_at
fixed_wiped v area r = same_wiped v (moved_on (fixed_at r v)) area (λ x. refl) (λ x. refl) (λ x r l o. refl)

requotaed_wiped : (v : View) (area : List ℕ) (r q : ℕ) → Wiped v area → Wiped (moved_on (requotaed r q v)) area
unfolding moved_on requotaed
requotaed_wiped v area r q = same_wiped v (moved_on (requotaed r q v)) area (λ x. refl) (λ x. refl) (λ x r l o. refl)

-- a link made
linked_wiped : (v : View) (area : List ℕ) (l c r : ℕ) → Wiped v area → Wiped (moved_on (link_filled l c r v)) area
unfolding moved_on link_filled
linked_wiped v area l c r = same_wiped v (moved_on (link_filled l c r v)) area (λ x. refl) (λ x. refl) (λ x r l o. refl)

-- an object made: no block was its row's, for that row was free
made_wiped : (v : View) (area : List ℕ) → Placed v → (l c r n : ℕ) (x : Obj) → code_of v r ≡ 0 → Wiped v area → Wiped (moved_on (link_filled l c r (row_filled r n x v))) area
unfolding moved_on link_filled
made_wiped v area p l c r n x none =
    same_wiped v (moved_on (link_filled l c r (row_filled r n x v))) area
    (λ y. unfold row_filled relabelled in refl) (λ y. unfold row_filled relabelled in refl)
    (λ y s low o. filled_len_other v r n x s (λ e.
    let w = p.owned y (record { low = low; used = λ z. omega arith }) in
    let q : owner_of v y - 1 ≡ r = omega arith in
    omega (arith, sym (ap (code_of v) q) ∙ w.owner_segment)))

-- ---- a cut

cut_wiped : (v : View) (area : List ℕ) (d o : ℕ) → Wiped v area → Wiped (moved_on (cut_view d o v area)) (cut_area d o v area)
cut_wiped v area d o w =
    let f = cut_left v area d o in
    let g = cut_left_bytes v area d o in
    let stay : ℕ → Bool = λ x. kept (world_of v area) d o (id_of v (owner_of v x - 1)) in
    record {
      free = λ j l e.
          bool_cases (eqb (owner_of v (j / block_size)) 0)
          (λ t. g.byte j l ∙ if_true _ _ _ t ∙ w.free j l (eqb-true (owner_of v (j / block_size)) 0 t))
          (λ t. g.byte j l ∙ if_false _ _ _ t ∙ bool_cases (stay (j / block_size))
          (λ k. absurd (eqb-false (owner_of v (j / block_size)) 0 t
          (sym (left_true (stay (j / block_size)) (owner_of v (j / block_size)) _ (f.owner (j / block_size) (omega arith)) k) ∙ e)))
          (λ k. if_false _ _ _ k));
      past = λ j r l e h.
          let k = left_some (stay (j / block_size)) (owner_of v (j / block_size)) _ (f.owner (j / block_size) (omega arith)) (λ z. omega arith) in
          let q = sym (left_true (stay (j / block_size)) (owner_of v (j / block_size)) _ (f.owner (j / block_size) (omega arith)) k) ∙ e in
          g.byte j l ∙ if_false _ _ _ (ne_eqb (owner_of v (j / block_size)) 0 (λ z. omega arith)) ∙ if_true _ _ _ k
          ∙ w.past j r l q (omega (arith, f.index (j / block_size), f.len r));
    }

-- ---- a segment's bytes written, or its length changed

module _ (v : View) (area : List ℕ) (p : Placed v) (z : Shape v) (r : ℕ) (a : Live v r) (c : code_of v r ≡ segment_code) (b : List ℕ)
    (room : blocks_of (length b) ≤ blocks_of (len_of v r) + free_blocks v) (w : Wiped v area) where
  u : View
  u = lengthened r (length b) v

  x : Rewritten v u r (length b)
  unfolding u
  x = lengthened_rewritten v z p r a c (length b) room

  -- a byte past the new length of row r
  past_own : (j : ℕ) → j < area_size → owner_of u (j / block_size) ≡ r + 1 → length b ≤ spot u j → get_or (area_after v u r b area) j 0 ≡ 0
  unfolding u
  past_own j l o h = after_at v u r b area j l ∙ elim (ℕ_discrete (owner_of v (j / block_size)) (r + 1)) [
    | yes q ↦
        let e = lengthened_mine r (length b) v (z.long index_t) (held v r p a c) (j / block_size) (omega arith) q o in
        bool_cases (ltb (spot u j) (len_of v r))
        (λ t. byte_freed v u r b area j o h q (ltb-true (spot u j) (len_of v r) t))
        (λ t. byte_stays v u r b area j o h q (ltb-false (spot u j) (len_of v r) t)
        ∙ w.past j r l q (omega (arith, e, ltb-false (spot u j) (len_of v r) t)))
    | no q ↦ byte_new v u r b area j o h q
  ]

  -- a byte of a block that is not row r's, neither before nor after
  else_same : (j : ℕ) → j < area_size → (owner_of u (j / block_size) ≡ r + 1 → ⊥) → (owner_of v (j / block_size) ≡ r + 1 → ⊥)
      → get_or (area_after v u r b area) j 0 ≡ get_or area j 0
  else_same j l o q = after_at v u r b area j l ∙ byte_else v u r b area j o q

  free_after : (j : ℕ) → j < area_size → owner_of u (j / block_size) ≡ 0 → get_or (area_after v u r b area) j 0 ≡ 0
  free_after j l o = elim (ℕ_discrete (owner_of v (j / block_size)) (r + 1)) [
    | yes q ↦ after_at v u r b area j l ∙ byte_gone v u r b area j (λ y. omega arith) q
    | no q ↦ else_same j l (λ y. omega arith) q ∙ elim (ℕ_discrete (owner_of v (j / block_size)) 0) [
      | yes y ↦ w.free j l y
      | no y ↦
          let e = positive (owner_of v (j / block_size)) y in
          absurd (omega (arith, (x.others.to (owner_of v (j / block_size) - 1) (j / block_size) (λ s. q (omega arith)) (omega arith) e).0))
    ]
  ]

  past_after : (j s : ℕ) → j < area_size → owner_of u (j / block_size) ≡ s + 1 → len_of u s ≤ spot u j → get_or (area_after v u r b area) j 0 ≡ 0
  past_after j s l o h = elim (ℕ_discrete s r) [
    | yes e ↦ past_own j l (o ∙ ap (λ (i : ℕ). i + 1) e) (omega (arith, x.len_own, ap (len_of u) e))
    | no e ↦
        let q = x.others.back s (j / block_size) e (omega arith) o in
        else_same j l (λ y. e (omega arith)) (λ y. e (omega arith))
        ∙ w.past j s l q (omega (arith, x.len_other s e, (x.others.to s (j / block_size) e (omega arith) q).1))
  ]

  rewritten_wiped : Wiped (moved_on (lengthened r (length b) v)) (area_after v (lengthened r (length b) v) r b area)
  unfolding u
  rewritten_wiped = moved_wiped (lengthened r (length b) v) _ (record { free = free_after; past = past_after })

-- ---- every change

module _ (v : View) (area : List ℕ) (s : Sound v) (z : Shape v) (w : Wiped v area) where
  -- an object is altered at its row; where it has none nothing but the number changes
  altered_wiped : (o : ℕ) (e : Edit) → ((r : ℕ) → row_of v o ≡ Some r → Wiped (moved_on (altered_view e r v)) (altered_area e r v area))
      → Wiped (enact_view (alter o e) v area) (enact_area (alter o e) v area)
  unfolding enact_view enact_area
  altered_wiped o e f = found_cases (row_of v o) (λ r h. rw h (f r h)) (λ h. rw h (moved_wiped v area w))

  -- Whatever fair change is made on a sound book, what no live segment holds stays zero.
  pub every_wiped : (h : Change) → Fair (world_of v area) h → Wiped (enact_view h v area) (enact_area h v area)
  unfolding enact_view enact_area altered_view altered_area
  every_wiped keep f = moved_wiped v area w
  every_wiped (alter o (relabel l c)) f = altered_wiped o (relabel l c) (λ r h. relabelled_wiped v area r l c w)
  every_wiped (alter o fix) f = altered_wiped o fix (λ r h. fixed_wiped v area r w)
  every_wiped (alter o (requota q)) f = altered_wiped o (requota q) (λ r h. requotaed_wiped v area r q w)
  every_wiped (alter o (rewrite b)) f = altered_wiped o (rewrite b) (λ r h.
      let (a, i) = row_is v o r h in
      let code = segment_code_lem v area s o r a i f.is_segment_lem in
      let q : ((world_of v area).obj o).quota ≡ quota_of v r = ap (λ (n : ℕ). ((world_of v area).obj n).quota) (sym i) ∙ quota_at v area (placed v s) r a in
      rewritten_wiped v area (placed v s) z r a code b (block_room v s r (length b) a.low code (omega (arith, f.within, q))) w)
  every_wiped (create d x) f =
      found_cases (row_of v d)
      (λ c h. rw h (found_cases (free_row v)
      (λ r i. rw i (found_cases (free_link v)
      (λ l k. rw k (made_wiped v area (placed v s) l c r (next_of v) x (eqb-true (code_of v r) 0 (first_hit row_count (λ y. eqb (code_of v y) 0) r (unfold free_row in i))) w))
      (λ k. rw k (moved_wiped v area w))))
      (λ i. rw i (moved_wiped v area w))))
      (λ h. rw h (moved_wiped v area w))
  every_wiped (cut d o) f = cut_wiped v area d o w
  every_wiped (link d o) f =
      found_cases (row_of v d)
      (λ c h. rw h (found_cases (row_of v o)
      (λ r i. rw i (found_cases (free_link v) (λ l k. rw k (linked_wiped v area l c r w)) (λ k. rw k (moved_wiped v area w))))
      (λ i. rw i (moved_wiped v area w))))
      (λ h. rw h (moved_wiped v area w))
