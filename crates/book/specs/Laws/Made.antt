-- A fair create and a fair link are made on the book: a row and a link are found, the world becomes the changed world, positions stay in order and
-- tables keep their lengths.
use Rattle.std.specs.Prelude.{ℕ, ◌+◌, ◌≤◌, ◌≡◌, List, Some}
use native.Mathlib.Omega.{arith}
use Rattle.std.proofs.Math.Bool.{true}
use Rattle.std.proofs.Math.Path.{sym, ap, subst}
use Rattle.std.proofs.Common.{◌∙◌, eqb-true}
use Rattle.rules.specs.Kernel.{container_code, is_live, is_container, Obj, use_of, spare_of, create, link, apply}
use Rattle.rules.specs.Fair.{Fair, Made}
use Rattle.rules.proofs.Laws.Kinds.{segment_live, container_live}
use Rattle.tables.specs.Layout.{View}
use Rattle.book.specs.Book.{next_of, id_of, code_of, row_of, world_of}
use Rattle.book.specs.Sound.{Live, Sound}
use Rattle.book.specs.Placed.{Placed}
use Rattle.book.specs.Shape.{Shape}
use Rattle.book.specs.Enact.{moved_on, free_row, free_link, row_filled, link_filled, enact_view, enact_area}
use Rattle.book.specs.Make.{created_in}
use Rattle.book.specs.Laws.Tie.{row_found, live_row_lem, container_at}
use Rattle.book.specs.Laws.WorldSound.{placed, world_sound}
use Rattle.book.specs.Laws.Enacted.{Enacted}
use Rattle.book.specs.Laws.Places.{both_free, link_free, create_enacts, link_enacts}
use Rattle.book.specs.Laws.Filled.{Fresh}
use Rattle.book.specs.Laws.Make.{create_world, create_placed, create_shape, create_room, link_world, link_placed, link_shape, link_room}

module _ (v : View) (area : List ℕ) (z : Shape v) (s : Sound v) where
  -- what fits in a container's spare
  spare_some : (d n : ℕ) → 1 ≤ n → use_of (world_of v area) d + n ≤ ((world_of v area).obj d).quota → 1 ≤ spare_of (world_of v area) d
  unfolding spare_of
  spare_some d n h k = omega arith

  -- the row of a container
  container_row_lem : (d : ℕ) → is_container ((world_of v area).obj d).kind ≡ true → (c : ℕ) × (Live v c) × (id_of v c ≡ d) × (code_of v c ≡ container_code)
  container_row_lem d t =
      let (c, a, i) = live_row_lem v area d (container_live ((world_of v area).obj d).kind t) in
      (c, a, i, eqb-true (code_of v c) container_code (sym (container_at v area (placed v s) c a) ∙ ap (λ (n : ℕ). is_container ((world_of v area).obj n).kind) i ∙ t))

  -- ---- a create

  module _ (x : Obj) (f : Fresh x) where
    -- A fair create finds its row and its link,
    pub create_found : (c : ℕ) → Live v c → Made (world_of v area) (id_of v c) x → (r : ℕ) × (l : ℕ) × (free_row v ≡ Some r) × (free_link v ≡ Some l)
    create_found c a m =
        let (c₂, a₂, i, k) = container_row_lem (id_of v c) m.is_container_lem in
        create_room v area s c₂ a₂ k
        (subst (λ (d : ℕ). 1 ≤ spare_of (world_of v area) d) (sym i) (spare_some (id_of v c) x.quota m.whole.range.quota_some m.room))

    -- and is enacted.
    pub create_enacted : (d : ℕ) → Fair (world_of v area) (create d x) → Enacted (create d x) v area
    unfolding enact_area created_in
    create_enacted d m =
        let (c, a, i, k) = container_row_lem d m.is_container_lem in
        let (r, l, row, place) = create_found c a (subst (λ (e : ℕ). Made (world_of v area) e x) (sym i) m) in
        let made : enact_view (create d x) v area ≡ moved_on (link_filled l c r (row_filled r (next_of v) x v)) =
        create_enacts d c x v area (ap (row_of v) (sym i) ∙ row_found v (placed v s) c a) ∙ ap moved_on (sym (both_free c x v r l row place).1) in
        record {
          world =
              ap (λ (u : View). world_of u area) made ∙ create_world v area z s c a x f r l row place
              ∙ ap (λ (e : ℕ). apply (create e x) (world_of v area)) i;
          placed = subst Placed (sym made) (create_placed v area z s c a x f r l row place);
          shape = subst Shape (sym made) (create_shape v area z s c a x f r l row place);
        }

  -- ---- a link

  -- A fair link is enacted.
  pub link_enacted : (d o : ℕ) → Fair (world_of v area) (link d o) → Enacted (link d o) v area
  unfolding enact_area
  link_enacted d o m =
      let (c, a, i, k) = container_row_lem d m.is_container_lem in
      let live : is_live ((world_of v area).obj o).kind ≡ true = segment_live ((world_of v area).obj o).kind m.is_segment_lem in
      let (r, b, j) = live_row_lem v area o live in
      let some = ((world_sound v area z s).ranges o live).quota_some in
      let (l, place) = link_room v area s c a k
      (subst (λ (e : ℕ). 1 ≤ spare_of (world_of v area) e) (sym i) (spare_some d ((world_of v area).obj o).quota some m.room)) in
      let made : enact_view (link d o) v area ≡ moved_on (link_filled l c r v) =
      link_enacts d o c r v area (ap (row_of v) (sym i) ∙ row_found v (placed v s) c a) (ap (row_of v) (sym j) ∙ row_found v (placed v s) r b)
      ∙ sym (link_free c r v l place) in
      record {
        world =
            ap (λ (u : View). world_of u area) made ∙ link_world v area z s c r a b l place
            ∙ (λ t. apply (link (i t) (j t)) (world_of v area));
        placed = subst Placed (sym made) (link_placed v area z s c r a b l place ((λ t. (world_of v area).linked (i t) (j t)) ∙ m.is_new));
        shape = subst Shape (sym made) (link_shape v area z s c r a b l place);
      }
