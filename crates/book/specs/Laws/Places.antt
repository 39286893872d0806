-- Where a new row and a new link go: one law for each way out, and that this is how the rules' changes are made.
use Rattle.std.specs.Prelude.{ℕ, ◌<◌, ◌≤◌, ◌≡◌, List, eqb, Option, Some, None}
use Rattle.std.proofs.Math.Path.{refl}
use Rattle.std.proofs.Common.{sym, subst}
use Rattle.rules.specs.Kernel.{Obj, create, link, last_number}
use Rattle.tables.specs.Layout.{View, row_count, link_count}
use Rattle.book.specs.Book.{next_of, code_of, mark_of, on_found, row_of}
use Rattle.book.specs.Enact.{moved_on, relabelled, free_row, free_link, row_filled, link_filled, enact_view}
use Rattle.book.specs.Make.{placed_in, place_for, created_in, linked_in}
use Rattle.book.specs.Laws.First.{first_low}

-- What is found is a row,
pub free_row_low : (v : View) (r : ℕ) → free_row v ≡ Some r → r < row_count
unfolding free_row
free_row_low v r e = first_low row_count (λ i. eqb (code_of v i) 0) r e

-- and a link.
pub link_low : (v : View) (l : ℕ) → free_link v ≡ Some l → l < link_count
unfolding free_link
link_low v l e = first_low link_count (λ i. eqb (mark_of v i) 0) l e

module _ (c : ℕ) (x : Obj) (v : View) where
  -- No row is free: nothing is placed;
  pub no_row_free : free_row v ≡ None → (None ≡ place_for v) × (v ≡ placed_in c x v)
  unfolding place_for placed_in
  no_row_free e = (rw e, rw e)

  -- no link is free: nothing is placed;
  pub no_link_free : (r : ℕ) → free_row v ≡ Some r → free_link v ≡ None → (None ≡ place_for v) × (v ≡ placed_in c x v)
  unfolding place_for placed_in
  no_link_free r e f = (rw (e, f), rw (e, f))

  -- both are: both are filled.
  pub both_free : (r l : ℕ) → free_row v ≡ Some r → free_link v ≡ Some l → (Some r ≡ place_for v) × (link_filled l c r (row_filled r (next_of v) x v) ≡ placed_in c x v)
  unfolding place_for placed_in
  both_free r l e f = (rw (e, f), rw (e, f))

  -- The number does not move where an object is placed.
  pub placed_next : next_of (placed_in c x v) ≡ next_of v
  unfolding placed_in link_filled row_filled relabelled
  placed_next = go (free_row v) (free_link v)
    where
      go : (a b : Option ℕ) → next_of (on_found a (λ r. on_found b (λ l. link_filled l c r (row_filled r (next_of v) x v)) v) v) ≡ next_of v
      go (Some r) (Some l) = refl
      go (Some r) None = refl
      go None b = refl

  pub placed_going : next_of v ≤ last_number → next_of (placed_in c x v) ≤ last_number
  placed_going h = subst (λ (n : ℕ). n ≤ last_number) (sym placed_next) h

module _ (c o : ℕ) (v : View) where
  -- No link is free: only the number moves;
  pub link_missing : free_link v ≡ None → moved_on v ≡ linked_in c o v
  unfolding linked_in
  link_missing e = rw e

  -- one is: it is filled.
  pub link_free : (l : ℕ) → free_link v ≡ Some l → moved_on (link_filled l c o v) ≡ linked_in c o v
  unfolding linked_in
  link_free l e = rw e

  pub linked_going : (l : ℕ) → next_of v ≤ last_number → next_of (link_filled l c o v) ≤ last_number
  unfolding link_filled
  linked_going l h = h

-- ---- the changes of the rules

-- A create in the container at row c is the rules' create in the container of its id.
pub create_enacts : (d c : ℕ) (x : Obj) (v : View) (area : List ℕ) → row_of v d ≡ Some c → enact_view (create d x) v area ≡ created_in c x v
unfolding enact_view created_in placed_in
create_enacts d c x v area e = rw e (go (free_row v) (free_link v))
  where
    go : (a b : Option ℕ) → on_found a (λ r. on_found b (λ l. moved_on (link_filled l c r (row_filled r (next_of v) x v))) (moved_on v)) (moved_on v)
        ≡ moved_on (on_found a (λ r. on_found b (λ l. link_filled l c r (row_filled r (next_of v) x v)) v) v)
    go (Some r) (Some l) = refl
    go (Some r) None = refl
    go None b = refl

-- A link from row c to row r is the rules' link of their ids.
pub link_enacts : (d o c r : ℕ) (v : View) (area : List ℕ) → row_of v d ≡ Some c → row_of v o ≡ Some r → enact_view (link d o) v area ≡ linked_in c r v
unfolding enact_view linked_in
link_enacts d o c r v area e f = rw (e, f)
