-- Lookups: as the code makes them, and against the world.
use Rattle.std.specs.Prelude.{ℕ, ◌+◌, ◌<◌, Bool, true, false, ◌&&◌, ◌≡◌, refl, List, eqb, Some, None}
use Rattle.std.proofs.Common.{arith, sym, ◌∙◌, subst}
use Rattle.std.proofs.Math.Path.{ap, ap₂}
use borrow.Author.Tests.{eqb-true, eqb-false, eq-eqb, ne_eqb}
use Rattle.std.specs.Bool.{then_some}
use Rattle.labels.specs.declared.Label.{Label}
use Rattle.labels.specs.Core.{may_read}
use Rattle.quotas.specs.Any.{both_of, both_parts}
use Rattle.rules.specs.Kernel.{thread_code, container_code, kind_code, is_thread, is_container, Obj, nothing, opens, entry}
use Rattle.rules.proofs.Laws.Bools.{bool_cases, not_i, not_both}
use Rattle.rules.proofs.Laws.Kinds.{nothing_no_container}
use Rattle.tables.specs.Layout.{View, row_count, link_count}
use Rattle.book.specs.declared.find.Entry.{Entry}
use Rattle.book.specs.Book.{id_of, code_of, label_of, mark_of, from_of, to_of, row_of, object_at, world_of}
use Rattle.book.specs.Sound.{Live, On}
use Rattle.book.specs.Placed.{Placed}
use Rattle.book.specs.Find.{row_of_kind, thread_row, container_row, leads, link_between, entry_in, entry_place}
use Rattle.book.specs.Laws.First.{no_place, same_place, found_cases, first_low, first_hit, first_none}
use Rattle.book.specs.Laws.Tie.{row_found, row_is, obj_found, obj_missing, object_thread, object_container, object_label, linked_is, rows_linked, linked_rows}

-- ---- what is found

-- A row that is found is one of the rows.
pub row_low : (v : View) (o r : ℕ) → row_of v o ≡ Some r → r < row_count
row_low v o r e = (row_is v o r e).0.low

-- No row, a row of that kind, a row of another kind.
module _ (k : ℕ) (v : View) (o : ℕ) where
  pub kind_none : row_of v o ≡ None → row_of_kind k v o ≡ None
  unfolding row_of_kind
  kind_none e = rw e

  pub kind_at : (r : ℕ) → row_of v o ≡ Some r → row_of_kind k v o ≡ then_some (eqb (code_of v r) k) r
  unfolding row_of_kind
  kind_at r e = rw e

  pub kind_hit : (r : ℕ) → row_of v o ≡ Some r → code_of v r ≡ k → row_of_kind k v o ≡ Some r
  kind_hit r e q = kind_at r e ∙ ap (λ (t : Bool). then_some t r) (eq-eqb (code_of v r) k q)

  pub kind_miss : (r : ℕ) → row_of v o ≡ Some r → (code_of v r ≡ k → ⊥) → row_of_kind k v o ≡ None
  kind_miss r e ne = kind_at r e ∙ ap (λ (t : Bool). then_some t r) (ne_eqb (code_of v r) k ne)

  -- What is found is the id's row and of that kind.
  pub kind_is : (r : ℕ) → row_of_kind k v o ≡ Some r → (row_of v o ≡ Some r) × (code_of v r ≡ k)
  kind_is r h =
      found_cases {C = (row_of v o ≡ Some r) × (code_of v r ≡ k)} (row_of v o)
      (λ s e. bool_cases {C = (row_of v o ≡ Some r) × (code_of v r ≡ k)} (eqb (code_of v s) k)
      (λ t. let q = eqb-true (code_of v s) k t in
      let z = same_place s r (sym (kind_hit s e q) ∙ h) in
      (e ∙ ap Some z, subst (λ (i : ℕ). code_of v i ≡ k) z q))
      (λ t. absurd (no_place r (sym h ∙ kind_miss s e (eqb-false (code_of v s) k t)))))
      (λ e. absurd (no_place r (sym h ∙ kind_none e)))

-- So it is live, has the id and is of that kind.
pub kind_row : (k : ℕ) (v : View) (o r : ℕ) → row_of_kind k v o ≡ Some r → (Live v r) × (id_of v r ≡ o) × (code_of v r ≡ k)
kind_row k v o r h = let (e, q) = kind_is k v o r h in let (a, i) = row_is v o r e in (a, i, q)

pub container_low : (v : View) (o r : ℕ) → container_row v o ≡ Some r → r < row_count
container_low v o r e = row_low v o r (kind_is container_code v o r e).0

-- The entry by what the three lookups find.
module _ (v : View) (d o : ℕ) where
  pub entry_no_container : container_row v d ≡ None → entry_place v d o ≡ None
  unfolding entry_place
  entry_no_container e = rw e

  pub entry_no_object : (c : ℕ) → container_row v d ≡ Some c → row_of v o ≡ None → entry_place v d o ≡ None
  unfolding entry_place
  entry_no_object c e f = rw (e, f)

  pub entry_no_link : (c r : ℕ) → container_row v d ≡ Some c → row_of v o ≡ Some r → link_between v c r ≡ None → entry_place v d o ≡ None
  unfolding entry_place
  entry_no_link c r e f g = rw (e, f, g)

  pub entry_at : (c r l : ℕ) → container_row v d ≡ Some c → row_of v o ≡ Some r → link_between v c r ≡ Some l → entry_place v d o ≡ Some (entry_in c r l)
  unfolding entry_place
  entry_at c r l e f g = rw (e, f, g)

-- ---- against the world

nothing_no_thread : is_thread nothing.kind ≡ false
unfolding nothing is_thread kind_code
nothing_no_thread = refl

module _ (v : View) (area : List ℕ) (o : ℕ) where
  -- Where a thread's row is found, the world has a thread with that id, and it is the object at the row.
  pub thread_found : (r : ℕ) → thread_row v o ≡ Some r → (is_thread ((world_of v area).obj o).kind ≡ true) × ((world_of v area).obj o ≡ object_at v area r)
  thread_found r h =
      let (e, q) = kind_is thread_code v o r h in
      let x = obj_found v area o r e in
      (ap (λ (y : Obj). is_thread y.kind) x ∙ object_thread v area r ∙ eq-eqb (code_of v r) thread_code q, x)

  -- Where none is found, the id is no thread's.
  pub thread_none : thread_row v o ≡ None → is_thread ((world_of v area).obj o).kind ≡ false
  thread_none h =
      found_cases (row_of v o)
      (λ r e. ap (λ (y : Obj). is_thread y.kind) (obj_found v area o r e) ∙ object_thread v area r
      ∙ ne_eqb (code_of v r) thread_code (λ q. no_place r (sym (kind_hit thread_code v o r e q) ∙ h)))
      (λ e. ap (λ (y : Obj). is_thread y.kind) (obj_missing v area o e) ∙ nothing_no_thread)

  -- The same of containers.
  pub container_found : (r : ℕ) → container_row v o ≡ Some r → (is_container ((world_of v area).obj o).kind ≡ true) × ((world_of v area).obj o ≡ object_at v area r)
  container_found r h =
      let (e, q) = kind_is container_code v o r h in
      let x = obj_found v area o r e in
      (ap (λ (y : Obj). is_container y.kind) x ∙ object_container v area r ∙ eq-eqb (code_of v r) container_code q, x)

  pub container_none : container_row v o ≡ None → is_container ((world_of v area).obj o).kind ≡ false
  container_none h =
      found_cases (row_of v o)
      (λ r e. ap (λ (y : Obj). is_container y.kind) (obj_found v area o r e) ∙ object_container v area r
      ∙ ne_eqb (code_of v r) container_code (λ q. no_place r (sym (kind_hit container_code v o r e q) ∙ h)))
      (λ e. ap (λ (y : Obj). is_container y.kind) (obj_missing v area o e) ∙ nothing_no_container)

-- A container whose row is found is open to whoever may read the row's label; where none is found nothing is open.
module _ (v : View) (area : List ℕ) (t : Obj) (d : ℕ) where
  pub opens_at : (c : ℕ) → container_row v d ≡ Some c → opens (world_of v area) t d ≡ may_read t.label (label_of v c)
  unfolding opens
  opens_at c h =
      let (k, x) = container_found v area d c h in
      ap₂ (λ (b : Bool) (l : Label). b && may_read t.label l) k (ap (λ (y : Obj). y.label) x ∙ object_label v area c)

  pub opens_none : container_row v d ≡ None → opens (world_of v area) t d ≡ false
  unfolding opens
  opens_none h = ap (λ (b : Bool). b && may_read t.label ((world_of v area).obj d).label) (container_none v area d h)

-- ---- links

-- What is found is a live link from the one row to the other,
pub link_found : (v : View) (c r l : ℕ) → link_between v c r ≡ Some l → (On v l) × (from_of v l ≡ c) × (to_of v l ≡ r)
unfolding link_between
link_found v c r l h =
    let (e, f) = both_parts (eqb (mark_of v l) (c + 1)) (eqb (to_of v l) r) (first_hit link_count (leads v c r) l h) in
    let m = eqb-true (mark_of v l) (c + 1) e in
    (record { low = first_low link_count (leads v c r) l h; used = λ z. omega arith }, omega arith, eqb-true (to_of v l) r f)

module _ (v : View) (area : List ℕ) (c r : ℕ) where
  -- so that their ids are linked,
  pub link_linked : (l : ℕ) → link_between v c r ≡ Some l → (world_of v area).linked (id_of v c) (id_of v r) ≡ true
  link_linked l h = let (on, e, f) = link_found v c r l h in rows_linked v area l c r on e f

  -- and where none is found they are not.
  pub link_unlinked : Placed v → Live v c → Live v r → link_between v c r ≡ None → (world_of v area).linked (id_of v c) (id_of v r) ≡ false
  unfolding link_between
  link_unlinked p a b h =
      not_i ((world_of v area).linked (id_of v c) (id_of v r)) (λ t.
      let (l, on, e, f) = linked_rows v area p c r a b t in
      let u = on.used in
      let m : mark_of v l ≡ c + 1 = bool_cases (eqb (mark_of v l) 0) (λ z. absurd (u (eqb-true (mark_of v l) 0 z))) (λ z. let n = eqb-false (mark_of v l) 0 z in omega arith) in
      not_both (leads v c r l) (both_of (eqb (mark_of v l) (c + 1)) (eqb (to_of v l) r) (eq-eqb (mark_of v l) (c + 1) m) (eq-eqb (to_of v l) r f))
      (first_none link_count (leads v c r) h l on.low))

-- ---- entries

no_entry : (c r l : ℕ) → Some (entry_in c r l) ≡ None → ⊥
no_entry c r l e = let z : ◌≡◌ {A = ℕ} 0 1 = cc in omega arith

-- two entries that are one
same_entry : (x y : Entry) → Some x ≡ Some y → x ≡ y
same_entry x y e = cc

-- what an entry that is found says: the rows of the container and of the object, and the link between them
pub record Entered (v : View) (area : List ℕ) (d o c r l : ℕ) : Type 0 where
  pub container_row_lem : container_row v d ≡ Some c
  pub object_row : row_of v o ≡ Some r
  pub link_row : link_between v c r ≡ Some l
  pub container_live : Live v c
  pub container_id : id_of v c ≡ d
  pub object_live : Live v r
  pub object_id : id_of v r ≡ o
  pub link_on : On v l
  pub link_from_lem : from_of v l ≡ c
  pub link_to_lem : to_of v l ≡ r
  pub is_container_lem : is_container ((world_of v area).obj d).kind ≡ true
  pub is_linked : (world_of v area).linked d o ≡ true
  pub container_object : (world_of v area).obj d ≡ object_at v area c
  pub object_object : (world_of v area).obj o ≡ object_at v area r

module _ (v : View) (d o : ℕ) where
  -- An entry is found by all three lookups.
  pub entry_parts : (c r l : ℕ) → entry_place v d o ≡ Some (entry_in c r l) → (container_row v d ≡ Some c) × (row_of v o ≡ Some r) × (link_between v c r ≡ Some l)
  entry_parts c r l h =
      let P : Type 0 = (container_row v d ≡ Some c) × (row_of v o ≡ Some r) × (link_between v c r ≡ Some l) in
      found_cases {C = P} (container_row v d)
      (λ c₂ e. found_cases {C = P} (row_of v o)
      (λ r₂ f. found_cases {C = P} (link_between v c₂ r₂)
      (λ l₂ g. let q = same_entry (entry_in c₂ r₂ l₂) (entry_in c r l) (sym (entry_at v d o c₂ r₂ l₂ e f g) ∙ h) in
      let x : c₂ ≡ c = ap (λ (p : Entry). p.container) q in
      let y : r₂ ≡ r = ap (λ (p : Entry). p.object) q in
      let z : l₂ ≡ l = ap (λ (p : Entry). p.link) q in
      (e ∙ ap Some x, f ∙ ap Some y, sym (ap₂ (link_between v) x y) ∙ g ∙ ap Some z))
      (λ g. absurd (no_entry c r l (sym h ∙ entry_no_link v d o c₂ r₂ e f g))))
      (λ f. absurd (no_entry c r l (sym h ∙ entry_no_object v d o c₂ e f))))
      (λ e. absurd (no_entry c r l (sym h ∙ entry_no_container v d o e)))

  -- An entry is found where the world has a container d that holds o, and the rows are those of d and o;
  pub entry_found : (area : List ℕ) (c r l : ℕ) → entry_place v d o ≡ Some (entry_in c r l) → Entered v area d o c r l
  entry_found area c r l h =
      let (e, f, g) = entry_parts c r l h in
      let (k, x) = container_found v area d c e in
      let (a, i) = row_is v d c (kind_is container_code v d c e).0 in
      let (b, j) = row_is v o r f in
      let (on, s, t) = link_found v c r l g in
      record {
        container_row_lem = e;
        object_row = f;
        link_row = g;
        container_live = a;
        container_id = i;
        object_live = b;
        object_id = j;
        link_on = on;
        link_from_lem = s;
        link_to_lem = t;
        is_container_lem = k;
        is_linked = subst (λ (n : ℕ). (world_of v area).linked n o ≡ true) i (subst (λ (n : ℕ). (world_of v area).linked (id_of v c) n ≡ true) j (link_linked v area c r l g));
        container_object = x;
        object_object = obj_found v area o r f;
      }

  -- where none is found d is no container or does not hold o.
  pub entry_missing : (area : List ℕ) → Placed v → (c : ℕ) → container_row v d ≡ Some c → entry_place v d o ≡ None → (world_of v area).linked d o ≡ false
  entry_missing area p c e h =
      not_i ((world_of v area).linked d o) (λ t.
      let (l, on, s, u) = linked_is v area d o t in
      let (a, i) = row_is v d c (kind_is container_code v d c e).0 in
      let b = p.to_live l on in
      let f : row_of v o ≡ Some (to_of v l) = ap (row_of v) (sym u) ∙ row_found v p (to_of v l) b in
      found_cases (link_between v c (to_of v l))
      (λ m g. no_entry c (to_of v l) m (sym (entry_at v d o c (to_of v l) m e f g) ∙ h))
      (λ g. not_both ((world_of v area).linked d o) t
      (ap₂ (world_of v area).linked (sym i) (sym u) ∙ link_unlinked v area c (to_of v l) p a b g)))

and_true : (a : Bool) → (a && true) ≡ a
and_true true = refl
and_true false = refl

and_false : (a : Bool) → (a && false) ≡ false
and_false true = refl
and_false false = refl

-- RULES 6.15: "A pair (D, O) is an entry for the caller T if D is a container, T may read D, and O is linked
-- in D." One that is found is an entry to whoever may read the container's label; what is not found is none.
module _ (v : View) (area : List ℕ) (t : Obj) (d o : ℕ) where
  pub entry_opens : (c r l : ℕ) → entry_place v d o ≡ Some (entry_in c r l) → entry (world_of v area) t d o ≡ may_read t.label (label_of v c)
  unfolding entry
  entry_opens c r l h =
      let x = entry_found v d o area c r l h in
      ap₂ (λ (a b : Bool). a && b) (opens_at v area t d c x.container_row_lem) x.is_linked ∙ and_true (may_read t.label (label_of v c))

  pub entry_none : Placed v → entry_place v d o ≡ None → entry (world_of v area) t d o ≡ false
  unfolding entry
  entry_none p h =
      found_cases (container_row v d)
      (λ c e. ap (λ (b : Bool). opens (world_of v area) t d && b) (entry_missing v d o area p c e h) ∙ and_false (opens (world_of v area) t d))
      (λ e. ap (λ (b : Bool). b && (world_of v area).linked d o) (opens_none v area t d e))
