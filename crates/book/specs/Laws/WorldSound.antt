-- The world of a sound book is sound.
use Rattle.std.specs.Prelude.{ℕ, suc, ◌*◌, ◌<◌, ◌≤◌, true, false, ◌≡◌, refl, List, length, take, drop, eqb}
use Rattle.std.proofs.Common.{mul-le-mul_right, suc-mul, arith, sym, ◌∙◌, ap, ap₂, subst, length-drop, length-take-le, eqb-true, eq-eqb, leb-true, leb-false}
use Rattle.std.specs.Int.Bits.{bit_or}
use Rattle.std.proofs.lemmas.Bool.{eqb-false}
use Rattle.labels.specs.declared.Label.{Label}
use Rattle.labels.specs.Core.{well_formed, flows, word_count}
use Rattle.rules.specs.Kernel.{gate_code, segment_code, container_code, is_live, is_container, has_clearance, Obj, use_of, text_size}
use Rattle.rules.specs.Sound as W
use Rattle.rules.proofs.Laws.Bools.{bool_cases, not_i, not_both}
use Rattle.rules.proofs.Laws.Kinds.{cleared_live}
use Rattle.tables.specs.Layout.{View, row_count, label_words_t, clear_words_t, description_t, closure_t}
use Rattle.book.specs.Book.{next_of, root_of, id_of, code_of, mask_of, fixed_of, label_of, clearance_of, from_of, to_of, object_at, world_of, ThreadOrGate, is_thread_or_gate}
use Rattle.book.specs.Sound.{Live, Sound}
use Rattle.book.specs.Placed.{Placed}
use Rattle.book.specs.Shape.{Shape}
use Rattle.book.specs.Laws.Tie.{code_live, same_row, object_label, object_quota, object_description, object_gate, object_segment, object_container, object_cleared}
use Rattle.book.specs.Laws.Tie.{object_clearance, object_fixed, object_bytes, object_mask, object_closure, object_unfixed, object_no_bytes, object_no_mask, bytes_length}
use Rattle.book.specs.Laws.Tie.{world_next, world_root, live_row_lem, obj_at, quota_at, live_at, container_at, linked_at, linked_is, use_container_at, use_segment_at}
use Rattle.book.specs.Laws.Tie.{use_cleared_at, link_counted, link_there, link_same}

-- What of a book's soundness its world cannot see.
pub placed : (v : View) → Sound v → Placed v
placed v s =
    record {
      code_most = λ r a. (s.ranges r a).code_most;
      fixed_most = λ r a. (s.ranges r a).fixed_most;
      ids_apart = s.ids_apart;
      from_live = λ l a. let e = s.ends l a in code_live v (from_of v l) container_code e.from_low e.from_container (omega arith);
      to_live = λ l a. let e = s.ends l a in record { low = e.to_low; used = e.to_live };
      links_apart = s.links_apart;
      owned = s.owned;
      blocks_once = s.blocks_once;
    }

-- a row's part of a table
part_length : (n r : ℕ) (l : List ℕ) → r < row_count → length l ≡ row_count * n → length (take n (drop (r * n) l)) ≡ n
part_length n r l h e =
    length-take-le n (drop (r * n) l) (omega (arith, length-drop (r * n) l, e, mul-le-mul_right {m = suc r} {n = row_count} n h, suc-mul r n))

module _ (v : View) (area : List ℕ) (p : Placed v) where
  -- What holds of the object at each live row holds of each live object.
  pub by_row : (P : ℕ → Obj → Type 0) → ((r : ℕ) → Live v r → P (id_of v r) (object_at v area r))
      → (o : ℕ) → is_live ((world_of v area).obj o).kind ≡ true → P o ((world_of v area).obj o)
  by_row P f o h =
      let (r, a, e) = live_row_lem v area o h in
      subst (λ (i : ℕ). P i ((world_of v area).obj i)) e (subst (P (id_of v r)) (sym (obj_at v area p r a)) (f r a))

-- ---- the object at a row

module _ (v : View) (area : List ℕ) (shape : Shape v) (s : Sound v) (r : ℕ) (a : Live v r) where
  low_code : has_clearance (object_at v area r).kind ≡ true → ThreadOrGate (code_of v r)
  low_code h = leb-true (code_of v r) gate_code (sym (object_cleared v area r a.used) ∙ h)

  label_long : length (label_of v r).words ≡ word_count
  label_long = part_length word_count r v.label_words a.low (shape.long label_words_t)

  clearance_long : length (clearance_of v r).words ≡ word_count
  clearance_long = part_length word_count r v.clear_words a.low (shape.long clear_words_t)

  in_range : W.InRange (object_at v area r)
  in_range =
      let g = s.ranges r a in
      record {
        quota_some = omega (arith, g.quota_some, object_quota v area r);
        quota_one = λ h. object_quota v area r ∙ g.quota_one (low_code h);
        mask_most = bool_cases (eqb (code_of v r) container_code)
            (λ t. let e = eqb-true (code_of v r) container_code t in omega (arith, object_mask v area r e, g.mask_most e))
            (λ t. omega (arith, object_no_mask v area r (eqb-false (code_of v r) container_code t)));
        length_most = bool_cases (eqb (code_of v r) segment_code)
            (λ t. let e = eqb-true (code_of v r) segment_code t in omega (arith, ap (λ (b : List ℕ). length b) (object_bytes v area r e), bytes_length v area r, g.length_most e))
            (λ t. omega (arith, ap (λ (b : List ℕ). length b) (object_no_bytes v area r (eqb-false (code_of v r) segment_code t))));
        fixed_segment = λ h. bool_cases (eqb (code_of v r) segment_code)
            (λ t. object_segment v area r ∙ t)
            (λ t. not_both (object_at v area r).fixed h (object_unfixed v area r (eqb-false (code_of v r) segment_code t)));
        label_words_lem = ap (λ (x : Label). length x.words) (object_label v area r) ∙ label_long;
        clearance_words = λ h. ap (λ (x : Label). length x.words) (object_clearance v area r a.used (low_code h)) ∙ clearance_long;
        description_size = ap (λ (b : List ℕ). length b) (object_description v area r) ∙ part_length text_size r v.description a.low (shape.long description_t);
        closure_size = λ h.
            ap (λ (b : List ℕ). length b) (object_closure v area r (eqb-true (code_of v r) gate_code (sym (object_gate v area r) ∙ h)))
            ∙ part_length text_size r v.closure a.low (shape.long closure_t);
      }

  formed : W.Formed (next_of v) (object_at v area r)
  formed =
      record {
        label = ap₂ (well_formed (next_of v)) (object_cleared v area r a.used) (object_label v area r) ∙ s.labels r a;
        clearance = λ h. ap (well_formed (next_of v) false) (object_clearance v area r a.used (low_code h)) ∙ s.clearances r a (low_code h);
      }

  flowing : has_clearance (object_at v area r).kind ≡ true → flows (object_at v area r).label (object_at v area r).clearance ≡ true
  flowing h = ap₂ flows (object_label v area r) (object_clearance v area r a.used (low_code h)) ∙ s.flow r a (low_code h)

  -- use within quota, by kind
  fitting : use_of (world_of v area) (id_of v r) ≤ ((world_of v area).obj (id_of v r)).quota
  fitting =
      let p = placed v s in
      let g = s.ranges r a in
      let q = quota_at v area p r a in
      bool_cases (is_thread_or_gate (code_of v r))
      (λ t. let h = leb-true (code_of v r) gate_code t in omega (arith, use_cleared_at v area p r a h, g.quota_some, q))
      (λ t. let h = leb-false (code_of v r) gate_code t in
      bool_cases (eqb (code_of v r) segment_code)
      (λ u. let e = eqb-true (code_of v r) segment_code u in omega (arith, use_segment_at v area p r a e, s.segment_fits r a e, q))
      (λ u. let ne = eqb-false (code_of v r) segment_code u in
      let e : code_of v r ≡ container_code = omega (arith, g.code_most) in
      omega (arith, use_container_at v area p s.ids_below r a e, s.container_fits r a e, q)))

-- ---- the tree

module _ (v : View) (area : List ℕ) (s : Sound v) where
  root_obj : (world_of v area).obj (root_of v) ≡ object_at v area s.root.0
  root_obj =
      let (r, root) = s.root in
      ap (world_of v area).obj (sym root.has_id_lem) ∙ obj_at v area (placed v s) r (code_live v r container_code root.low root.is_container_lem (omega arith))

  root_none : (d : ℕ) → (world_of v area).linked d (root_of v) ≡ false
  root_none d = not_i ((world_of v area).linked d (root_of v)) (λ h.
      let (r, root) = s.root in
      let p = placed v s in
      let (l, on, e, f) = linked_is v area d (root_of v) h in
      let t : to_of v l ≡ r = same_row v p (to_of v l) r (p.to_live l on) (code_live v r container_code root.low root.is_container_lem (omega arith)) (f ∙ sym root.has_id_lem) in
      omega (arith, link_counted v l r on t, root.no_link))

  holding : (d o : ℕ) → (world_of v area).linked d o ≡ true → is_container ((world_of v area).obj d).kind ≡ true
  holding d o h =
      let p = placed v s in
      let (l, on, e, f) = linked_is v area d o h in
      subst (λ (i : ℕ). is_container ((world_of v area).obj i).kind ≡ true) e
      (container_at v area p (from_of v l) (p.from_live l on) ∙ eq-eqb (code_of v (from_of v l)) container_code (s.ends l on).from_container)

  being_held : (d o : ℕ) → (world_of v area).linked d o ≡ true → is_live ((world_of v area).obj o).kind ≡ true
  being_held d o h =
      let p = placed v s in
      let (l, on, e, f) = linked_is v area d o h in
      subst (λ (i : ℕ). is_live ((world_of v area).obj i).kind ≡ true) f (live_at v area p (to_of v l) (p.to_live l on))

  tree : W.Tree (world_of v area)
  tree =
      let (r, root) = s.root in
      let e = ap (world_of v area).obj (world_root v area) ∙ root_obj in
      record {
        root_container = ap (λ (x : Obj). is_container x.kind) e ∙ object_container v area r ∙ eq-eqb (code_of v r) container_code root.is_container_lem;
        root_quota_lem = ap (λ (x : Obj). x.quota) e ∙ object_quota v area r ∙ root.quota_all;
        root_top = λ d. ap ((world_of v area).linked d) (world_root v area) ∙ root_none d;
        holder = holding;
        held = being_held;
      }

  -- ---- the links of an object

  some_holder : (o : ℕ) → is_live ((world_of v area).obj o).kind ≡ true → (o ≡ (world_of v area).root → ⊥) → (d : ℕ) × ((world_of v area).linked d o ≡ true)
  some_holder o h ne =
      let (r, a, e) = live_row_lem v area o h in
      let (l, on, f) = link_there v r (s.some_link r a (λ q. ne (sym e ∙ q ∙ sym (world_root v area)))) in
      (id_of v (from_of v l), subst (λ (i : ℕ). (world_of v area).linked (id_of v (from_of v l)) i ≡ true) (ap (id_of v) f ∙ e) (linked_at v area l on))

  one_holder : (d e o : ℕ) → (world_of v area).linked d o ≡ true → (world_of v area).linked e o ≡ true → ((world_of v area).obj o).fixed ≡ false → d ≡ e
  one_holder d e o h k u =
      let p = placed v s in
      let (l, x, a, b) = linked_is v area d o h in
      let (m, y, c, f) = linked_is v area e o k in
      let r = to_of v l in
      let live = p.to_live l x in
      let same : to_of v m ≡ r = same_row v p (to_of v m) r (p.to_live m y) live (f ∙ sym b) in
      let free : (code_of v r ≡ segment_code) × (fixed_of v r ≡ 1) → ⊥ = λ q.
      not_both ((world_of v area).obj o).fixed
      (ap (λ (i : ℕ). ((world_of v area).obj i).fixed) (sym b) ∙ ap (λ (z : Obj). z.fixed) (obj_at v area p r live)
      ∙ object_fixed v area r q.0 ∙ eq-eqb (fixed_of v r) 1 q.1) u in
      sym a ∙ ap (λ (i : ℕ). id_of v (from_of v i)) (link_same v r (s.one_link r live free) l m x y refl same) ∙ c

  mask_kept : (d o : ℕ) → (world_of v area).linked d o ≡ true → is_container ((world_of v area).obj o).kind ≡ true
      → bit_or ((world_of v area).obj o).mask ((world_of v area).obj d).mask ≡ ((world_of v area).obj o).mask
  mask_kept d o h k =
      let p = placed v s in
      let (l, on, e, f) = linked_is v area d o h in
      let to = p.to_live l on in
      let from = p.from_live l on in
      let c : code_of v (to_of v l) ≡ container_code = eqb-true (code_of v (to_of v l)) container_code
      (sym (container_at v area p (to_of v l) to) ∙ ap (λ (i : ℕ). is_container ((world_of v area).obj i).kind) f ∙ k) in
      let mo : ((world_of v area).obj o).mask ≡ mask_of v (to_of v l) =
      ap (λ (i : ℕ). ((world_of v area).obj i).mask) (sym f) ∙ ap (λ (z : Obj). z.mask) (obj_at v area p (to_of v l) to) ∙ object_mask v area (to_of v l) c in
      let md : ((world_of v area).obj d).mask ≡ mask_of v (from_of v l) =
      ap (λ (i : ℕ). ((world_of v area).obj i).mask) (sym e) ∙ ap (λ (z : Obj). z.mask) (obj_at v area p (from_of v l) from)
      ∙ object_mask v area (from_of v l) (s.ends l on).from_container in
      ap₂ bit_or mo md ∙ s.masks l on c ∙ sym mo

-- The world that a sound book spells is sound, whatever the data area holds.
pub world_sound : (v : View) (area : List ℕ) → Shape v → Sound v → W.Sound (world_of v area)
world_sound v area shape s =
    let p = placed v s in
    record {
      next_most = omega (arith, world_next v area, s.next_most);
      ranges = by_row v area p (λ o x. W.InRange x) (in_range v area shape s);
      ids = λ o h. let (a, b) = by_row v area p (λ o x. (1 ≤ o) × (o < next_of v)) (λ r a. (s.ids_from r a, s.ids_below r a)) o h in (a, omega (arith, world_next v area));
      labels = λ o h. subst (λ (n : ℕ). W.Formed n ((world_of v area).obj o)) (sym (world_next v area)) (by_row v area p (λ o x. W.Formed (next_of v) x) (formed v area shape s) o h);
      clearances = λ o h.
          by_row v area p (λ o x. has_clearance x.kind ≡ true → flows x.label x.clearance ≡ true) (flowing v area shape s) o (cleared_live ((world_of v area).obj o).kind h) h;
      tree = tree v area s;
      has_link = some_holder v area s;
      one_link = one_holder v area s;
      uses = λ o h.
          let (r, a, e) = live_row_lem v area o h in
          subst (λ (i : ℕ). use_of (world_of v area) i ≤ ((world_of v area).obj i).quota) e (fitting v area shape s r a);
      masks = mask_kept v area s;
    }
