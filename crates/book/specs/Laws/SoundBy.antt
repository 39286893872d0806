-- A book is sound where its positions are in order and its world is sound. So a change keeps a book sound if it keeps the positions in order and the
-- book's world becomes the changed world, which the rules keep sound.
use Rattle.std.specs.Prelude.{ℕ, ◌+◌, ◌<◌, ◌≤◌, true, false, ◌≡◌, refl, List, length, eqb}
use Rattle.std.proofs.Common.{arith, sym, ◌∙◌, ap, ap₂, subst, eqb-true, eq-eqb, ne_eqb, le-leb}
use Rattle.std.specs.Int.Bits.{bit_or}
use Rattle.std.proofs.lemmas.Bool.{eqb-false}
use Rattle.labels.specs.Core.{well_formed, flows}
use Rattle.rules.specs.Kernel.{gate_code, segment_code, container_code, is_container, has_clearance, Obj, units, max_mask, max_length}
use Rattle.rules.specs.Sound as W
use Rattle.rules.proofs.Laws.Bools.{bool_cases, not_both}
use Rattle.rules.proofs.Laws.Kinds.{container_live}
use Rattle.rules.proofs.Laws.Falls.{quota_most}
use Rattle.tables.specs.Layout.{View}
use Rattle.book.specs.Book.{next_of, root_of, id_of, code_of, mask_of, fixed_of, quota_of, len_of, label_of, clearance_of, from_of, to_of, object_at, world_of, ThreadOrGate, is_thread_or_gate}
use Rattle.book.specs.Sound.{Live, On, Range, Ends, Root, Sound, links_to, charged_to}
use Rattle.book.specs.Placed.{Placed}
pub use Rattle.book.specs.Laws.WorldSound.{placed}
use Rattle.book.specs.Laws.Tie.{same_row, same_link, object_label, object_cleared, object_clearance, object_fixed, object_bytes, object_mask, object_unfixed, bytes_length}
use Rattle.book.specs.Laws.Tie.{world_next, world_root, live_row_lem, obj_at, quota_at, live_at, container_at, cleared_at_lem, linked_at, linked_is, rows_linked, use_container_at}
use Rattle.book.specs.Laws.Tie.{use_segment_at, link_counted, link_none, link_once}

module _ (v : View) (area : List ℕ) (p : Placed v) (w : W.Sound (world_of v area)) where
  -- what is known of the object of a live row's id is known of the object at the row
  at_row : (r : ℕ) → Live v r → (P : Obj → Type 0) → P ((world_of v area).obj (id_of v r)) → P (object_at v area r)
  at_row r a P x = subst P (obj_at v area p r a) x

  cleared : (r : ℕ) → Live v r → ThreadOrGate (code_of v r) → has_clearance ((world_of v area).obj (id_of v r)).kind ≡ true
  cleared r a h = cleared_at_lem v area p r a ∙ le-leb (code_of v r) gate_code h

  ids_below : (r : ℕ) → Live v r → id_of v r < next_of v
  ids_below r a = omega (arith, (w.ids (id_of v r) (live_at v area p r a)).1, world_next v area)

  in_range : (r : ℕ) → Live v r → Range (code_of v r) (quota_of v r) (len_of v r) (fixed_of v r) (mask_of v r)
  in_range r a =
      let h = live_at v area p r a in
      let g = w.ranges (id_of v r) h in
      let q = quota_at v area p r a in
      record {
        code_most = p.code_most r a;
        quota_some = omega (arith, g.quota_some, q);
        quota_most = omega (arith, quota_most (world_of v area) w (id_of v r) h, q);
        quota_one = λ l. sym q ∙ g.quota_one (cleared r a l);
        length_most = λ e. omega (arith, at_row r a (λ x. length x.bytes ≤ max_length) g.length_most, ap (λ (b : List ℕ). length b) (object_bytes v area r e), bytes_length v area r);
        fixed_most = p.fixed_most r a;
        mask_most = λ e. omega (arith, at_row r a (λ x. x.mask ≤ max_mask) g.mask_most, object_mask v area r e);
      }

  from_container : (l : ℕ) → On v l → code_of v (from_of v l) ≡ container_code
  from_container l on =
      eqb-true (code_of v (from_of v l)) container_code
      (sym (container_at v area p (from_of v l) (p.from_live l on)) ∙ w.tree.holder (id_of v (from_of v l)) (id_of v (to_of v l)) (linked_at v area l on))

  joined : (l : ℕ) → On v l → Ends v l
  joined l on =
      record { from_low = (p.from_live l on).low; from_container = from_container l on; to_low = (p.to_live l on).low; to_live = (p.to_live l on).used }

  label_formed : (r : ℕ) → Live v r → well_formed (next_of v) (is_thread_or_gate (code_of v r)) (label_of v r) ≡ true
  label_formed r a =
      sym (ap₂ (well_formed (next_of v)) (object_cleared v area r a.used) (object_label v area r))
      ∙ at_row r a (λ x. well_formed (next_of v) (has_clearance x.kind) x.label ≡ true)
      (subst (λ (n : ℕ). well_formed n (has_clearance ((world_of v area).obj (id_of v r)).kind) ((world_of v area).obj (id_of v r)).label ≡ true) (world_next v area)
      (w.labels (id_of v r) (live_at v area p r a)).label)

  clearance_formed : (r : ℕ) → Live v r → ThreadOrGate (code_of v r) → well_formed (next_of v) false (clearance_of v r) ≡ true
  clearance_formed r a h =
      sym (ap (well_formed (next_of v) false) (object_clearance v area r a.used h))
      ∙ at_row r a (λ x. well_formed (next_of v) false x.clearance ≡ true)
      (subst (λ (n : ℕ). well_formed n false ((world_of v area).obj (id_of v r)).clearance ≡ true) (world_next v area)
      ((w.labels (id_of v r) (live_at v area p r a)).clearance (cleared r a h)))

  label_flows : (r : ℕ) → Live v r → ThreadOrGate (code_of v r) → flows (label_of v r) (clearance_of v r) ≡ true
  label_flows r a h =
      sym (ap₂ flows (object_label v area r) (object_clearance v area r a.used h))
      ∙ at_row r a (λ x. flows x.label x.clearance ≡ true) (w.clearances (id_of v r) (cleared r a h))

  -- the root's row
  root_row_lem : (r : ℕ) × (Root v r)
  root_row_lem =
      let c = w.tree.root_container in
      let (r, a, e) = live_row_lem v area (world_of v area).root (container_live ((world_of v area).obj (world_of v area).root).kind c) in
      let none : (l : ℕ) → On v l → to_of v l ≡ r → ⊥ = λ l on f.
      not_both ((world_of v area).linked (id_of v (from_of v l)) (world_of v area).root)
      (ap ((world_of v area).linked (id_of v (from_of v l))) (sym (ap (id_of v) f ∙ e)) ∙ linked_at v area l on)
      (w.tree.root_top (id_of v (from_of v l))) in (
        r,
        record {
          low = a.low;
          is_container_lem = eqb-true (code_of v r) container_code (sym (container_at v area p r a) ∙ ap (λ (o : ℕ). is_container ((world_of v area).obj o).kind) e ∙ c);
          has_id_lem = e ∙ world_root v area;
          quota_all = sym (quota_at v area p r a) ∙ ap (λ (o : ℕ). ((world_of v area).obj o).quota) e ∙ w.tree.root_quota_lem;
          no_link = link_none v r none;
        },
      )

  linked_some : (r : ℕ) → Live v r → (id_of v r ≡ root_of v → ⊥) → 1 ≤ links_to v r
  linked_some r a ne =
      let (d, h) = w.has_link (id_of v r) (live_at v area p r a) (λ e. ne (e ∙ world_root v area)) in
      let (l, on, e, f) = linked_is v area d (id_of v r) h in
      link_counted v l r on (same_row v p (to_of v l) r (p.to_live l on) a f)

  -- what is no fixed segment is not fixed in the world
  unfixed : (r : ℕ) → Live v r → ((code_of v r ≡ segment_code) × (fixed_of v r ≡ 1) → ⊥) → ((world_of v area).obj (id_of v r)).fixed ≡ false
  unfixed r a ne =
      ap (λ (x : Obj). x.fixed) (obj_at v area p r a)
      ∙ bool_cases (eqb (code_of v r) segment_code)
      (λ t. let e = eqb-true (code_of v r) segment_code t in object_fixed v area r e ∙ ne_eqb (fixed_of v r) 1 (λ f. ne (e, f)))
      (λ t. object_unfixed v area r (eqb-false (code_of v r) segment_code t))

  -- Two links to one object lead from one container, and no link stands twice.
  linked_once : (r : ℕ) → Live v r → ((code_of v r ≡ segment_code) × (fixed_of v r ≡ 1) → ⊥) → links_to v r ≤ 1
  linked_once r a ne =
      link_once v r (λ l m x y e f.
      same_link v p l m x y
      (same_row v p (from_of v l) (from_of v m) (p.from_live l x) (p.from_live m y)
      (w.one_link (id_of v (from_of v l)) (id_of v (from_of v m)) (id_of v r) (rows_linked v area l (from_of v l) r x refl e) (rows_linked v area m (from_of v m) r y refl f) (unfixed r a ne)))
      (e ∙ sym f))

  charge_fits : (r : ℕ) → Live v r → code_of v r ≡ container_code → 1 + charged_to v r ≤ quota_of v r
  charge_fits r a e = omega (arith, w.uses (id_of v r) (live_at v area p r a), use_container_at v area p ids_below r a e, quota_at v area p r a)

  bytes_fit : (r : ℕ) → Live v r → code_of v r ≡ segment_code → units (len_of v r) ≤ quota_of v r
  bytes_fit r a e = omega (arith, w.uses (id_of v r) (live_at v area p r a), use_segment_at v area p r a e, quota_at v area p r a)

  mask_kept : (l : ℕ) → On v l → code_of v (to_of v l) ≡ container_code → bit_or (mask_of v (to_of v l)) (mask_of v (from_of v l)) ≡ mask_of v (to_of v l)
  mask_kept l on e =
      let to = p.to_live l on in
      let from = p.from_live l on in
      let mo = ap (λ (x : Obj). x.mask) (obj_at v area p (to_of v l) to) ∙ object_mask v area (to_of v l) e in
      let md = ap (λ (x : Obj). x.mask) (obj_at v area p (from_of v l) from) ∙ object_mask v area (from_of v l) (from_container l on) in
      sym (ap₂ bit_or mo md)
      ∙ w.masks (id_of v (from_of v l)) (id_of v (to_of v l)) (linked_at v area l on) (container_at v area p (to_of v l) to ∙ eq-eqb (code_of v (to_of v l)) container_code e)
      ∙ mo

-- What a world's soundness says, said of rows, links and blocks.
pub sound_by : (v : View) (area : List ℕ) → Placed v → W.Sound (world_of v area) → Sound v
sound_by v area p w =
    record {
      next_most = omega (arith, w.next_most, world_next v area);
      ranges = in_range v area p w;
      ends = joined v area p w;
      ids_from = λ r a. (w.ids (id_of v r) (live_at v area p r a)).0;
      ids_below = ids_below v area p w;
      ids_apart = p.ids_apart;
      labels = label_formed v area p w;
      clearances = clearance_formed v area p w;
      flow = label_flows v area p w;
      root = root_row_lem v area p w;
      some_link = linked_some v area p w;
      one_link = linked_once v area p w;
      links_apart = p.links_apart;
      container_fits = charge_fits v area p w;
      segment_fits = bytes_fit v area p w;
      masks = mask_kept v area p w;
      owned = p.owned;
      blocks_once = p.blocks_once;
    }
