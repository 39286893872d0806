-- Each call by itself. What it grants respects the levels, and an untainted caller gets the same verdict on
-- it in two worlds that are alike: answer, value, output and change.
use Prim.Native.Nat.{ℕ, suc, ◌+◌, ◌-◌, ◌≤◌}
use Rattle.std.proofs.Common.{arith, sym, ap₂, subst}
use Rattle.std.specs.Prelude.{Bool, ◌||◌, ◌≡◌, pos, negsuc}
use Rattle.std.proofs.Math.Bool.{true}
use Rattle.std.proofs.Math.Path.{refl, ap}
use mathlib.Core.List.{List, [], ◌∷◌, ◌++◌}
use Rattle.std.proofs.Math.Dec.{eqb}
use borrow.Author.Tests.{eqb-true, ne_eqb}
use Rattle.labels.specs.declared.Label.{Label}
use Rattle.labels.specs.Core.{at, star, level3, well_formed, has_room, with_pair, label_of}
use Rattle.rules.specs.Kernel.{is_live, is_gate, is_segment, Obj, World, keep, alter, relabel, requota, cut, link, Call, create_category, set_label, set_clearance}
use Rattle.rules.specs.Kernel.{create_container, create_segment, create_gate, create_thread, unreference, link_segment, fix_quota, move_quota, read, write, resize}
use Rattle.rules.specs.Kernel.{enter_gate, look, flow, reading, writing, grant, opens, entry, look_bytes, judge}
use Rattle.rules.proofs.Laws.Bools.{and_l, and_r, or_cases}
use Rattle.rules.proofs.Laws.Kinds.{thread_live, thread_cleared, gate_cleared, cleared_live, segment_no_thread}
use Rattle.rules.proofs.Laws.Entries.{entry_opens, entry_link}
use Rattle.rules.proofs.Laws.Must.{all_head, all_tail}
use Rattle.rules.proofs.Laws.Category.{starred_at}
use Rattle.tainted.proofs.Laws.Levels.{flow_holds, floor_holds, flows_at, floor_at, reading_holds, writing_reading}
use Rattle.tainted.proofs.Laws.Seen.{gate_open, same_kind, same_label, same_fixed, same_quota, same_unveiled}
use Rattle.tainted.proofs.Laws.Respects.{lv, Grants, Calling, pass, pass7, done, some, mine, mine_entry, found, held, make_respects}
use Rattle.tainted.proofs.Laws.Respects.{move_respects, access_respects, rewrites}
use Rattle.tainted.proofs.Laws.Same.{must_same, must7_same, and_same, Before, room, opens_same, open_obj, entry_same, entry_seen, read_obj}
use Rattle.tainted.proofs.Laws.Same.{reads_untainted, fits_same, room_same, make_same, access_same, move_same, look_seen}

pub record Unseen (v : ℕ) (x : Call) : Type 0 where
  pub respects : (w : World) (c : ℕ) → Calling v w c → Grants v w c (judge w (w.obj c) c x)
  pub same : (t : Obj) (c : ℕ) (a b : World) → Before v t a b → judge a t c x ≡ judge b t c x

module _ (v : ℕ) where
  -- ---- calls 1 to 3: the new category is not v, and a label only rises

  category : Unseen v create_category
  unfolding judge
  category =
      record {
        respects = λ w c t.
            pass _ 12 _ (λ q. done _ _ (alter c (relabel _ _)) (
              refl,
              level w c t (and_l (has_room (w.obj c).label) (eqb (w.obj c).clearance.default level3 || has_room (w.obj c).clearance) q),
            ));
        same = λ t c a b s. rw s.alike.same_next;
      }
    where
      level : (w : World) (c : ℕ) → Calling v w c → has_room (w.obj c).label ≡ true → lv v w c ≤ at (with_pair w.next star (w.obj c).label) v
      level w c t room =
          let live : is_live (w.obj c).kind ≡ true = thread_live (w.obj c).kind t.is_thread_lem in
          let formed : well_formed w.next true (w.obj c).label ≡ true =
          rw (thread_cleared (w.obj c).kind t.is_thread_lem) at (t.sound.labels c live).label in
          let new : 1 ≤ w.next = (let i = t.sound.ids c live in omega arith) in
          let old = t.terms.below_next in
          rw (starred_at w.next (w.obj c).label new formed room v, ne_eqb w.next v (λ e. omega arith)) (omega arith)

  label : (l : List ℕ) → Unseen v (set_label l)
  unfolding judge
  label l =
      record {
        respects = λ w c t. pass7 _ _ (λ q. done _ _ (alter c (relabel _ _)) (refl, flows_at v (w.obj c).label (label_of l) (flow_holds _ _ (all_head _ _ q))));
        same = λ t c a b s. refl;
      }

  clearance : (l : List ℕ) → Unseen v (set_clearance l)
  unfolding judge
  clearance l = record { respects = λ w c t. pass7 _ _ (λ q. done _ _ (alter c (relabel _ _)) (refl, omega arith)); same = λ t c a b s. refl }

  -- ---- calls 4 to 7

  container : (d : ℕ) (l y : List ℕ) (m q : ℕ) → Unseen v (create_container d l y m q)
  unfolding judge
  container d l y m q =
      record { respects = λ w c t. make_respects t d _ _; same = λ t c a b s. make_same s d _ _ _ (λ h. rw (open_obj s d h)) }

  segment : (d : ℕ) (l y : List ℕ) (q : ℕ) → Unseen v (create_segment d l y q)
  unfolding judge
  segment d l y q = record { respects = λ w c t. make_respects t d _ _; same = λ t c a b s. make_same s d _ _ _ (λ h. refl) }

  gate : (d : ℕ) (l k : List ℕ) (e : ℕ) (x y : List ℕ) → Unseen v (create_gate d l k e x y)
  unfolding judge
  gate d l k e x y = record { respects = λ w c t. make_respects t d _ _; same = λ t c a b s. make_same s d _ _ _ (λ h. refl) }

  thread : (d : ℕ) (l k y : List ℕ) → Unseen v (create_thread d l k y)
  unfolding judge
  thread d l k y = record { respects = λ w c t. make_respects t d _ _; same = λ t c a b s. make_same s d _ _ _ (λ h. refl) }

  -- ---- calls 8 and 9

  unreferenced : (d o : ℕ) → Unseen v (unreference d o)
  unfolding judge
  unreferenced d o =
      record {
        respects = λ w c t. pass _ 5 _ (λ p. pass7 _ _ (λ q. done _ _ (cut d o) (mine_entry t d o p q, entry_link w (w.obj c) d o p)));
        same = λ t c a b s.
            must_same _ _ 5 _ _ (entry_same s d o) (λ h.
            must7_same _ _ _ _ (ap (λ (x : Obj). writing t.label x.label) (open_obj s d (entry_opens a t d o h))) (λ h7. refl));
      }

  linked : (d1 o d : ℕ) → Unseen v (link_segment d1 o d)
  unfolding judge
  linked d1 o d =
      record {
        respects = λ w c t.
            pass _ 5 _ (λ p. pass _ 6 _ (λ r. pass7 _ _ (λ q. pass _ 8 _ (λ q8. pass _ 9 _ (λ q9. pass _ 10 _ (λ q10. pass _ 13 _ (λ q13.
            done _ _ (link d o) (
              mine t d _ (and_r (entry w (w.obj c) d1 o) (opens w (w.obj c) d) p) q,
              found t d1 o (and_l (entry w (w.obj c) d1 o) (opens w (w.obj c) d) p),
              r,
            ))))))));
        same = λ t c a b s.
            must_same _ _ 5 _ _ (and_same _ _ _ _ (entry_same s d1 o) (λ h. opens_same s d)) (λ h.
            let z = and_r (entry a t d1 o) (opens a t d) h in
            let q = open_obj s d z in
            let i = entry_seen s d1 o (and_l (entry a t d1 o) (opens a t d) h) in
            must_same _ _ 6 _ _ (ap is_segment (same_kind v (a.obj o) (b.obj o) i)) (λ h6.
            let m = same_label v (a.obj o) (b.obj o) i (segment_no_thread (a.obj o).kind h6) in
            must7_same _ _ _ _ (ap₂ (λ (x y : Label). writing t.label x ++ (flow y t.clearance ∷ [])) (ap (λ (x : Obj). x.label) q) m) (λ h7.
            must_same _ _ 8 _ _ (rw q) (λ h8.
            must_same _ _ 9 _ _ (same_fixed v (a.obj o) (b.obj o) i) (λ h9.
            must_same _ _ 10 _ _ (rw (s.alike.links d o (room s d z))) (λ h10.
            must_same _ _ 13 _ _ (rw (same_quota v (a.obj o) (b.obj o) i) (room_same s d (b.obj o).quota z)) (λ h13. refl)))))));
      }

  -- ---- calls 10 and 11

  fixed : (d o : ℕ) → Unseen v (fix_quota d o)
  unfolding judge
  fixed d o =
      record {
        respects = λ w c t. pass _ 5 _ (λ p. pass _ 6 _ (λ r. pass7 _ _ (λ q. done _ _ _ (d, held t d o [] p q))));
        same = λ t c a b s.
            must_same _ _ 5 _ _ (entry_same s d o) (λ h.
            let q = open_obj s d (entry_opens a t d o h) in
            let i = entry_seen s d o h in
            must_same _ _ 6 _ _ (ap is_segment (same_kind v (a.obj o) (b.obj o) i)) (λ h6.
            let m = same_label v (a.obj o) (b.obj o) i (segment_no_thread (a.obj o).kind h6) in
            must7_same _ _ _ _ (ap₂ (λ (x y : Label). writing t.label x ++ (flow t.label y ∷ [])) (ap (λ (x : Obj). x.label) q) m) (λ h7. refl)));
      }

  moved_in : (d o n : ℕ) → Unseen v (move_quota d o (pos n))
  unfolding judge
  moved_in d o n =
      record {
        respects = λ w c t. move_respects t d o _ _ (λ i f. pass _ 13 _ (λ z. done _ _ _ (d, i, f)));
        same = λ t c a b s.
            move_same s d o (λ x. []) _ _ (λ z i q.
            must_same _ _ 13 _ _ (room_same s d n z) (λ h13.
            ap (λ (k : ℕ). grant 0 [] (alter o (requota (k + n)))) (same_quota v (a.obj o) (b.obj o) i)));
      }

  -- the spare of o itself is asked for, and o is read
  taken_back : (d o n : ℕ) → Unseen v (move_quota d o (negsuc n))
  unfolding judge
  taken_back d o n =
      record {
        respects = λ w c t. move_respects t d o _ _ (λ i f. pass _ 13 _ (λ z. done _ _ _ (d, i, f)));
        same = λ t c a b s.
            move_same s d o (reading t.label) _ _ (λ z i q.
            must_same _ _ 13 _ _
            (fits_same s o (suc n) (read_obj s o i q) (reads_untainted s (a.obj o) (reading_holds t.label (a.obj o).label q))) (λ h13.
            ap (λ (k : ℕ). grant 0 [] (alter o (requota (k - suc n)))) (same_quota v (a.obj o) (b.obj o) i)));
      }

  -- ---- calls 12 to 14: the bytes of what is read are the same

  been_read : (d o k f n : ℕ) → Unseen v (read d o k f n)
  unfolding judge
  been_read d o k f n =
      record {
        respects = λ w c t. access_respects t d o _ _ (λ r q. pass _ 11 _ (λ u. done _ _ keep tt));
        same = λ t c a b s.
            access_same s d o (reading t.label) _ _ (λ i q. let e = read_obj s o i q in must_same _ _ 11 _ _ (rw e) (λ h11. rw e));
      }

  written : (d o k f n : ℕ) (l : List ℕ) → Unseen v (write d o k f n l)
  unfolding judge
  written d o k f n l =
      record {
        respects = λ w c t. access_respects t d o _ _ (λ r q. pass _ 11 _ (λ u. done _ _ _ (rewrites t o r q)));
        same = λ t c a b s.
            access_same s d o (writing t.label) _ _ (λ i q.
            let e = read_obj s o i (writing_reading t.label (a.obj o).label q) in
            must_same _ _ 11 _ _ (rw e) (λ h11. rw e));
      }

  resized : (d o n : ℕ) → Unseen v (resize d o n)
  unfolding judge
  resized d o n =
      record {
        respects = λ w c t. access_respects t d o _ _ (λ r q. pass _ 13 _ (λ u. done _ _ _ (rewrites t o r q)));
        same = λ t c a b s.
            access_same s d o (writing t.label) _ _ (λ i q.
            let e = read_obj s o i (writing_reading t.label (a.obj o).label q) in
            must_same _ _ 13 _ _ (rw e) (λ h13. rw e));
      }

  -- ---- call 15: a gate hides nothing, and holds no star in v

  entered : (d g : ℕ) (lr cr lx : List ℕ) (out : ℕ) → Unseen v (enter_gate d g lr cr lx out)
  unfolding judge
  entered d g lr cr lx out =
      record {
        respects = λ w c t.
            pass _ 5 _ (λ p. pass _ 6 _ (λ r. pass7 _ _ (λ q.
            let live = cleared_live (w.obj g).kind (gate_cleared (w.obj g).kind r) in
            done _ _ (alter c (relabel _ _)) (
              refl,
              floor_at v (w.obj c).label (some t) (w.obj g).label (label_of lr) (t.terms.no_star g live) (floor_holds _ _ _ (all_head _ _ (all_tail _ _ (all_tail _ _ q)))),
            ))));
        same = λ t c a b s.
            must_same _ _ 5 _ _ (entry_same s d g) (λ h.
            let i = entry_seen s d g h in
            must_same _ _ 6 _ _ (ap is_gate (same_kind v (a.obj g) (b.obj g) i)) (λ h6.
            let e = same_unveiled v (a.obj g) (b.obj g) i (gate_open (a.obj g).kind h6) in
            must7_same _ _ _ _ (rw e) (λ h7. rw e)));
      }

  -- ---- call 16

  looked : (d o out : ℕ) → Unseen v (look d o out)
  unfolding judge
  looked d o out =
      record {
        respects = λ w c t. pass _ 5 _ (λ p. done _ _ keep tt);
        same = λ t c a b s.
            must_same _ _ 5 _ _
            (and_same _ _ _ _ (opens_same s d) (λ h. ap (λ (k : Bool). eqb o d || k) (s.alike.links d o (room s d h)))) (λ h.
            let z = and_l (opens a t d) _ h in
            ap (λ (l : List ℕ). grant 0 l keep)
            (or_cases (eqb o d) (a.linked d o) (and_r (opens a t d) _ h)
            (λ e. ap (look_bytes t.label) (subst (λ (m : ℕ). a.obj m ≡ b.obj m) (sym (eqb-true o d e)) (open_obj s d z)))
            (λ e. look_seen s (a.obj o) (b.obj o) (s.alike.objs d o (room s d z) e))));
      }

  -- THE LAW: a case for each call
  pub each_call : (x : Call) → Unseen v x
  each_call create_category = category
  each_call (set_label l) = label l
  each_call (set_clearance l) = clearance l
  each_call (create_container d l y m q) = container d l y m q
  each_call (create_segment d l y q) = segment d l y q
  each_call (create_gate d l k e x y) = gate d l k e x y
  each_call (create_thread d l k y) = thread d l k y
  each_call (unreference d o) = unreferenced d o
  each_call (link_segment d1 o d) = linked d1 o d
  each_call (fix_quota d o) = fixed d o
  each_call (move_quota d o (pos n)) = moved_in d o n
  each_call (move_quota d o (negsuc n)) = taken_back d o n
  each_call (read d o k f n) = been_read d o k f n
  each_call (write d o k f n l) = written d o k f n l
  each_call (resize d o n) = resized d o n
  each_call (enter_gate d g lr cr lx out) = entered d g lr cr lx out
  each_call (look d o out) = looked d o out
