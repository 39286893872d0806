-- What each granted call writes into the ledger, what it changes, what its caller may write, and that no mask forbids what it links.
use Rattle.std.specs.Prelude.{ℕ, suc, ◌+◌, ◌-◌, ◌≤◌, Bool, true, false, ◌≡◌, List, [], ◌∷◌, ◌++◌, pos, negsuc}
use Rattle.std.proofs.Common.{leb-true}
use Rattle.std.proofs.lemmas.Bool.{not-true}
use Rattle.labels.specs.declared.Label.{Label}
use Rattle.labels.specs.Core.{flows, may_read, may_write}
use Rattle.rules.specs.Kernel.{World, Obj, is_live, segment, forbids, relabel, fix, requota, rewrite, Change, keep, alter, create, cut, link, Verdict, grant, must, must_hold, Call}
use Rattle.rules.specs.Kernel.{create_category, set_label, set_clearance, create_container, create_segment, create_gate, create_thread, unreference, link_segment, fix_quota}
use Rattle.rules.specs.Kernel.{move_quota, read, write, resize, enter_gate, look, call, judge, make, move, access, opens, entry, fits, spare_of, container_of, segment_of, gate_of}
use Rattle.rules.specs.Kernel.{thread_of, Condition, holds, all_hold, flow, reading, writing}
use Rattle.rules.specs.Ledger.{Line, nothing_written, made, tied, moved_in, moved_back, line_if}
use Rattle.rules.proofs.Laws.Bools.{and_r, then_i}
use Rattle.rules.proofs.Laws.Kinds.{is_segment_lem, segment_live}
use Rattle.rules.proofs.Laws.Must.{must_test, must_rest, hold_test, hold_rest, same_change, passed, all_head, all_tail, all_left, all_right}

-- A line and a change of a call that the caller c was granted in w.
pub data Booked (w : World) (c : ℕ) : Line → Change → Type 0 where
  keeps : Booked w c nothing_written keep
  relabels : (o : ℕ) (l k : Label) → Booked w c nothing_written (alter o (relabel l k))
  fixes : (o : ℕ) → Booked w c nothing_written (alter o fix)
  rewrites : (o : ℕ) (b : List ℕ) → may_write (w.obj c).label (w.obj o).label ≡ true → Booked w c nothing_written (alter o (rewrite b))
  cuts : (d o : ℕ) → Booked w c nothing_written (cut d o)
  makes : (d : ℕ) (x : Obj) → may_write (w.obj c).label (w.obj d).label ≡ true → forbids (w.obj d).mask x.kind ≡ false
      → Booked w c (made d w.next x.quota) (create d x)
  ties : (d o : ℕ) → may_write (w.obj c).label (w.obj d).label ≡ true → is_live (w.obj o).kind ≡ true
      → forbids (w.obj d).mask (w.obj o).kind ≡ false → Booked w c (tied d o) (link d o)
  moves : (d o n : ℕ) → may_write (w.obj c).label (w.obj d).label ≡ true → w.linked d o ≡ true → (w.obj o).fixed ≡ false
      → Booked w c (moved_in d o n) (alter o (requota ((w.obj o).quota + n)))
  takes : (d o n : ℕ) → may_write (w.obj c).label (w.obj d).label ≡ true → may_write (w.obj c).label (w.obj o).label ≡ true
      → w.linked d o ≡ true → (w.obj o).fixed ≡ false → n ≤ spare_of w o → Booked w c (moved_back d o n) (alter o (requota ((w.obj o).quota - n)))

-- ---- label conditions read off

pub flow_read : (t o : Label) (more : List Condition) → all_hold (flow t o ∷ more) ≡ true → flows t o ≡ true
unfolding holds flow
flow_read t o more e = all_head (flow t o) more e

pub reading_read : (t o : Label) → all_hold (reading t o) ≡ true → may_read t o ≡ true
unfolding holds reading
reading_read t o e = all_head _ [] e

pub writing_read : (t o : Label) → all_hold (writing t o) ≡ true → may_write t o ≡ true
unfolding writing
writing_read t o e =
    then_i (flows t o) (may_read t o) (flow_read t o (reading t o) e) (reading_read t o (all_tail (flow t o) (reading t o) e))

pub writing_first : (t o : Label) (more : List Condition) → all_hold (writing t o ++ more) ≡ true → may_write t o ≡ true
writing_first t o more e = writing_read t o (all_left (writing t o) more e)

-- ---- each call

module _ (w : World) (c v : ℕ) (b : List ℕ) (h : Change) where
  -- a test that was passed, and what comes of it
  pass : {C : Type 0} (p : Bool) (k : ℕ) (r : Verdict) → (p ≡ true → r ≡ grant v b h → C) → must p k r ≡ grant v b h → C
  pass p k r f e = f (must_test v b h p k r e) (must_rest v b h p k r e)

  all : {C : Type 0} (qs : List Condition) (r : Verdict) → (all_hold qs ≡ true → r ≡ grant v b h → C) → must_hold qs r ≡ grant v b h → C
  all qs r f e = f (hold_test v b h qs r e) (hold_rest v b h qs r e)

  done : (l : Line) (n : ℕ) (a : List ℕ) (g : Change) → Booked w c l g → grant n a g ≡ grant v b h → Booked w c l h
  done l n a g k e = same_change (Booked w c l) n v a b g h e k

  booked_make : (d : ℕ) (x : Obj) (more : List Condition) → make w (w.obj c) d x more ≡ grant v b h → Booked w c (made d w.next x.quota) h
  unfolding make
  booked_make d x more = pass _ 5 _ λ p. all _ _ λ q. pass _ 8 _ λ m. pass _ 13 _ λ s. done _ _ _ _ (makes d x (writing_first _ _ _ q) (not-true _ m))

  booked_access : (l : Line) (d s : ℕ) (qs : List Condition) (r : Verdict) → (all_hold qs ≡ true → r ≡ grant v b h → Booked w c l h)
      → access w (w.obj c) d s qs r ≡ grant v b h → Booked w c l h
  unfolding access
  booked_access l d s qs r f = pass _ 5 _ λ p. pass _ 6 _ λ k. all _ _ f

  booked_judge : (x : Call) → judge w (w.obj c) c x ≡ grant v b h → Booked w c (line_if w.next x) h
  unfolding judge line_if move entry fits container_of segment_of gate_of thread_of
  booked_judge create_category = pass _ 12 _ λ p. done _ _ _ _ (relabels _ _ _)
  booked_judge (set_label l) = all _ _ λ p. done _ _ _ _ (relabels _ _ _)
  booked_judge (set_clearance l) = all _ _ λ p. done _ _ _ _ (relabels _ _ _)
  booked_judge (create_container d l s m q) = booked_make d _ _
  booked_judge (create_segment d l s q) = booked_make d _ _
  booked_judge (create_gate d l k e x s) = booked_make d _ _
  booked_judge (create_thread d l k s) = booked_make d _ _
  booked_judge (unreference d o) = pass _ 5 _ λ p. all _ _ λ q. done _ _ _ _ (cuts d o)
  booked_judge (link_segment d1 o d) =
      pass _ 5 _ λ p. pass _ 6 _ λ k. all _ _ λ q. pass _ 8 _ λ m. pass _ 9 _ λ r. pass _ 10 _ λ s. pass _ 13 _ λ t.
      let here = is_segment_lem (w.obj o).kind k in
      done _ _ _ _ (ties d o (writing_first _ _ _ q) (segment_live (w.obj o).kind k) (rw here (not-true (forbids (w.obj d).mask segment) m)))
  booked_judge (fix_quota d o) = pass _ 5 _ λ p. pass _ 6 _ λ k. all _ _ λ q. done _ _ _ _ (fixes o)
  booked_judge (move_quota d o (pos n)) =
      pass _ 5 _ λ p. pass _ 6 _ λ k. all _ _ λ q. pass _ 9 _ λ r. pass _ 13 _ λ s.
      done _ _ _ _ (moves d o n (writing_first _ _ _ q) (and_r (opens w (w.obj c) d) (w.linked d o) p) (not-true (w.obj o).fixed r))
  booked_judge (move_quota d o (negsuc n)) =
      pass _ 5 _ λ p. pass _ 6 _ λ k. all _ _ λ q. pass _ 9 _ λ r. pass _ 13 _ λ s.
      let t = (w.obj c).label in
      let u = (w.obj o).label in
      let more = flow u (w.obj c).clearance ∷ reading t u in
      let q2 = all_right (writing t (w.obj d).label) (flow t u ∷ more) q in
      let read-o = reading_read t u (all_tail (flow u (w.obj c).clearance) (reading t u) (all_tail (flow t u) more q2)) in
      done _ _ _ _
      (takes d o (suc n) (writing_first _ _ _ q) (then_i (flows t u) (may_read t u) (flow_read t u more q2) read-o)
      (and_r (opens w (w.obj c) d) (w.linked d o) p) (not-true (w.obj o).fixed r) (leb-true (suc n) (spare_of w o) s))
  booked_judge (read d s k f n) = booked_access _ d s _ _ λ q. pass _ 11 _ λ p. done _ _ _ _ keeps
  booked_judge (write d s k f n a) = booked_access _ d s _ _ λ q. pass _ 11 _ λ p. done _ _ _ _ (rewrites s _ (writing_read _ _ q))
  booked_judge (resize d s n) = booked_access _ d s _ _ λ q. pass _ 13 _ λ p. done _ _ _ _ (rewrites s _ (writing_read _ _ q))
  booked_judge (enter_gate d g lr cr lv out) = pass _ 5 _ λ p. pass _ 6 _ λ k. all _ _ λ q. done _ _ _ _ (relabels _ _ _)
  booked_judge (look d o out) = pass _ 5 _ λ p. done _ _ _ _ keeps

  pub booked : (x : Call) → call w c x ≡ grant v b h → Booked w c (line_if w.next x) h
  booked x e = booked_judge x (passed w c x v b h e).judged
