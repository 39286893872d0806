-- Theorem 5: answer 13 is given exactly where spare is wanting. A call that failed no earlier check is granted if the units are there, and else answers 13.
use Prim.Native.Nat.{ℕ, suc, ◌≤◌}
use Rattle.std.proofs.Common.{arith, le-leb}
use Rattle.std.specs.Prelude.{Bool, true, false, ◌&&◌, ◌≡◌, refl, List, leb, pos, negsuc}
use Rattle.std.proofs.Math.Bool.{cond}
use Rattle.std.proofs.lemmas.Bool.{false≢true}
use Rattle.rules.specs.Kernel.{World, Obj, is_container, is_segment, units, spare_of, Refusal, by, number_of, Verdict, grant, unless, must, why_not, must_hold, Change, Call}
use Rattle.rules.specs.Kernel.{create_category, set_label, set_clearance, create_container, create_segment, create_gate, create_thread, unreference, link_segment, fix_quota}
use Rattle.rules.specs.Kernel.{move_quota, read, write, resize, enter_gate, look, call, tests, judge, make, move, access, opens, entry, fits, container_of, segment_of, gate_of}
use Rattle.rules.specs.Kernel.{thread_of, answer_of, Condition, all_hold, History, world_after}
use Rattle.rules.specs.Histories.{WellStarted}
use Rattle.rules.specs.Ledger.{Line, made, tied, moved_in, moved_back, line_if, takes_units, asked_of, units_asked, spends, draws, needs, refused_earlier, reckoned}
use Rattle.rules.proofs.Laws.Bools.{and_r, and_i, not_both}
use Rattle.rules.proofs.Laws.Must.{why_seven}
use Rattle.rules.proofs.Laws.Entries.{opens_container, entry_opens}
use Rattle.rules.proofs.Theorems.Reckoned.{reckoned_is_spare}

-- ---- the tests before that of spare

-- a test numbered 1 to 12 that did not refuse was passed, and the rest gives the answer
past_unless : (P : ℕ → Type 0) (p : Bool) (g : Refusal) (r : Verdict) → 1 ≤ number_of g → number_of g ≤ 12
    → (p ≡ true → refused_earlier (answer_of r) ≡ false → P (answer_of r)) → refused_earlier (answer_of (unless p g r)) ≡ false → P (answer_of (unless p g r))
unfolding unless refused_earlier answer_of
past_unless P true g r l h f e = f refl e
past_unless P false g r l h f e =
    let n = number_of g in
    absurd (not_both (leb 1 n && leb n 12) (and_i (leb 1 n) (leb n 12) (le-leb 1 n l) (le-leb n 12 h)) e)

past : (P : ℕ → Type 0) (p : Bool) (k : ℕ) (r : Verdict) → k ≤ 11
    → (p ≡ true → refused_earlier (answer_of r) ≡ false → P (answer_of r)) → refused_earlier (answer_of (must p (suc k) r)) ≡ false → P (answer_of (must p (suc k) r))
unfolding must
past P p k r h = past_unless P p (by (suc k)) r (omega arith) (omega arith)

past_hold : (P : ℕ → Type 0) (qs : List Condition) (r : Verdict)
    → (all_hold qs ≡ true → refused_earlier (answer_of r) ≡ false → P (answer_of r)) → refused_earlier (answer_of (must_hold qs r)) ≡ false → P (answer_of (must_hold qs r))
unfolding must_hold
past_hold P qs r = let s = why_seven qs in past_unless P (all_hold qs) (why_not qs) r (omega arith) (omega arith)

-- the test of spare decides between 0 and 13
decides : (p : Bool) (v : ℕ) (b : List ℕ) (h : Change) → answer_of (must p 13 (grant v b h)) ≡ cond p 0 13
unfolding unless must answer_of
decides true v b h = refl
decides false v b h = refl

-- ---- what the answer a of a call goes by that, granted, writes the line l

pub record Decided (w : World) (l : Line) (a : ℕ) : Type 0 where
  pub is_container_lem : takes_units w l ≡ true → is_container (w.obj (asked_of l)).kind ≡ true
  pub answer : a ≡ cond (leb (units_asked w l) (spare_of w (asked_of l))) 0 13

module _ (w : World) (c : ℕ) where
  past_judge : (P : ℕ → Type 0) (x : Call) → (refused_earlier (answer_of (judge w (w.obj c) c x)) ≡ false → P (answer_of (judge w (w.obj c) c x)))
      → refused_earlier (answer_of (call w c x)) ≡ false → P (answer_of (call w c x))
  unfolding call tests
  past_judge P x f = past P _ 1 _ (omega arith) λ n. past P _ 2 _ (omega arith) λ t. past P _ 3 _ (omega arith) λ g. f

  past_move : (P : ℕ → Type 0) (d o : ℕ) (more : List Condition) (r : Verdict) → (is_container (w.obj d).kind ≡ true → P (answer_of r))
      → refused_earlier (answer_of (move w (w.obj c) d o more r)) ≡ false → P (answer_of (move w (w.obj c) d o more r))
  unfolding move
  past_move P d o more r f =
      past P _ 4 _ (omega arith) λ p. past P _ 5 _ (omega arith) λ k. past_hold P _ _ λ q. past P _ 8 _ (omega arith) λ n z.
      f (opens_container w (w.obj c) d (entry_opens w (w.obj c) d o p))

  decided_make : (d n : ℕ) (x : Obj) (more : List Condition) → refused_earlier (answer_of (make w (w.obj c) d x more)) ≡ false
      → Decided w (made d n x.quota) (answer_of (make w (w.obj c) d x more))
  unfolding make fits asked_of units_asked
  decided_make d n x more =
      let P : ℕ → Type 0 = Decided w (made d n x.quota) in
      past P _ 4 _ (omega arith) λ p. past_hold P _ _ λ q. past P _ 7 _ (omega arith) λ m z.
      record { is_container_lem = λ s. opens_container w (w.obj c) d p; answer = decides _ _ _ _ }

  decided_judge : (x : Call) → spends w x ≡ true → refused_earlier (answer_of (judge w (w.obj c) c x)) ≡ false
      → Decided w (line_if w.next x) (answer_of (judge w (w.obj c) c x))
  unfolding judge line_if takes_units asked_of units_asked fits container_of segment_of gate_of thread_of
  decided_judge create_category s = absurd (false≢true s)
  decided_judge (set_label l) s = absurd (false≢true s)
  decided_judge (set_clearance l) s = absurd (false≢true s)
  decided_judge (create_container d l t m q) s = decided_make d w.next _ _
  decided_judge (create_segment d l t q) s = decided_make d w.next _ _
  decided_judge (create_gate d l k e x t) s = decided_make d w.next _ _
  decided_judge (create_thread d l k t) s = decided_make d w.next _ _
  decided_judge (unreference d o) s = absurd (false≢true s)
  decided_judge (link_segment d1 o d) s =
      let P : ℕ → Type 0 = Decided w (tied d o) in
      past P _ 4 _ (omega arith) λ p. past P _ 5 _ (omega arith) λ k. past_hold P _ _ λ q. past P _ 7 _ (omega arith) λ m.
      past P _ 8 _ (omega arith) λ f. past P _ 9 _ (omega arith) λ n z.
      record { is_container_lem = λ e. opens_container w (w.obj c) d (and_r (entry w (w.obj c) d1 o) (opens w (w.obj c) d) p); answer = decides _ _ _ _ }
  decided_judge (fix_quota d o) s = absurd (false≢true s)
  decided_judge (move_quota d o (pos n)) s = past_move (Decided w (moved_in d o n)) d o _ _ λ k. record { is_container_lem = λ e. k; answer = decides _ _ _ _ }
  decided_judge (move_quota d o (negsuc n)) s = past_move (Decided w (moved_back d o (suc n))) d o _ _ λ k. record { is_container_lem = λ e. e; answer = decides _ _ _ _ }
  decided_judge (read d s k f n) e = absurd (false≢true e)
  decided_judge (write d s k f n b) e = absurd (false≢true e)
  decided_judge (resize d s n) e = absurd (false≢true e)
  decided_judge (enter_gate d g lr cr lv out) e = absurd (false≢true e)
  decided_judge (look d o out) e = absurd (false≢true e)

  pub decided : (x : Call) → spends w x ≡ true → refused_earlier (answer_of (call w c x)) ≡ false → Decided w (line_if w.next x) (answer_of (call w c x))
  decided x s = past_judge (Decided w (line_if w.next x)) x (decided_judge x s)

  -- ---- by the spare in the world

  -- A call that creates, links or moves units out of a container, and fails no check numbered 1 to 12, is granted if the container has the units to spare, and
  -- else answers 13.
  pub exactly_by_spare : (x : Call) → spends w x ≡ true → refused_earlier (answer_of (call w c x)) ≡ false
      → answer_of (call w c x) ≡ cond (leb (needs w x) (spare_of w (draws w x))) 0 13
  exactly_by_spare x s e = (decided x s e).answer

  -- A call that takes n units back, and fails no check numbered 1 to 12, is granted if the object has n units to spare, and else answers 13.
  pub back_by_spare : (d o n : ℕ) → refused_earlier (answer_of (call w c (move_quota d o (negsuc n)))) ≡ false
      → answer_of (call w c (move_quota d o (negsuc n))) ≡ cond (leb (suc n) (spare_of w o)) 0 13
  unfolding judge fits
  back_by_spare d o n =
      let P : ℕ → Type 0 = λ a. a ≡ cond (leb (suc n) (spare_of w o)) 0 13 in
      past_judge P (move_quota d o (negsuc n)) (past_move P d o _ _ λ k. decides _ _ _ _)

  pub decided_resize : (d s n : ℕ) → refused_earlier (answer_of (call w c (resize d s n))) ≡ false
      → (is_segment (w.obj s).kind ≡ true) × (answer_of (call w c (resize d s n)) ≡ cond (leb (units n) (w.obj s).quota) 0 13)
  unfolding judge access
  decided_resize d s n =
      let P : ℕ → Type 0 = λ a. (is_segment (w.obj s).kind ≡ true) × (a ≡ cond (leb (units n) (w.obj s).quota) 0 13) in
      past_judge P (resize d s n) (past P _ 4 _ (omega arith) λ p. past P _ 5 _ (omega arith) λ k. past_hold P _ _ λ q z. (k, decides _ _ _ _))

  -- A resize that fails no check numbered 1 to 12 is granted if what the new length uses is within the segment's quota, and else answers 13.
  pub resize_by_quota : (d s n : ℕ) → refused_earlier (answer_of (call w c (resize d s n))) ≡ false
      → answer_of (call w c (resize d s n)) ≡ cond (leb (units n) (w.obj s).quota) 0 13
  resize_by_quota d s n e = (decided_resize d s n e).1

-- ---- by the spare reckoned from the history

module _ (h : History) (started_well : WellStarted h) (c : ℕ) where
  -- The same after any calls from a start, by the spare that the history tells: granted if the units are there, and else 13.
  pub exactly : (x : Call) → spends (world_after h) x ≡ true → refused_earlier (answer_of (call (world_after h) c x)) ≡ false
      → answer_of (call (world_after h) c x) ≡ cond (leb (needs (world_after h) x) (reckoned h (draws (world_after h) x))) 0 13
  exactly x s e =
      let g = decided (world_after h) c x s e in
      rw (reckoned_is_spare h started_well (draws (world_after h) x) (g.is_container_lem s)) g.answer
