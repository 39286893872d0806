-- What each call grants once it has passed its tests.
use Rattle.std.specs.Prelude.{ℕ, suc, ◌+◌, ◌*◌, ◌-◌, Bool, true, ◌≡◌, List, [], take, drop, pos, negsuc}
use Rattle.std.specs.Int.Bits.{bit_or}
use Rattle.labels.specs.Core.{with_pair, label_of, star}
use Rattle.rules.specs.Kernel.{is_segment, entry, World, Obj, relabel, fix, requota, rewrite, Change, keep, alter, create, cut, link, Call, create_category, set_label}
use Rattle.rules.specs.Kernel.{set_clearance, create_container, create_segment, create_gate, create_thread, unreference, link_segment, fix_quota, move_quota, read, write, resize}
use Rattle.rules.specs.Kernel.{enter_gate, look, Condition, Verdict, grant, must, must_hold, make, move, access, judge, call, container_of, segment_of, gate_of, thread_of}
use Rattle.rules.specs.Kernel.{cleared_at, look_bytes, overwrite, resized, or_default, segment_default, container_default, block_size}
use Rattle.rules.proofs.Laws.Must.{must_test, must_rest, hold_rest, passed}

-- what is granted after the last test
unfoldable pub outcome : World → Obj → ℕ → Call → Verdict
outcome w t c create_category = grant w.next [] (alter c (relabel (with_pair w.next star t.label) (cleared_at w.next t.clearance)))
outcome w t c (set_label l) = grant 0 [] (alter c (relabel (label_of l) t.clearance))
outcome w t c (set_clearance x) = grant 0 [] (alter c (relabel t.label (label_of x)))
outcome w t c (create_container d l s m q) =
    grant w.next [] (create d (container_of (label_of l) s (bit_or m (w.obj d).mask) (or_default q container_default)))
outcome w t c (create_segment d l s q) = grant w.next [] (create d (segment_of (label_of l) s (or_default q segment_default)))
outcome w t c (create_gate d l k e x s) = grant w.next [] (create d (gate_of (label_of l) (label_of k) e x s))
outcome w t c (create_thread d l k s) = grant w.next [] (create d (thread_of (label_of l) (label_of k) s))
outcome w t c (unreference d o) = grant 0 [] (cut d o)
outcome w t c (link_segment d1 o d) = grant 0 [] (link d o)
outcome w t c (fix_quota d o) = grant 0 [] (alter o fix)
outcome w t c (move_quota d o (pos n)) = grant 0 [] (alter o (requota ((w.obj o).quota + n)))
outcome w t c (move_quota d o (negsuc n)) = grant 0 [] (alter o (requota ((w.obj o).quota - suc n)))
outcome w t c (read d s k f n) = grant 0 (take n (drop (block_size * k + f) (w.obj s).bytes)) keep
outcome w t c (write d s k f n b) = grant 0 [] (alter s (rewrite (overwrite (block_size * k + f) b (w.obj s).bytes)))
outcome w t c (resize d s n) = grant 0 [] (alter s (rewrite (resized n (w.obj s).bytes)))
outcome w t c (enter_gate d g lr cr lv out) = grant (w.obj g).entry (w.obj g).closure (alter c (relabel (label_of lr) (label_of cr)))
outcome w t c (look d o out) = grant 0 (look_bytes t.label (w.obj o)) keep

module _ (w : World) (t : Obj) (c v : ℕ) (b : List ℕ) (h : Change) where
  -- a chain of tests that was passed
  past : (p : Bool) (k : ℕ) (r : Verdict) (z : Verdict) → (r ≡ grant v b h → z ≡ grant v b h) → must p k r ≡ grant v b h → z ≡ grant v b h
  past p k r z f e = f (must_rest v b h p k r e)

  all : (qs : List Condition) (r : Verdict) (z : Verdict) → (r ≡ grant v b h → z ≡ grant v b h) → must_hold qs r ≡ grant v b h → z ≡ grant v b h
  all qs r z f e = f (hold_rest v b h qs r e)

  make_outcome : (d : ℕ) (x : Obj) (more : List Condition) → make w t d x more ≡ grant v b h → grant w.next [] (create d x) ≡ grant v b h
  unfolding make
  make_outcome d x more = past _ 5 _ _ (all _ _ _ (past _ 8 _ _ (past _ 13 _ _ (λ e. e))))

  move_outcome : (d o : ℕ) (more : List Condition) (r : Verdict) → move w t d o more r ≡ grant v b h → r ≡ grant v b h
  unfolding move
  move_outcome d o more r = past _ 5 _ _ (past _ 6 _ _ (all _ _ _ (past _ 9 _ _ (λ e. e))))

  pub access_outcome : (d s : ℕ) (more : List Condition) (r : Verdict) → access w t d s more r ≡ grant v b h → r ≡ grant v b h
  unfolding access
  access_outcome d s more r = past _ 5 _ _ (past _ 6 _ _ (all _ _ _ (λ e. e)))

  pub access_segment : (d s : ℕ) (more : List Condition) (r : Verdict) → access w t d s more r ≡ grant v b h → is_segment (w.obj s).kind ≡ true
  unfolding access
  access_segment d s more r e = must_test v b h (is_segment (w.obj s).kind) 6 _ (must_rest v b h (entry w t d s) 5 _ e)

  -- a grant of the tests from 5 on is the outcome
  pub judge_outcome : (x : Call) → judge w t c x ≡ grant v b h → outcome w t c x ≡ grant v b h
  unfolding judge outcome
  judge_outcome create_category = past _ 12 _ _ (λ e. e)
  judge_outcome (set_label l) = all _ _ _ (λ e. e)
  judge_outcome (set_clearance x) = all _ _ _ (λ e. e)
  judge_outcome (create_container d l s m q) = make_outcome d _ _
  judge_outcome (create_segment d l s q) = make_outcome d _ _
  judge_outcome (create_gate d l k e x s) = make_outcome d _ _
  judge_outcome (create_thread d l k s) = make_outcome d _ _
  judge_outcome (unreference d o) = past _ 5 _ _ (all _ _ _ (λ e. e))
  judge_outcome (link_segment d1 o d) = past _ 5 _ _ (past _ 6 _ _ (all _ _ _ (past _ 8 _ _ (past _ 9 _ _ (past _ 10 _ _ (past _ 13 _ _ (λ e. e)))))))
  judge_outcome (fix_quota d o) = past _ 5 _ _ (past _ 6 _ _ (all _ _ _ (λ e. e)))
  judge_outcome (move_quota d o (pos n)) = λ e. past _ 13 _ _ (λ f. f) (move_outcome d o _ _ e)
  judge_outcome (move_quota d o (negsuc n)) = λ e. past _ 13 _ _ (λ f. f) (move_outcome d o _ _ e)
  judge_outcome (read d s k f n) = λ e. past _ 11 _ _ (λ g. g) (access_outcome d s _ _ e)
  judge_outcome (write d s k f n y) = λ e. past _ 11 _ _ (λ g. g) (access_outcome d s _ _ e)
  judge_outcome (resize d s n) = λ e. past _ 13 _ _ (λ g. g) (access_outcome d s _ _ e)
  judge_outcome (enter_gate d g lr cr lv out) = past _ 5 _ _ (past _ 6 _ _ (all _ _ _ (λ e. e)))
  judge_outcome (look d o out) = past _ 5 _ _ (λ e. e)

-- a granted call has that outcome
pub call_outcome : (w : World) (c : ℕ) (x : Call) (v : ℕ) (b : List ℕ) (h : Change) → call w c x ≡ grant v b h → outcome w (w.obj c) c x ≡ grant v b h
call_outcome w c x v b h e = judge_outcome w (w.obj c) c v b h x (passed w c x v b h e).judged
