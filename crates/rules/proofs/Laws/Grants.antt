-- The change of a granted call is fair: what its tests say of labels, units, masks and lengths.
use Rattle.std.specs.Prelude.{ℕ, suc, ◌+◌, ◌*◌, ◌-◌, ◌≤◌, Bool, cond, ◌&&◌, ◌||◌, ◌≡◌, List, [], leb, pos, negsuc, length}
use Rattle.std.proofs.Math.Bool.{true, false}
use Rattle.std.proofs.lemmas.Bool.{false≢true}
use Rattle.std.proofs.Math.Path.{refl}
use Rattle.std.proofs.Common.{◌∙◌}
use native.Mathlib.Omega.{arith}
use Rattle.std.specs.Int.Bits.{bit_or}
use Rattle.std.proofs.Math.Dec.{eqb}
use borrow.Author.Tests.{not-true, leb-true, eqb-true, eqb-false}
use Rattle.labels.specs.declared.Label.{Label}
use Rattle.labels.specs.Core.{well_formed, flows, has_room, with_pair, label_of, label_size, word_count, star, level3}
use Rattle.labels.specs.Core.Bytes.{label_of_length}
use Rattle.labels.specs.Core.Fresh.{formed_wider, pair_length}
use Rattle.rules.specs.Kernel.{kind_code, is_live, is_thread, is_container, has_clearance, Obj, World, relabel, fix, Change, keep, alter, create, cut, link, Call, create_category}
use Rattle.rules.specs.Kernel.{set_label, set_clearance, create_container, create_segment, create_gate, create_thread, unreference, link_segment, fix_quota, move_quota, read, write}
use Rattle.rules.specs.Kernel.{resize, enter_gate, look, Condition, holds, all_hold, flow, writing, Verdict, grant, must, must_hold, opens, entry, fits, or_default, make, move}
use Rattle.rules.specs.Kernel.{access, container_of, segment_of, gate_of, thread_of, cleared_at, judge, use_of, spare_of, units, good_label, good_text, good_arguments, max_mask}
use Rattle.rules.specs.Kernel.{max_length, text_size, block_size, max_block, segment_default, container_default}
use Rattle.rules.specs.Sound.{Sound}
use Rattle.rules.specs.Fair.{Whole, Fair}
use Rattle.rules.proofs.Laws.Bools.{and_l, and_r}
use Rattle.rules.proofs.Laws.Kinds.{thread_live, segment_live, container_live, thread_cleared}
use Rattle.rules.proofs.Laws.Must.{must_test, must_rest, hold_test, hold_rest, same_change, all_head, all_tail, all_right}
use Rattle.rules.proofs.Laws.Entries.{opens_container, entry_link}
use Rattle.rules.proofs.Laws.Usage.{use_segment, use_some}
use Rattle.rules.proofs.Laws.Masks.{or_twice, or_mask}
use Rattle.rules.proofs.Laws.Category.{starred_formed, cleared_formed, cleared_length, category_flows}
use Rattle.rules.proofs.Laws.Objects.{container_whole, segment_whole, gate_whole, thread_whole}
use Rattle.rules.proofs.Laws.Lengths.{overwrite_length, resized_length}

-- ---- arguments

-- a quota is some
default_some : (q d : ℕ) → 1 ≤ d → 1 ≤ or_default q d
unfolding or_default
default_some q d p = go (eqb q 0) refl
  where
    go : (b : Bool) → eqb q 0 ≡ b → 1 ≤ cond b d q
    go true e = p
    go false e = let n = eqb-false q 0 e in omega arith

-- a label that is good for a call is well formed from the next number on
good_formed : (n : ℕ) (starred : Bool) (b : List ℕ) → good_label n starred b ≡ true → well_formed (suc n) starred (label_of b) ≡ true
unfolding good_label
good_formed n starred b g = formed_wider n starred (label_of b) (and_r (eqb (length b) label_size) (well_formed n starred (label_of b)) g)

good_text_lem : (b : List ℕ) → good_text b ≡ true → length b ≡ text_size
unfolding good_text
good_text_lem b g = eqb-true (length b) text_size g

-- ---- granted calls

module _ (w : World) (s : Sound w) (c : ℕ) (k : is_thread (w.obj c).kind ≡ true) (v : ℕ) (b : List ℕ) (h : Change) where
  -- a test passed, and what is granted after it
  pass : (p : Bool) (m : ℕ) (r : Verdict) → (p ≡ true → r ≡ grant v b h → Fair w h) → must p m r ≡ grant v b h → Fair w h
  pass p m r f e = f (must_test v b h p m r e) (must_rest v b h p m r e)

  all : (qs : List Condition) (r : Verdict) → (all_hold qs ≡ true → r ≡ grant v b h → Fair w h) → must_hold qs r ≡ grant v b h → Fair w h
  all qs r f e = f (hold_test v b h qs r e) (hold_rest v b h qs r e)

  done : (u : ℕ) (i : List ℕ) (g : Change) → Fair w g → grant u i g ≡ grant v b h → Fair w h
  done u i g f e = same_change (Fair w) u v i b g h e f

  -- the caller
  abbrev live : is_live (w.obj c).kind ≡ true
  live = thread_live (w.obj c).kind k

  abbrev cleared : has_clearance (w.obj c).kind ≡ true
  cleared = thread_cleared (w.obj c).kind k

  own_formed : well_formed w.next true (w.obj c).label ≡ true
  own_formed = rw cleared at (s.labels c live).label

  -- what fits leaves use within quota
  fits_room : (o n : ℕ) → is_live (w.obj o).kind ≡ true → fits w o n ≡ true → use_of w o + n ≤ (w.obj o).quota
  unfolding fits spare_of
  fits_room o n i f =
      let a = leb-true n ((w.obj o).quota - use_of w o) f in
      let z = s.uses o i in
      omega arith

  -- a new object: it is whole, given that d is a container and the conditions on its clearance hold
  make_fair : (d : ℕ) (x : Obj) (more : List Condition) → is_live x.kind ≡ true → x.fixed ≡ false → x.bytes ≡ []
      → (is_container (w.obj d).kind ≡ true → all_hold more ≡ true → Whole (suc w.next) x)
      → (is_container x.kind ≡ true → bit_or x.mask (w.obj d).mask ≡ x.mask) → make w (w.obj c) d x more ≡ grant v b h → Fair w h
  unfolding make
  make_fair d x more i f e z m =
      pass _ 5 _ (λ p. all _ _ (λ q. pass _ 8 _ (λ r. pass _ 13 _ (λ u.
      let o = opens_container w (w.obj c) d p in
      done _ _ (create d x) (record {
        is_container_lem = o;
        room = fits_room d x.quota (container_live (w.obj d).kind o) u;
        is_live_lem = i;
        whole = z o (all_tail _ more (all_right (writing (w.obj c).label (w.obj d).label) _ q));
        not_fixed = f;
        empty = e;
        masked = m;
      })))))

  -- the caller's label and clearance anew
  relabel_fair : (l x : Label) → well_formed (suc w.next) true l ≡ true → well_formed (suc w.next) false x ≡ true
      → length l.words ≡ word_count → length x.words ≡ word_count → flows l x ≡ true → Fair w (alter c (relabel l x))
  relabel_fair l x fl fx wl wx e =
      record { is_thread_lem = k; label = fl; clearance = fx; label_words_lem = wl; clearance_words = wx; cleared = e }

  category_fair : judge w (w.obj c) c create_category ≡ grant v b h → Fair w h
  unfolding judge
  category_fair =
      pass _ 12 _ (λ q.
      let l = (w.obj c).label in
      let x = (w.obj c).clearance in
      let n : 1 ≤ w.next = (let i = s.ids c live in omega arith) in
      let fx = (s.labels c live).clearance cleared in
      let rl = and_l (has_room l) (eqb x.default level3 || has_room x) q in
      let rx = and_r (has_room l) (eqb x.default level3 || has_room x) q in
      done _ _ _ (relabel_fair (with_pair w.next star l) (cleared_at w.next x)
      (starred_formed w.next l n own_formed rl)
      (cleared_formed w.next x n fx rx)
      (pair_length w.next star l ∙ (s.ranges c live).label_words_lem)
      (cleared_length w.next x ∙ (s.ranges c live).clearance_words cleared)
      (category_flows w.next l x n own_formed fx rl rx (s.clearances c cleared))))

  label_fair : (l : List ℕ) → good_arguments w.next (set_label l) ≡ true → judge w (w.obj c) c (set_label l) ≡ grant v b h → Fair w h
  unfolding judge good_arguments holds flow
  label_fair l g =
      all _ _ (λ q.
      done _ _ _ (relabel_fair (label_of l) (w.obj c).clearance
      (good_formed w.next true l g)
      (formed_wider w.next false (w.obj c).clearance ((s.labels c live).clearance cleared))
      (label_of_length l)
      ((s.ranges c live).clearance_words cleared)
      (all_head (flow (label_of l) (w.obj c).clearance) _ (all_tail _ _ q))))

  clearance_fair : (x : List ℕ) → good_arguments w.next (set_clearance x) ≡ true → judge w (w.obj c) c (set_clearance x) ≡ grant v b h → Fair w h
  unfolding judge good_arguments holds flow
  clearance_fair x g =
      all _ _ (λ q.
      done _ _ _ (relabel_fair (w.obj c).label (label_of x)
      (formed_wider w.next true (w.obj c).label own_formed)
      (good_formed w.next false x g)
      (s.ranges c live).label_words_lem
      (label_of_length x)
      (all_head (flow (w.obj c).label (label_of x)) _ q)))

  enter_fair : (d g : ℕ) (lr cr lv : List ℕ) (out : ℕ) → good_arguments w.next (enter_gate d g lr cr lv out) ≡ true
      → judge w (w.obj c) c (enter_gate d g lr cr lv out) ≡ grant v b h → Fair w h
  unfolding judge good_arguments holds flow
  enter_fair d g lr cr lv out a =
      pass _ 5 _ (λ p. pass _ 6 _ (λ r. all _ _ (λ q.
      let rest = and_r (good_label w.next true lr) (good_label w.next false cr && (good_label w.next true lv && eqb out text_size)) a in
      done _ _ _ (relabel_fair (label_of lr) (label_of cr)
      (good_formed w.next true lr (and_l (good_label w.next true lr) _ a))
      (good_formed w.next false cr (and_l (good_label w.next false cr) _ rest))
      (label_of_length lr)
      (label_of_length cr)
      (all_head (flow (label_of lr) (label_of cr)) _ (all_tail _ _ (all_tail _ _ (all_tail _ _ q))))))))

  container_fair : (d : ℕ) (l x : List ℕ) (m q : ℕ) → good_arguments w.next (create_container d l x m q) ≡ true
      → judge w (w.obj c) c (create_container d l x m q) ≡ grant v b h → Fair w h
  unfolding judge good_arguments container_of is_live kind_code
  container_fair d l x m q g =
      let g2 = and_r (good_label w.next false l) _ g in
      let g3 = and_r (good_text x) _ g2 in
      let most = leb-true m max_mask (and_l (leb m max_mask) _ g3) in
      make_fair d _ _ refl refl refl
      (λ o u.
      container_whole (suc w.next) (label_of l) (label_of_length l) x (good_text_lem x (and_l (good_text x) _ g2))
      (good_formed w.next false l (and_l (good_label w.next false l) _ g)) (or_default q container_default) (default_some q container_default (omega arith))
      (bit_or m (w.obj d).mask) (or_mask m (w.obj d).mask most (s.ranges d (container_live (w.obj d).kind o)).mask_most))
      (λ e. or_twice m (w.obj d).mask)

  segment_fair : (d : ℕ) (l x : List ℕ) (q : ℕ) → good_arguments w.next (create_segment d l x q) ≡ true
      → judge w (w.obj c) c (create_segment d l x q) ≡ grant v b h → Fair w h
  unfolding judge good_arguments segment_of is_live is_container kind_code
  segment_fair d l x q g =
      let g2 = and_r (good_label w.next false l) _ g in
      make_fair d _ _ refl refl refl
      (λ o u.
      segment_whole (suc w.next) (label_of l) (label_of_length l) x (good_text_lem x (and_l (good_text x) _ g2))
      (good_formed w.next false l (and_l (good_label w.next false l) _ g)) (or_default q segment_default) (default_some q segment_default (omega arith)))
      (λ e. absurd (false≢true e))

  gate_fair : (d : ℕ) (l y : List ℕ) (e : ℕ) (z x : List ℕ) → good_arguments w.next (create_gate d l y e z x) ≡ true
      → judge w (w.obj c) c (create_gate d l y e z x) ≡ grant v b h → Fair w h
  unfolding judge good_arguments gate_of is_live is_container kind_code holds flow
  gate_fair d l y e z x g =
      let g2 = and_r (good_label w.next true l) _ g in
      let g3 = and_r (good_label w.next false y) _ g2 in
      make_fair d _ _ refl refl refl
      (λ o u.
      gate_whole (suc w.next) (label_of l) (label_of_length l) x (good_text_lem x (and_r (good_text z) _ g3)) (label_of y)
      (good_formed w.next true l (and_l (good_label w.next true l) _ g)) (good_formed w.next false y (and_l (good_label w.next false y) _ g2))
      (label_of_length y) (all_head (flow (label_of l) (label_of y)) _ u) e z (good_text_lem z (and_l (good_text z) _ g3)))
      (λ e. absurd (false≢true e))

  thread_fair : (d : ℕ) (l y x : List ℕ) → good_arguments w.next (create_thread d l y x) ≡ true
      → judge w (w.obj c) c (create_thread d l y x) ≡ grant v b h → Fair w h
  unfolding judge good_arguments thread_of is_live is_container kind_code holds flow
  thread_fair d l y x g =
      let g2 = and_r (good_label w.next true l) _ g in
      make_fair d _ _ refl refl refl
      (λ o u.
      thread_whole (suc w.next) (label_of l) (label_of_length l) x (good_text_lem x (and_r (good_label w.next false y) _ g2)) (label_of y)
      (good_formed w.next true l (and_l (good_label w.next true l) _ g)) (good_formed w.next false y (and_l (good_label w.next false y) _ g2))
      (label_of_length y) (all_head (flow (label_of l) (label_of y)) _ u))
      (λ e. absurd (false≢true e))

  move_in_fair : (d o n : ℕ) → judge w (w.obj c) c (move_quota d o (pos n)) ≡ grant v b h → Fair w h
  unfolding judge move
  move_in_fair d o n =
      pass _ 5 _ (λ p. pass _ 6 _ (λ r. all _ _ (λ q. pass _ 9 _ (λ u. pass _ 13 _ (λ z.
      let l = entry_link w (w.obj c) d o p in
      let i = s.tree.held d o l in
      let room = fits_room d n (container_live (w.obj d).kind (s.tree.holder d o l)) z in
      let some = (s.ranges o i).quota_some in
      let own = s.uses o i in
      done _ _ _ (record {
        holder = d;
        is_linked = l;
        movable = r;
        not_fixed = not-true (w.obj o).fixed u;
        room = omega arith;
        some = omega arith;
        own = omega arith;
      }))))))

  move_out_fair : (d o n : ℕ) → judge w (w.obj c) c (move_quota d o (negsuc n)) ≡ grant v b h → Fair w h
  unfolding judge move
  move_out_fair d o n =
      pass _ 5 _ (λ p. pass _ 6 _ (λ r. all _ _ (λ q. pass _ 9 _ (λ u. pass _ 13 _ (λ z.
      let l = entry_link w (w.obj c) d o p in
      let room = s.uses d (container_live (w.obj d).kind (s.tree.holder d o l)) in
      let own = fits_room o (suc n) (s.tree.held d o l) z in
      let some = use_some w o in
      done _ _ _ (record {
        holder = d;
        is_linked = l;
        movable = r;
        not_fixed = not-true (w.obj o).fixed u;
        room = omega arith;
        some = omega arith;
        own = omega arith;
      }))))))

  link_fair : (d1 o d : ℕ) → judge w (w.obj c) c (link_segment d1 o d) ≡ grant v b h → Fair w h
  unfolding judge
  link_fair d1 o d =
      pass _ 5 _ (λ p. pass _ 6 _ (λ r. all _ _ (λ q. pass _ 8 _ (λ m. pass _ 9 _ (λ f. pass _ 10 _ (λ n. pass _ 13 _ (λ z.
      let i = opens_container w (w.obj c) d (and_r (entry w (w.obj c) d1 o) (opens w (w.obj c) d) p) in
      done _ _ (link d o) (record {
        is_container_lem = i;
        is_segment_lem = r;
        is_fixed_lem = f;
        is_new = not-true (w.linked d o) n;
        room = fits_room d (w.obj o).quota (container_live (w.obj d).kind i) z;
      }))))))))

  write_fair : (d o j f n : ℕ) (a : List ℕ) → good_arguments w.next (write d o j f n a) ≡ true
      → judge w (w.obj c) c (write d o j f n a) ≡ grant v b h → Fair w h
  unfolding judge access good_arguments
  write_fair d o j f n a g =
      pass _ 5 _ (λ p. pass _ 6 _ (λ r. all _ _ (λ q. pass _ 11 _ (λ z.
      let i = segment_live (w.obj o).kind r in
      let size = eqb-true (length a) n (and_r (leb (f + n) block_size) _ (and_r (leb j max_block) _ g)) in
      let within = leb-true (block_size * j + f + n) (length (w.obj o).bytes) z in
      let same = overwrite_length (block_size * j + f) a (w.obj o).bytes (omega arith) in
      let used = s.uses o i in
      let most = (s.ranges o i).length_most in
      done _ _ _ (record { is_segment_lem = r; within = rw (same, ← use_segment w o r) used; short = rw same most })))))

  resize_fair : (d o n : ℕ) → good_arguments w.next (resize d o n) ≡ true → judge w (w.obj c) c (resize d o n) ≡ grant v b h → Fair w h
  unfolding judge access good_arguments
  resize_fair d o n g =
      pass _ 5 _ (λ p. pass _ 6 _ (λ r. all _ _ (λ q. pass _ 13 _ (λ z.
      let same = resized_length n (w.obj o).bytes in
      done _ _ _ (record { is_segment_lem = r; within = rw same (leb-true (units n) (w.obj o).quota z); short = rw same (leb-true n max_length g) })))))

  judge_fair : (x : Call) → good_arguments w.next x ≡ true → judge w (w.obj c) c x ≡ grant v b h → Fair w h
  judge_fair create_category g = category_fair
  judge_fair (set_label l) g = label_fair l g
  judge_fair (set_clearance x) g = clearance_fair x g
  judge_fair (create_container d l x m q) g = container_fair d l x m q g
  judge_fair (create_segment d l x q) g = segment_fair d l x q g
  judge_fair (create_gate d l y e z x) g = gate_fair d l y e z x g
  judge_fair (create_thread d l y x) g = thread_fair d l y x g
  judge_fair (unreference d o) g = unfold judge in (pass _ 5 _ (λ p. all _ _ (λ q. done _ _ (cut d o) (entry_link w (w.obj c) d o p))))
  judge_fair (link_segment d1 o d) g = link_fair d1 o d
  judge_fair (fix_quota d o) g = unfold judge in (pass _ 5 _ (λ p. pass _ 6 _ (λ r. all _ _ (λ q. done _ _ (alter o fix) r))))
  judge_fair (move_quota d o (pos n)) g = move_in_fair d o n
  judge_fair (move_quota d o (negsuc n)) g = move_out_fair d o n
  judge_fair (read d o j f n) g = unfold judge access in (pass _ 5 _ (λ p. pass _ 6 _ (λ r. all _ _ (λ q. pass _ 11 _ (λ z. done _ _ keep tt)))))
  judge_fair (write d o j f n a) g = write_fair d o j f n a g
  judge_fair (resize d o n) g = resize_fair d o n g
  judge_fair (enter_gate d o lr cr lv out) g = enter_fair d o lr cr lv out g
  judge_fair (look d o out) g = unfold judge in (pass _ 5 _ (λ p. done _ _ keep tt))

-- THE LAW: the change of every granted call in a sound world is fair
pub grants_fair : (w : World) → Sound w → (c : ℕ) → is_thread (w.obj c).kind ≡ true → (x : Call) → good_arguments w.next x ≡ true
    → (v : ℕ) (b : List ℕ) (h : Change) → judge w (w.obj c) c x ≡ grant v b h → Fair w h
grants_fair w s c k x g v b h = judge_fair w s c k v b h x g
