-- Theorem 7: what a read shows is what the writes, clears and resizes left.
use Rattle.std.specs.Prelude.{ℕ, ◌+◌, ◌*◌, ◌≤◌, ◌<◌, Bool, true, false, cond, ◌≡◌, refl, length, take, drop, eqb, leb}
use Rattle.std.proofs.Math.Decide.{ℕ_discrete}
use native.Mathlib.Omega.{arith}
use Rattle.std.proofs.lemmas.Bool.{false≢true}
use Rattle.std.proofs.Common.{sym, ◌∙◌, ap, subst, length-drop, length-take-le, get_or-take, get_or-drop}
use mathlib.Core.List.{List, []}
use Rattle.std.proofs.Math.ListN.{get_or}
use borrow.Author.Tests.{eqb-true, eqb-false, eq-eqb, leb-true}
use Rattle.rules.specs.Kernel.{is_live, Obj, World, rewrite, edit, Change, keep, alter, apply, Call, create_category, set_label, set_clearance, create_container, create_segment}
use Rattle.rules.specs.Kernel.{create_gate, create_thread, unreference, link_segment, fix_quota, move_quota, read, write, resize, enter_gate, look, grant, good_arguments, judge}
use Rattle.rules.specs.Kernel.{call, answer_of, value_of, output_of, after, overwrite, resized, block_size, max_block, History, beginning, next, world_after}
use Rattle.rules.specs.Sound.{Sound}
use Rattle.rules.specs.Histories.{first_world, WellStarted}
use Rattle.rules.specs.Written.{left_by, last_written, rewrites}
use Rattle.rules.proofs.Laws.Bools.{and_r, bool_cases}
use Rattle.rules.proofs.Laws.Kinds.{segment_live}
use Rattle.rules.proofs.Laws.Must.{must_test, same_change, passed}
use Rattle.rules.proofs.Laws.Put.{put_same}
use Rattle.rules.proofs.Laws.Bytes.{overwrite_at, resized_at}
use Rattle.rules.proofs.Laws.Outcome.{outcome, call_outcome, access_outcome, access_segment}
use Rattle.rules.proofs.Laws.Effects.{makes, call_suits, apply_live, apply_keeps, apply_made}
use Rattle.rules.proofs.Theorems.Refusals.{granted, refused_world, ended_world, change_next}

-- ---- calls that rewrite s, and the others

-- what holds of every write and every resize of s holds of every call that rewrites s
named : (P : Call → Type 0) (s : ℕ) → ((d k f n : ℕ) (b : List ℕ) → P (write d s k f n b)) → ((d n : ℕ) → P (resize d s n))
    → (x : Call) → rewrites x s ≡ true → P x
unfolding rewrites
named P s p q create_category e = absurd (false≢true e)
named P s p q (set_label l) e = absurd (false≢true e)
named P s p q (set_clearance c) e = absurd (false≢true e)
named P s p q (create_container d l y m n) e = absurd (false≢true e)
named P s p q (create_segment d l y n) e = absurd (false≢true e)
named P s p q (create_gate d l k n x y) e = absurd (false≢true e)
named P s p q (create_thread d l k y) e = absurd (false≢true e)
named P s p q (unreference d o) e = absurd (false≢true e)
named P s p q (link_segment d1 o d) e = absurd (false≢true e)
named P s p q (fix_quota d o) e = absurd (false≢true e)
named P s p q (move_quota d o n) e = absurd (false≢true e)
named P s p q (read d t k f n) e = absurd (false≢true e)
named P s p q (write d t k f n b) e = subst (λ (u : ℕ). P (write d u k f n b)) (eqb-true s t e) (p d k f n b)
named P s p q (resize d t n) e = subst (λ (u : ℕ). P (resize d u n)) (eqb-true s t e) (q d n)
named P s p q (enter_gate d g lr cr lv out) e = absurd (false≢true e)
named P s p q (look d o out) e = absurd (false≢true e)

left_same : (x : Call) (s i was : ℕ) → rewrites x s ≡ false → left_by x s i was ≡ was
unfolding rewrites left_by
left_same create_category s i was e = refl
left_same (set_label l) s i was e = refl
left_same (set_clearance c) s i was e = refl
left_same (create_container d l y m n) s i was e = refl
left_same (create_segment d l y n) s i was e = refl
left_same (create_gate d l k n x y) s i was e = refl
left_same (create_thread d l k y) s i was e = refl
left_same (unreference d o) s i was e = refl
left_same (link_segment d1 o d) s i was e = refl
left_same (fix_quota d o) s i was e = refl
left_same (move_quota d o n) s i was e = refl
left_same (read d t k f n) s i was e = refl
left_same (write d t k f n b) s i was e = rw e
left_same (resize d t n) s i was e = rw e
left_same (enter_gate d g lr cr lv out) s i was e = refl
left_same (look d o out) s i was e = refl

module _ (w : World) (c v : ℕ) (out : List ℕ) (h : Change) where
  -- a granted write is within the segment
  write_fits : (d s k f n : ℕ) (b : List ℕ) → call w c (write d s k f n b) ≡ grant v out h → block_size * k + f + length b ≤ length (w.obj s).bytes
  unfolding good_arguments judge
  write_fits d s k f n b e =
      let p = passed w c (write d s k f n b) v out h e in
      let a = eqb-true (length b) n (and_r (leb (f + n) block_size) (eqb (length b) n) (and_r (leb k max_block) _ p.arguments)) in
      let l = leb-true (block_size * k + f + n) (length (w.obj s).bytes)
      (must_test v out h (leb (block_size * k + f + n) (length (w.obj s).bytes)) 11 _ (access_outcome w (w.obj c) c v out h d s _ _ p.judged)) in
      omega arith

  -- a granted read is too
  read_fits : (d s k f n : ℕ) → call w c (read d s k f n) ≡ grant v out h → block_size * k + f + n ≤ length (w.obj s).bytes
  unfolding judge
  read_fits d s k f n e =
      let p = passed w c (read d s k f n) v out h e in
      leb-true (block_size * k + f + n) (length (w.obj s).bytes)
      (must_test v out h (leb (block_size * k + f + n) (length (w.obj s).bytes)) 11 _ (access_outcome w (w.obj c) c v out h d s _ _ p.judged))

  read_live : (d s k f n : ℕ) → call w c (read d s k f n) ≡ grant v out h → is_live (w.obj s).kind ≡ true
  unfolding judge
  read_live d s k f n e =
      segment_live (w.obj s).kind (access_segment w (w.obj c) c v out h d s _ _ (passed w c (read d s k f n) v out h e).judged)

  read_output : (d s k f n : ℕ) → call w c (read d s k f n) ≡ grant v out h → out ≡ take n (drop (block_size * k + f) (w.obj s).bytes)
  unfolding outcome
  read_output d s k f n e = let o = call_outcome w c (read d s k f n) v out h e in cc

  module _ (s : ℕ) where
    -- what is rewritten is live
    named_live : (x : Call) → rewrites x s ≡ true → call w c x ≡ grant v out h → is_live (w.obj s).kind ≡ true
    unfolding judge
    named_live =
        named (λ x. call w c x ≡ grant v out h → is_live (w.obj s).kind ≡ true) s
        (λ d k f n b e. segment_live (w.obj s).kind (access_segment w (w.obj c) c v out h d s _ _ (passed w c (write d s k f n b) v out h e).judged))
        (λ d n e. segment_live (w.obj s).kind (access_segment w (w.obj c) c v out h d s _ _ (passed w c (resize d s n) v out h e).judged))

    -- a rewrite of s, place by place
    rewritten : (b : List ℕ) (i : ℕ) → grant 0 [] (alter s (rewrite b)) ≡ grant v out h → get_or ((apply h w).obj s).bytes i 0 ≡ get_or b i 0
    unfolding apply edit
    rewritten b i =
        λ e. same_change (λ g. get_or ((apply g w).obj s).bytes i 0 ≡ get_or b i 0) 0 v [] out (alter s (rewrite b)) h e
        (ap (λ (x : Obj). get_or x.bytes i 0) (put_same s (edit (rewrite b) (w.obj s)) w.obj s refl))

    named_left : (i : ℕ) (x : Call) → rewrites x s ≡ true → call w c x ≡ grant v out h
        → get_or ((apply h w).obj s).bytes i 0 ≡ left_by x s i (get_or (w.obj s).bytes i 0)
    unfolding outcome left_by
    named_left i =
        named (λ x. call w c x ≡ grant v out h → get_or ((apply h w).obj s).bytes i 0 ≡ left_by x s i (get_or (w.obj s).bytes i 0)) s
        (λ d k f n b e.
        rewritten (overwrite (block_size * k + f) b (w.obj s).bytes) i (call_outcome w c (write d s k f n b) v out h e)
        ∙ overwrite_at (block_size * k + f) b (w.obj s).bytes (write_fits d s k f n b e) i ∙ rw (eq-eqb s s refl))
        (λ d n e.
        rewritten (resized n (w.obj s).bytes) i (call_outcome w c (resize d s n) v out h e)
        ∙ resized_at n (w.obj s).bytes i ∙ rw (eq-eqb s s refl))

    -- what a granted call leaves at each place of what was there before
    grant_left : (i : ℕ) (x : Call) → call w c x ≡ grant v out h → s < w.next → is_live ((apply h w).obj s).kind ≡ true
        → get_or ((apply h w).obj s).bytes i 0 ≡ left_by x s i (get_or (w.obj s).bytes i 0)
    grant_left i x e l k =
        bool_cases (rewrites x s) (λ r. named_left i x r e)
        (λ r. ap (λ (b : List ℕ). get_or b i 0) (apply_keeps w h s l ((call_suits w c x v out h e).touch s ∙ r) k) ∙ sym (left_same x s i _ r))

-- ---- along a history

-- f tells every byte of what is live, and 0 of ids still to come
record Told (w : World) (f : ℕ → ℕ → ℕ) : Type 0 where
  ids : (s : ℕ) → is_live (w.obj s).kind ≡ true → s < w.next
  to_come : (s i : ℕ) → w.next ≤ s → f s i ≡ 0
  shown : (s i : ℕ) → is_live (w.obj s).kind ≡ true → get_or (w.obj s).bytes i 0 ≡ f s i

told_grant : (w : World) (f : ℕ → ℕ → ℕ) → Told w f → (c : ℕ) (x : Call) (v : ℕ) (b : List ℕ) (h : Change) → call w c x ≡ grant v b h
    → Told (apply h w) (λ s i. left_by x s i (f s i))
told_grant w f t c x v b h e = record {
  ids = λ s k. apply_live w h s k (λ old. let l = t.ids s old in let n = change_next h w in omega arith) (λ q m. let n = change_next h w in omega arith);
  to_come = λ s i l. let n = change_next h w in left_same x s i (f s i) (not_named s (omega arith)) ∙ t.to_come s i (omega arith);
  shown = λ s i k. apply_live w h s k
      (λ old. grant_left w c v b h s i x e (t.ids s old) k ∙ ap (left_by x s i) (t.shown s i old))
      (λ q m. new s i q m);
}
  where
    not_named : (s : ℕ) → w.next ≤ s → rewrites x s ≡ false
    not_named s l = bool_cases (rewrites x s) (λ r. absurd (let k = t.ids s (named_live w c v b h s x r e) in omega arith)) (λ r. r)

    new : (s i : ℕ) → s ≡ w.next → makes h ≡ true → get_or ((apply h w).obj s).bytes i 0 ≡ left_by x s i (f s i)
    new s i q m =
        ap (λ (o : ℕ). get_or ((apply h w).obj o).bytes i 0) q
        ∙ ap (λ (y : Obj). get_or y.bytes i 0) (apply_made w h m)
        ∙ ap (λ (y : List ℕ). get_or y i 0) (call_suits w c x v b h e).bare
        ∙ sym (left_same x s i (f s i) (not_named s (omega arith)) ∙ t.to_come s i (omega arith))

told_kept : (w : World) (f : ℕ → ℕ → ℕ) → Told w f → Told (apply keep w) f
unfolding apply
told_kept w f t = record { ids = λ s k. let l = t.ids s k in omega arith; to_come = λ s i l. t.to_come s i (omega arith); shown = t.shown }

told_after : (w : World) (f : ℕ → ℕ → ℕ) → Told w f → (c : ℕ) (x : Call)
    → Told (after w c x) (λ s i. cond (eqb (answer_of (call w c x)) 0) (left_by x s i (f s i)) (f s i))
told_after w f t c x = go (eqb (answer_of (call w c x)) 0) refl
  where
    go : (a : Bool) → eqb (answer_of (call w c x)) 0 ≡ a → Told (after w c x) (λ s i. cond a (left_by x s i (f s i)) (f s i))
    go true e =
        let g = granted w c x (eqb-true (answer_of (call w c x)) 0 e) in
        subst (λ (u : World). Told u (λ s i. left_by x s i (f s i))) (sym g.world) (told_grant w f t c x _ _ g.change g.verdict)
    go false e = elim (ℕ_discrete (answer_of (call w c x)) 2) [
      | yes p ↦ subst (λ (u : World). Told u f) (sym (ended_world w c x p)) t
      | no n ↦ subst (λ (u : World). Told u f) (sym (refused_world w c x (eqb-false (answer_of (call w c x)) 0 e) n)) (told_kept w f t)
    ]

told_beginning : (w : World) → Sound w → Told w (last_written (beginning w))
unfolding last_written
told_beginning w s = record {
  ids = λ o k. (s.ids o k).1;
  to_come = λ o i l. bool_cases (is_live (w.obj o).kind) (λ k. absurd (let z = (s.ids o k).1 in omega arith)) (λ k. rw k);
  shown = λ o i k. rw k;
}

told : (h : History) → WellStarted h → Told (world_after h) (last_written h)
unfolding world_after first_world last_written
told (beginning w) s = told_beginning w s
told (next h c x) s = told_after (world_after h) (last_written h) (told h s) c x

-- ---- the theorem

-- After every history, each byte of each live segment is the one last written there, or 0 where none was since it was last cleared; beyond its length, 0.
pub reads_last_written : (h : History) → WellStarted h → (s i : ℕ) → is_live ((world_after h).obj s).kind ≡ true → get_or ((world_after h).obj s).bytes i 0 ≡ last_written h s i
reads_last_written h g s i k = (told h g).shown s i k

-- A granted read after any history puts out exactly as many bytes as it asked for, each the one last written at its place.
pub read_shows : (h : History) → WellStarted h → (c d s k f n : ℕ) → answer_of (call (world_after h) c (read d s k f n)) ≡ 0
    → (length (output_of (call (world_after h) c (read d s k f n))) ≡ n)
    × ((i : ℕ) → i < n → get_or (output_of (call (world_after h) c (read d s k f n))) i 0 ≡ last_written h s (block_size * k + f + i))
read_shows h well c d s k f n a = let g = granted (world_after h) c (read d s k f n) a in shows _ _ g.change g.verdict
  where
    bytes : List ℕ
    bytes = ((world_after h).obj s).bytes

    shows : (v : ℕ) (b : List ℕ) (g : Change) → call (world_after h) c (read d s k f n) ≡ grant v b g
        → (length b ≡ n) × ((i : ℕ) → i < n → get_or b i 0 ≡ last_written h s (block_size * k + f + i))
    shows v b g e =
        let l = read_fits (world_after h) c v b g d s k f n e in
        let q : b ≡ take n (drop (block_size * k + f) bytes) = read_output (world_after h) c v b g d s k f n e in (
          ap length q ∙ length-take-le n (drop (block_size * k + f) bytes) (simp length-drop (omega arith)),
          λ i m. ap (λ (y : List ℕ). get_or y i 0) q ∙ get_or-take n (drop (block_size * k + f) bytes) i 0 m ∙ get_or-drop (block_size * k + f) bytes i 0
              ∙ reads_last_written h well s (block_size * k + f + i) (read_live (world_after h) c v b g d s k f n e),
        )

-- No call on one segment changes a byte of another: in a sound world, the bytes of a segment that lives on are the same after every call, granted or
-- refused, but a write or a resize that names it.
pub others_keep : (w : World) → Sound w → (c : ℕ) (x : Call) (s : ℕ) → is_live (w.obj s).kind ≡ true → is_live ((after w c x).obj s).kind ≡ true
    → rewrites x s ≡ false → ((after w c x).obj s).bytes ≡ (w.obj s).bytes
others_keep w sound c x s old new r = elim (ℕ_discrete (answer_of (call w c x)) 0) [
  | yes a ↦
      (let g = granted w c x a in
      let v = value_of (call w c x) in
      let b = output_of (call w c x) in
      subst (λ (u : World). is_live (u.obj s).kind ≡ true → (u.obj s).bytes ≡ (w.obj s).bytes) (sym g.world)
      (apply_keeps w g.change s (sound.ids s old).1 ((call_suits w c x v b g.change g.verdict).touch s ∙ r)) new)
  | no n ↦ elim (ℕ_discrete (answer_of (call w c x)) 2) [
    | yes a ↦ ap (λ (u : World). (u.obj s).bytes) (ended_world w c x a)
    | no m ↦ unfold apply in (ap (λ (u : World). (u.obj s).bytes) (refused_world w c x n m))
  ]
]
