-- Theorem 1: what a refused call leaves, which numbers there are, and how the next number moves.
use Prim.Native.Nat.{ℕ, suc, ◌<◌, ◌≤◌}
use Rattle.std.specs.Prelude.{Bool, cond, ◌↔◌, ◌≡◌, eqb, leb, pos, negsuc}
use Rattle.std.proofs.Math.Bool.{true, false}
use Rattle.std.proofs.lemmas.Bool.{false≢true, lt-leb}
use Rattle.std.proofs.Math.Path.{refl}
use Rattle.std.proofs.Common.{sym, subst, eqb-true, leb-true, leb-false}
use mathlib.Core.List.{List, [], ◌∷◌}
use native.Mathlib.Omega.{arith}
use Rattle.rules.specs.Kernel.{Obj, World, Call, create_category, set_label, set_clearance, create_container, create_segment, create_gate, create_thread, unreference, link_segment}
use Rattle.rules.specs.Kernel.{fix_quota, move_quota, read, write, resize, enter_gate, look, Change, keep, alter, create, cut, link, apply, Condition, all_hold, Refusal, by}
use Rattle.rules.specs.Kernel.{number_of, Verdict, refused, grant, unless, must, why_not, must_hold, make, move, access, good_arguments, judge, tests, call, answer_of, value_of}
use Rattle.rules.specs.Kernel.{output_of, leaves, after, last_number}
use Rattle.rules.specs.Answers.{one_of, numbers_of, NumberTaken, Granted}
use Rattle.rules.proofs.Laws.Must.{why_seven}
use Rattle.rules.proofs.Laws.Bools.{or_cases, or_i_r, then_l, then_r}

-- ---- the numbers of a verdict

-- if it refuses, then by one of these numbers
unfoldable among : List ℕ → Verdict → Bool
among ns (refused r) = one_of (number_of r) ns
among ns (grant v b h) = true

module _ (ns : List ℕ) where
  unless_among : (p : Bool) (f : Refusal) (r : Verdict) → one_of (number_of f) ns ≡ true → among ns r ≡ true → among ns (unless p f r) ≡ true
  unfolding unless among
  unless_among true f r h e = e
  unless_among false f r h e = h

  test : (p : Bool) (k : ℕ) (r : Verdict) → one_of k ns ≡ true → among ns r ≡ true → among ns (must p k r) ≡ true
  unfolding must
  test p k r h f = unless_among p (by k) r h f

  hold : (qs : List Condition) (r : Verdict) → one_of 7 ns ≡ true → among ns r ≡ true → among ns (must_hold qs r) ≡ true
  unfolding must_hold
  hold qs r h f = unless_among (all_hold qs) (why_not qs) r (rw (why_seven qs) h) f

  no_test : (k : ℕ) (r : Verdict) → among ns r ≡ true → among ns (must true k r) ≡ true
  unfolding unless must
  no_test k r f = f

  end : (v : ℕ) (b : List ℕ) (h : Change) → among ns (grant v b h) ≡ true
  unfolding among
  end v b h = refl

one_more : (n : ℕ) (ns : List ℕ) (r : Verdict) → among ns r ≡ true → among (n ∷ ns) r ≡ true
unfolding among one_of
one_more n ns (refused r) h = or_i_r (eqb (number_of r) n) (one_of (number_of r) ns) h
one_more n ns (grant v b h) e = refl

make_among : (w : World) (p : Bool) (t : Obj) (d : ℕ) (x : Obj) (more : List Condition)
    → among (3 ∷ 4 ∷ 5 ∷ 7 ∷ 8 ∷ 13 ∷ []) (must p 4 (make w t d x more)) ≡ true
unfolding one_of make
make_among w p t d x more = test _ _ 4 _ refl (test _ _ 5 _ refl (hold _ _ _ refl (test _ _ 8 _ refl (test _ _ 13 _ refl (end _ _ _ _)))))

module _ (w : World) (c : ℕ) where
  judge_among : (x : Call) → among (3 ∷ numbers_of x) (must (good_arguments w.next x) 4 (judge w (w.obj c) c x)) ≡ true
  unfolding judge numbers_of one_of good_arguments make move access
  judge_among create_category = no_test _ 4 _ (test _ _ 12 _ refl (end _ _ _ _))
  judge_among (set_label l) = test _ _ 4 _ refl (hold _ _ _ refl (end _ _ _ _))
  judge_among (set_clearance l) = test _ _ 4 _ refl (hold _ _ _ refl (end _ _ _ _))
  judge_among (create_container d l s m q) = make_among w _ (w.obj c) d _ _
  judge_among (create_segment d l s q) = make_among w _ (w.obj c) d _ _
  judge_among (create_gate d l k e x s) = make_among w _ (w.obj c) d _ _
  judge_among (create_thread d l k s) = make_among w _ (w.obj c) d _ _
  judge_among (unreference d o) = no_test _ 4 _ (test _ _ 5 _ refl (hold _ _ _ refl (end _ _ _ _)))
  judge_among (link_segment d1 o d) =
      no_test _ 4 _ (test _ _ 5 _ refl (test _ _ 6 _ refl (hold _ _ _ refl (test _ _ 8 _ refl (test _ _ 9 _ refl (test _ _ 10 _ refl (test _ _ 13 _ refl (end _ _ _ _))))))))
  judge_among (fix_quota d o) = no_test _ 4 _ (test _ _ 5 _ refl (test _ _ 6 _ refl (hold _ _ _ refl (end _ _ _ _))))
  judge_among (move_quota d o (pos n)) =
      test _ _ 4 _ refl (test _ _ 5 _ refl (test _ _ 6 _ refl (hold _ _ _ refl (test _ _ 9 _ refl (test _ _ 13 _ refl (end _ _ _ _))))))
  judge_among (move_quota d o (negsuc n)) =
      test _ _ 4 _ refl (test _ _ 5 _ refl (test _ _ 6 _ refl (hold _ _ _ refl (test _ _ 9 _ refl (test _ _ 13 _ refl (end _ _ _ _))))))
  judge_among (read d s k f n) = test _ _ 4 _ refl (test _ _ 5 _ refl (test _ _ 6 _ refl (hold _ _ _ refl (test _ _ 11 _ refl (end _ _ _ _)))))
  judge_among (write d s k f n b) = test _ _ 4 _ refl (test _ _ 5 _ refl (test _ _ 6 _ refl (hold _ _ _ refl (test _ _ 11 _ refl (end _ _ _ _)))))
  judge_among (resize d s n) = test _ _ 4 _ refl (test _ _ 5 _ refl (test _ _ 6 _ refl (hold _ _ _ refl (test _ _ 13 _ refl (end _ _ _ _)))))
  judge_among (enter_gate d g lr cr lv out) = test _ _ 4 _ refl (test _ _ 5 _ refl (test _ _ 6 _ refl (hold _ _ _ refl (end _ _ _ _))))
  judge_among (look d o out) = test _ _ 4 _ refl (test _ _ 5 _ refl (end _ _ _ _))

  tests_among : (x : Call) → among (3 ∷ numbers_of x) (tests w c x) ≡ true
  unfolding tests one_of
  tests_among x = test _ _ 3 _ refl (judge_among x)

  call_among : (x : Call) → among (2 ∷ 3 ∷ numbers_of x) (call w c x) ≡ true
  unfolding call one_of
  call_among x = test _ _ 2 _ refl (one_more 2 (3 ∷ numbers_of x) (tests w c x) (tests_among x))

-- ---- what a list of numbers says of one of them

-- the numbers go from low to high
unfoldable inside : ℕ → ℕ → List ℕ → Bool
inside low high [] = true
inside low high (n ∷ ns) = cond (leb low n) (cond (leb n high) (inside low high ns) false) false

one_of_range : (low high k : ℕ) (ns : List ℕ) → inside low high ns ≡ true → one_of k ns ≡ true → (low ≤ k) × (k ≤ high)
unfolding one_of inside
one_of_range low high k [] h e = absurd (false≢true e)
one_of_range low high k (n ∷ ns) h e =
    let t : Bool = cond (leb n high) (inside low high ns) false in
    or_cases (eqb k n) (one_of k ns) e
    (λ p.
    let q = eqb-true k n p in
    let a = leb-true low n (then_l (leb low n) t h) in
    let b = leb-true n high (then_l (leb n high) (inside low high ns) (then_r (leb low n) t h)) in
    (omega arith, omega arith))
    (one_of_range low high k ns (then_r (leb n high) (inside low high ns) (then_r (leb low n) t h)))

-- a call's numbers after 2 go from 3 to 13
own_range : (x : Call) → inside 3 13 (3 ∷ numbers_of x) ≡ true
unfolding inside numbers_of
own_range create_category = refl
own_range (set_label l) = refl
own_range (set_clearance l) = refl
own_range (create_container d l s m q) = refl
own_range (create_segment d l s q) = refl
own_range (create_gate d l k e x s) = refl
own_range (create_thread d l k s) = refl
own_range (unreference d o) = refl
own_range (link_segment d1 o d) = refl
own_range (fix_quota d o) = refl
own_range (move_quota d o n) = refl
own_range (read d s k f n) = refl
own_range (write d s k f n b) = refl
own_range (resize d s n) = refl
own_range (enter_gate d g lr cr lv out) = refl
own_range (look d o out) = refl

-- a verdict whose numbers are among those refuses by one of them
among_range : (low high : ℕ) (ns : List ℕ) (r : Verdict) (f : Refusal) → inside low high ns ≡ true → among ns r ≡ true
    → r ≡ refused f → (low ≤ number_of f) × (number_of f ≤ high)
unfolding among
among_range low high ns r f h a e = one_of_range low high (number_of f) ns h (subst (λ v. among ns v ≡ true) e a)

module _ (w : World) (c : ℕ) (x : Call) (f : Refusal) where
  tests_range : tests w c x ≡ refused f → (3 ≤ number_of f) × (number_of f ≤ 13)
  tests_range = among_range 3 13 (3 ∷ numbers_of x) (tests w c x) f (own_range x) (tests_among w c x)

  refusal_range : call w c x ≡ refused f → (2 ≤ number_of f) × (number_of f ≤ 13)
  unfolding call unless must
  refusal_range = go (leb w.next last_number)
    where
      go : (p : Bool) → must p 2 (tests w c x) ≡ refused f → (2 ≤ number_of f) × (number_of f ≤ 13)
      go true e = let z = tests_range e in (omega arith, omega arith)
      go false e = let z : by 2 ≡ f = cc in rw (← z) (omega arith, omega arith)

-- a world that only took its number
kept_number : (w : World) → NumberTaken w (apply keep w)
unfolding apply
kept_number w = record { next = refl; root = refl; obj = λ o. refl; linked = λ d o. refl }

-- every change moves the next number on
pub change_next : (h : Change) (w : World) → (apply h w).next ≡ suc w.next
unfolding apply
change_next keep w = refl
change_next (alter o e) w = refl
change_next (create d x) w = refl
change_next (cut d o) w = refl
change_next (link d o) w = refl

-- ---- the theorem

module _ (w : World) (c : ℕ) (x : Call) where
  -- Every answer is 0, 2, 3 or one of the call's own numbers.
  pub answer_own : one_of (answer_of (call w c x)) (0 ∷ 2 ∷ 3 ∷ numbers_of x) ≡ true
  unfolding answer_of one_of among
  answer_own = go (call w c x) (call_among w c x)
    where
      go : (r : Verdict) → among (2 ∷ 3 ∷ numbers_of x) r ≡ true → one_of (answer_of r) (0 ∷ 2 ∷ 3 ∷ numbers_of x) ≡ true
      go (refused f) h = or_i_r (eqb (number_of f) 0) _ h
      go (grant v b h) e = refl

  -- An answer is at most 13, and never 1: that is about the areas, which a world does not have.
  pub answer_most : answer_of (call w c x) ≤ 13
  unfolding answer_of
  answer_most = go (call w c x) refl
    where
      go : (r : Verdict) → call w c x ≡ r → answer_of r ≤ 13
      go (refused f) e = (refusal_range w c x f e).1
      go (grant v b h) e = omega arith

  pub never_one : answer_of (call w c x) ≡ 1 → ⊥
  unfolding answer_of
  never_one = go (call w c x) refl
    where
      go : (r : Verdict) → call w c x ≡ r → answer_of r ≡ 1 → ⊥
      go (refused f) e a = let z = refusal_range w c x f e in omega arith
      go (grant v b h) e a = omega arith

  -- Answer 0 means a grant.
  pub granted : answer_of (call w c x) ≡ 0 → Granted w c x
  unfolding answer_of value_of output_of after leaves
  granted = go (call w c x) refl
    where
      go : (r : Verdict) → call w c x ≡ r → answer_of r ≡ 0 → Granted w c x
      go (refused f) e a = absurd (let z = refusal_range w c x f e in omega arith)
      go (grant v b h) e a = record { change = h; verdict = rw e; world = rw e }

  -- A refused call has the value 0 and no output.
  pub refused_value : (answer_of (call w c x) ≡ 0 → ⊥) → value_of (call w c x) ≡ 0
  unfolding answer_of value_of
  refused_value = go (call w c x)
    where
      go : (r : Verdict) → (answer_of r ≡ 0 → ⊥) → value_of r ≡ 0
      go (refused (by k)) n = refl
      go (grant v b h) n = absurd (n refl)

  pub refused_output : (answer_of (call w c x) ≡ 0 → ⊥) → output_of (call w c x) ≡ []
  unfolding answer_of output_of
  refused_output = go (call w c x)
    where
      go : (r : Verdict) → (answer_of r ≡ 0 → ⊥) → output_of r ≡ []
      go (refused f) n = refl
      go (grant v b h) n = absurd (n refl)

  -- A call refused by any number but 2 changes nothing but the next number.
  pub refused_world : (answer_of (call w c x) ≡ 0 → ⊥) → (answer_of (call w c x) ≡ 2 → ⊥) → after w c x ≡ apply keep w
  unfolding answer_of after leaves
  refused_world = go (call w c x) refl
    where
      go : (r : Verdict) → call w c x ≡ r → (answer_of r ≡ 0 → ⊥) → (answer_of r ≡ 2 → ⊥) → leaves r w ≡ apply keep w
      go (refused f) e n m = let z = refusal_range w c x f e in rw (lt-leb (number_of f) 2 (omega arith))
      go (grant v b h) e n m = absurd (n refl)

  -- The same, field by field: the next number moves on by one; root, objects and links are the same.
  pub refused_fields : (answer_of (call w c x) ≡ 0 → ⊥) → (answer_of (call w c x) ≡ 2 → ⊥) → NumberTaken w (after w c x)
  refused_fields n m = subst (NumberTaken w) (sym (refused_world n m)) (kept_number w)

  -- After answer 2 the world is as it was.
  pub ended_world : answer_of (call w c x) ≡ 2 → after w c x ≡ w
  unfolding answer_of after leaves
  ended_world = go (call w c x)
    where
      go : (r : Verdict) → answer_of r ≡ 2 → leaves r w ≡ w
      go (refused f) a = rw a
      go (grant v b h) a = absurd (omega arith)

  -- Answer 2 is given exactly where the numbers have ended.
  pub ended : (answer_of (call w c x) ≡ 2) ↔ (last_number < w.next)
  unfolding answer_of call unless must
  ended = (go (leb w.next last_number) refl, λ l. rw (lt-leb w.next last_number l))
    where
      late : (r : Verdict) → tests w c x ≡ r → answer_of r ≡ 2 → ⊥
      late (refused f) e a = let z = tests_range w c x f e in omega arith
      late (grant v b h) e a = omega arith

      go : (p : Bool) → leb w.next last_number ≡ p → answer_of (must p 2 (tests w c x)) ≡ 2 → last_number < w.next
      go true e a = absurd (late (tests w c x) refl a)
      go false e a = leb-false w.next last_number e

  -- After every call, granted or refused, the next number has moved on by one, but for answer 2.
  pub number_taken : (answer_of (call w c x) ≡ 2 → ⊥) → (after w c x).next ≡ suc w.next
  unfolding answer_of after leaves
  number_taken = go (call w c x) refl
    where
      go : (r : Verdict) → call w c x ≡ r → (answer_of r ≡ 2 → ⊥) → (leaves r w).next ≡ suc w.next
      go (refused f) e m = let z = refusal_range w c x f e in rw (lt-leb (number_of f) 2 (omega arith)) (change_next keep w)
      go (grant v b h) e m = change_next h w
