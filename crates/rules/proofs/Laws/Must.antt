-- Taking a verdict apart: a grant passed every test before it.
use Rattle.std.specs.Prelude.{ℕ, Bool, cond, ◌≡◌, List, [], ◌∷◌, ◌++◌, leb}
use Rattle.std.proofs.Math.Bool.{true, false}
use Rattle.std.proofs.lemmas.Bool.{false≢true}
use Rattle.std.proofs.Math.Path.{refl}
use Rattle.std.proofs.Common.{subst, arith}
use Rattle.rules.specs.Kernel.{World, Call, Change, Refusal, by, number_of, Verdict, refused, grant, unless, must, why_not, must_hold, tests, call, judge, is_thread}
use Rattle.rules.specs.Kernel.{good_arguments, last_number, Condition, holds, all_hold}

pub refuse_no_grant : (f : Refusal) (v : ℕ) (b : List ℕ) (h : Change) → refused f ≡ grant v b h → ⊥
refuse_no_grant f v b h e = let z : ◌≡◌ {A = ℕ} 0 1 = cc in omega arith

module _ (v : ℕ) (b : List ℕ) (h : Change) where
  unless_test : (p : Bool) (f : Refusal) (r : Verdict) → unless p f r ≡ grant v b h → p ≡ true
  unfolding unless
  unless_test true f r e = refl
  unless_test false f r e = absurd (refuse_no_grant f v b h e)

  unless_rest : (p : Bool) (f : Refusal) (r : Verdict) → unless p f r ≡ grant v b h → r ≡ grant v b h
  unfolding unless
  unless_rest true f r e = e
  unless_rest false f r e = absurd (refuse_no_grant f v b h e)

  pub must_test : (p : Bool) (k : ℕ) (r : Verdict) → must p k r ≡ grant v b h → p ≡ true
  unfolding must
  must_test p k r e = unless_test p (by k) r e

  pub must_rest : (p : Bool) (k : ℕ) (r : Verdict) → must p k r ≡ grant v b h → r ≡ grant v b h
  unfolding must
  must_rest p k r e = unless_rest p (by k) r e

  pub hold_test : (qs : List Condition) (r : Verdict) → must_hold qs r ≡ grant v b h → all_hold qs ≡ true
  unfolding must_hold
  hold_test qs r e = unless_test (all_hold qs) (why_not qs) r e

  pub hold_rest : (qs : List Condition) (r : Verdict) → must_hold qs r ≡ grant v b h → r ≡ grant v b h
  unfolding must_hold
  hold_rest qs r e = unless_rest (all_hold qs) (why_not qs) r e

-- two grants that are the same have the same change
pub same_change : (P : Change → Type 0) (v v' : ℕ) (b b' : List ℕ) (g h : Change) → grant v b g ≡ grant v' b' h → P g → P h
same_change P v v' b b' g h e p = subst P (let q : g ≡ h = cc in q) p

-- a granted call's number has not ended, its caller is a thread, its arguments are good, and it passed the tests from 5 on
pub record Passed (w : World) (c : ℕ) (x : Call) (v : ℕ) (b : List ℕ) (h : Change) : Type 0 where
  pub number : leb w.next last_number ≡ true
  pub caller : is_thread (w.obj c).kind ≡ true
  pub arguments : good_arguments w.next x ≡ true
  pub judged : judge w (w.obj c) c x ≡ grant v b h

pub passed : (w : World) (c : ℕ) (x : Call) (v : ℕ) (b : List ℕ) (h : Change) → call w c x ≡ grant v b h → Passed w c x v b h
unfolding call tests
passed w c x v b h e =
    let e2 = must_rest v b h (leb w.next last_number) 2 (tests w c x) e in
    let e3 = must_rest v b h (is_thread (w.obj c).kind) 3 (must (good_arguments w.next x) 4 (judge w (w.obj c) c x)) e2 in
    record {
      number = must_test v b h (leb w.next last_number) 2 (tests w c x) e;
      caller = must_test v b h (is_thread (w.obj c).kind) 3 (must (good_arguments w.next x) 4 (judge w (w.obj c) c x)) e2;
      arguments = must_test v b h (good_arguments w.next x) 4 (judge w (w.obj c) c x) e3;
      judged = must_rest v b h (good_arguments w.next x) 4 (judge w (w.obj c) c x) e3;
    }

-- a condition that fails is answered by 7
pub why_seven : (qs : List Condition) → number_of (why_not qs) ≡ 7
unfolding why_not
why_seven qs = refl

-- conditions that all hold: the first, and the others
pub all_head : (q : Condition) (qs : List Condition) → all_hold (q ∷ qs) ≡ true → holds q ≡ true
unfolding all_hold
all_head q qs e = go (holds q) e
  where
    go : (t : Bool) → cond t (all_hold qs) false ≡ true → t ≡ true
    go true e = refl
    go false e = absurd (false≢true e)

pub all_tail : (q : Condition) (qs : List Condition) → all_hold (q ∷ qs) ≡ true → all_hold qs ≡ true
unfolding all_hold
all_tail q qs e = go (holds q) e
  where
    go : (t : Bool) → cond t (all_hold qs) false ≡ true → all_hold qs ≡ true
    go true e = e
    go false e = absurd (false≢true e)

pub all_left : (qs rs : List Condition) → all_hold (qs ++ rs) ≡ true → all_hold qs ≡ true
unfolding all_hold
all_left [] rs e = refl
all_left (q ∷ qs) rs e = go (holds q) e (λ f. all_left qs rs f)
  where
    go : (t : Bool) → cond t (all_hold (qs ++ rs)) false ≡ true → (all_hold (qs ++ rs) ≡ true → all_hold qs ≡ true) → cond t (all_hold qs) false ≡ true
    go true e f = f e
    go false e f = e

pub all_right : (qs rs : List Condition) → all_hold (qs ++ rs) ≡ true → all_hold rs ≡ true
unfolding all_hold
all_right [] rs e = e
all_right (q ∷ qs) rs e = all_right qs rs (all_tail q (qs ++ rs) e)
