-- Theorem 8: the numbers of calls, their values, and the ids and categories that they issue. That each call takes the next number, but for answer 2, is
-- `number_taken` and `ended_world` in Refusals.
use Rattle.std.specs.Prelude.{ℕ, zero, suc, ◌<◌, ◌≤◌, Bool, true, false, cond, ◌&&◌, ◌⊎◌, ◌≡◌, refl, List, [], ◌∷◌, length, get_or, eqb, pos, negsuc}
use Rattle.std.proofs.Math.Decide.{ℕ_discrete, dec_lt}
use Rattle.std.proofs.Common.{not-suc-le-zero, le_of_suc-le-suc, arith, inl, inr, ⊎_elim, sym, ◌∙◌, ap, subst, eqb-true, eq-eqb}
use Rattle.std.proofs.lemmas.Bool.{false≢true}
use Rattle.rules.specs.Kernel.{is_live, Obj, World, Change, apply, Call, create_category, set_label, set_clearance, create_container, create_segment, create_gate, create_thread}
use Rattle.rules.specs.Kernel.{unreference, link_segment, fix_quota, move_quota, read, write, resize, enter_gate, look, grant, call, answer_of, value_of, after, History, beginning}
use Rattle.rules.specs.Kernel.{next, world_after}
use Rattle.rules.specs.Issued.{call_number, creates, issues, live_below, issued, Listed}
use Rattle.rules.proofs.Laws.Bools.{and_l, and_r, and_i, or_i_r}
use Rattle.rules.specs.Histories.{first_world, WellStarted}
use Rattle.rules.proofs.Laws.Outcome.{outcome, call_outcome}
use Rattle.rules.proofs.Laws.Effects.{call_suits, apply_live, apply_made}
use Rattle.rules.proofs.Theorems.Refusals.{granted, refused_world, ended_world, number_taken}

-- ---- values

same_value : (u v : ℕ) (a b : List ℕ) (g h : Change) → grant u a g ≡ grant v b h → v ≡ u
same_value u v a b g h e = cc

module _ (w : World) (t : Obj) (c v : ℕ) (b : List ℕ) (h : Change) where
  own : (x : Call) → issues x ≡ true → outcome w t c x ≡ grant v b h → v ≡ w.next
  unfolding issues creates call_number outcome
  own create_category i e = same_value _ _ _ _ _ _ e
  own (set_label l) i e = absurd (false≢true i)
  own (set_clearance k) i e = absurd (false≢true i)
  own (create_container d l y m q) i e = same_value _ _ _ _ _ _ e
  own (create_segment d l y q) i e = same_value _ _ _ _ _ _ e
  own (create_gate d l k n u y) i e = same_value _ _ _ _ _ _ e
  own (create_thread d l k y) i e = same_value _ _ _ _ _ _ e
  own (unreference d o) i e = absurd (false≢true i)
  own (link_segment d1 o d) i e = absurd (false≢true i)
  own (fix_quota d o) i e = absurd (false≢true i)
  own (move_quota d o n) i e = absurd (false≢true i)
  own (read d s k f n) i e = absurd (false≢true i)
  own (write d s k f n y) i e = absurd (false≢true i)
  own (resize d s n) i e = absurd (false≢true i)
  own (enter_gate d g lr cr lv out) i e = absurd (false≢true i)
  own (look d o out) i e = absurd (false≢true i)

  none : (x : Call) → issues x ≡ false → (call_number x ≡ 15 → ⊥) → outcome w t c x ≡ grant v b h → v ≡ 0
  unfolding issues creates call_number outcome
  none create_category i z e = absurd (false≢true (sym i))
  none (set_label l) i z e = same_value _ _ _ _ _ _ e
  none (set_clearance k) i z e = same_value _ _ _ _ _ _ e
  none (create_container d l y m q) i z e = absurd (false≢true (sym i))
  none (create_segment d l y q) i z e = absurd (false≢true (sym i))
  none (create_gate d l k n u y) i z e = absurd (false≢true (sym i))
  none (create_thread d l k y) i z e = absurd (false≢true (sym i))
  none (unreference d o) i z e = same_value _ _ _ _ _ _ e
  none (link_segment d1 o d) i z e = same_value _ _ _ _ _ _ e
  none (fix_quota d o) i z e = same_value _ _ _ _ _ _ e
  none (move_quota d o (pos m)) i z e = same_value _ _ _ _ _ _ e
  none (move_quota d o (negsuc m)) i z e = same_value _ _ _ _ _ _ e
  none (read d s k f n) i z e = same_value _ _ _ _ _ _ e
  none (write d s k f n y) i z e = same_value _ _ _ _ _ _ e
  none (resize d s n) i z e = same_value _ _ _ _ _ _ e
  none (enter_gate d g lr cr lv out) i z e = absurd (z refl)
  none (look d o out) i z e = same_value _ _ _ _ _ _ e

module _ (w : World) (c : ℕ) where
  -- A granted call 1, 4, 5, 6 or 7 has its own number as value: the number that was next.
  pub issuing_value : (x : Call) → answer_of (call w c x) ≡ 0 → issues x ≡ true → value_of (call w c x) ≡ w.next
  issuing_value x a i = let g = granted w c x a in own w (w.obj c) c _ _ g.change x i (call_outcome w c x _ _ g.change g.verdict)

  -- A granted call 15 has the gate's entry number.
  pub gate_value : (d g : ℕ) (lr cr lv : List ℕ) (out : ℕ) → answer_of (call w c (enter_gate d g lr cr lv out)) ≡ 0
      → value_of (call w c (enter_gate d g lr cr lv out)) ≡ (w.obj g).entry
  unfolding outcome
  gate_value d g lr cr lv out a =
      let x = enter_gate d g lr cr lv out in
      let k = granted w c x a in
      same_value _ _ _ _ _ _ (call_outcome w c x _ _ k.change k.verdict)

  -- Every other granted call has 0. (A refused call has 0 by `refused_value` in Refusals.)
  pub other_value : (x : Call) → answer_of (call w c x) ≡ 0 → issues x ≡ false → (call_number x ≡ 15 → ⊥) → value_of (call w c x) ≡ 0
  other_value x a i n = let g = granted w c x a in none w (w.obj c) c _ _ g.change x i n (call_outcome w c x _ _ g.change g.verdict)

-- ---- ids

module _ (w : World) (c : ℕ) (x : Call) where
  -- An id is live after a call only if it was live before, or is the call's own number and the call a granted create.
  pub live_from : (o : ℕ) → is_live ((after w c x).obj o).kind ≡ true
      → (is_live (w.obj o).kind ≡ true) ⊎ ((o ≡ w.next) × (creates x ≡ true) × (answer_of (call w c x) ≡ 0))
  live_from o k = elim (ℕ_discrete (answer_of (call w c x)) 0) [
    | yes a ↦
        (let g = granted w c x a in
        let P : Type 0 = (is_live (w.obj o).kind ≡ true) ⊎ ((o ≡ w.next) × (creates x ≡ true) × (answer_of (call w c x) ≡ 0)) in
        apply_live {C = P} w g.change o (subst (λ (u : World). is_live (u.obj o).kind ≡ true) g.world k) (λ old. inl old)
        (λ q m. inr (q, sym (call_suits w c x _ _ g.change g.verdict).make ∙ m, a)))
    | no n ↦ elim (ℕ_discrete (answer_of (call w c x)) 2) [
      | yes a ↦ inl (subst (λ (u : World). is_live (u.obj o).kind ≡ true) (ended_world w c x a) k)
      | no m ↦ inl (unfold apply in (subst (λ (u : World). is_live (u.obj o).kind ≡ true) (refused_world w c x n m) k))
    ]
  ]

  -- And after a granted create the call's own number is live.
  pub created_live : answer_of (call w c x) ≡ 0 → creates x ≡ true → is_live ((after w c x).obj w.next).kind ≡ true
  created_live a i =
      let g = granted w c x a in
      let s = call_suits w c x _ _ g.change g.verdict in
      ap (λ (u : World). is_live (u.obj w.next).kind) g.world
      ∙ ap (λ (y : Obj). is_live y.kind) (apply_made w g.change (s.make ∙ i)) ∙ s.live ∙ i

create_issues : (x : Call) → creates x ≡ true → issues x ≡ true
unfolding issues
create_issues x e = or_i_r (eqb (call_number x) 1) (creates x) e

-- ---- what a history has issued

-- each is below the one before it, and the first below n
abbrev Falling : ℕ → List ℕ → Type 0
Falling n [] = Unit {0}
Falling n (m ∷ ms) = (m < n) × Falling m ms

falling_up : (n m : ℕ) (ms : List ℕ) → n ≤ m → Falling n ms → Falling m ms
falling_up n m [] l f = tt
falling_up n m (k ∷ ks) l f = (let g = f.0 in omega arith, f.1)

falling_below : (n : ℕ) (ms : List ℕ) → Falling n ms → (i : ℕ) → i < length ms → get_or ms i 0 < n
falling_below n [] f i l = absurd (not-suc-le-zero l)
falling_below n (m ∷ ms) f zero l = f.0
falling_below n (m ∷ ms) f (suc i) l = let g = falling_below m ms f.1 i (le_of_suc-le-suc l) in let k = f.0 in omega arith

falling_two : (n : ℕ) (ms : List ℕ) → Falling n ms → (i j : ℕ) → i < j → j < length ms → get_or ms j 0 < get_or ms i 0
falling_two n [] f i j l k = absurd (not-suc-le-zero k)
falling_two n (m ∷ ms) f i zero l k = absurd (not-suc-le-zero l)
falling_two n (m ∷ ms) f zero (suc j) l k = falling_below m ms f.1 j (le_of_suc-le-suc k)
falling_two n (m ∷ ms) f (suc i) (suc j) l k = falling_two m ms f.1 i j (le_of_suc-le-suc l) (le_of_suc-le-suc k)

-- no call moves the next number back
next_up : (w : World) (c : ℕ) (x : Call) → w.next ≤ (after w c x).next
next_up w c x = elim (ℕ_discrete (answer_of (call w c x)) 2) [
  | yes a ↦ (let e : (after w c x).next ≡ w.next = ap (λ (u : World). u.next) (ended_world w c x a) in omega arith)
  | no n ↦ (let e = number_taken w c x n in omega arith)
]

below_falling : (w : World) (n : ℕ) → Falling n (live_below w n)
unfolding live_below
below_falling w zero = tt
below_falling w (suc n) = go (is_live (w.obj n).kind) (below_falling w n)
  where
    go : (b : Bool) → Falling n (live_below w n) → Falling (suc n) (cond b (n ∷ live_below w n) (live_below w n))
    go true f = (omega arith, f)
    go false f = falling_up n (suc n) (live_below w n) (omega arith) f

issued_falling : (h : History) → Falling (world_after h).next (issued h)
unfolding world_after issued
issued_falling (beginning w) = below_falling w w.next
issued_falling (next h c x) = go (eqb (answer_of (call (world_after h) c x)) 0 && issues x) refl (issued_falling h)
  where
    w : World
    w = world_after h

    go : (t : Bool) → (eqb (answer_of (call w c x)) 0 && issues x) ≡ t → Falling w.next (issued h)
        → Falling (after w c x).next (cond t (value_of (call w c x) ∷ issued h) (issued h))
    go true e f =
        let a = eqb-true (answer_of (call w c x)) 0 (and_l (eqb (answer_of (call w c x)) 0) (issues x) e) in
        let v = issuing_value w c x a (and_r (eqb (answer_of (call w c x)) 0) (issues x) e) in
        let n = number_taken w c x (λ b. omega arith) in
        (omega arith, subst (λ (m : ℕ). Falling m (issued h)) (sym v) f)
    go false e f = falling_up w.next (after w c x).next (issued h) (next_up w c x) f

-- Every number issued is below the next number.
pub issued_below : (h : History) (i : ℕ) → i < length (issued h) → get_or (issued h) i 0 < (world_after h).next
issued_below h = falling_below (world_after h).next (issued h) (issued_falling h)

-- Each number issued is greater than every one issued before it.
pub issued_rise : (h : History) (i j : ℕ) → i < j → j < length (issued h) → get_or (issued h) j 0 < get_or (issued h) i 0
issued_rise h = falling_two (world_after h).next (issued h) (issued_falling h)

-- So none is issued twice.
pub issued_once : (h : History) (i j : ℕ) → i < length (issued h) → j < length (issued h) → get_or (issued h) i 0 ≡ get_or (issued h) j 0 → i ≡ j
issued_once h i j k l e = elim (dec_lt i j) [
  | yes p ↦ absurd (omega (arith, issued_rise h i j p l))
  | no n ↦ elim (dec_lt j i) [ yes q ↦ absurd (omega (arith, issued_rise h j i q k)) | no m ↦ omega arith ]
]

-- the live ids below n are among them
live_listed : (w : World) (n o : ℕ) → o < n → is_live (w.obj o).kind ≡ true → Listed o (live_below w n)
unfolding live_below
live_listed w zero o l k = absurd (not-suc-le-zero l)
live_listed w (suc n) o l k = elim (ℕ_discrete o n) [
  | yes e ↦ here (is_live (w.obj n).kind) (ap (λ (i : ℕ). is_live (w.obj i).kind) (sym e) ∙ k) e
  | no e ↦ later (is_live (w.obj n).kind) (live_listed w n o (omega arith) k)
]
  where
    here : (b : Bool) → b ≡ true → o ≡ n → Listed o (cond b (n ∷ live_below w n) (live_below w n))
    here true t e = (0, omega arith, sym e)
    here false t e = absurd (false≢true t)

    later : (b : Bool) → Listed o (live_below w n) → Listed o (cond b (n ∷ live_below w n) (live_below w n))
    later true y = let (i, l, e) = y in (suc i, omega arith, e)
    later false y = y

-- Every live object has an id that was issued.
pub live_issued : (h : History) → WellStarted h → (o : ℕ) → is_live ((world_after h).obj o).kind ≡ true → Listed o (issued h)
unfolding world_after issued first_world
live_issued (beginning w) s o k = live_listed w w.next o (s.ids o k).1 k
live_issued (next h c x) s o k =
    let w = world_after h in
    let t = eqb (answer_of (call w c x)) 0 && issues x in
    let P : Type 0 = Listed o (cond t (value_of (call w c x) ∷ issued h) (issued h)) in
    ⊎_elim {C = P}
    (λ old. later t (value_of (call w c x)) (live_issued h s o old))
    (λ b.
    let u : t ≡ true = and_i (eqb (answer_of (call w c x)) 0) (issues x) (eq-eqb (answer_of (call w c x)) 0 b.2) (create_issues x b.1) in
    now t u (issuing_value w c x b.2 (create_issues x b.1) ∙ sym b.0))
    (live_from w c x o k)
  where
    later : (t : Bool) (v : ℕ) → Listed o (issued h) → Listed o (cond t (v ∷ issued h) (issued h))
    later true v y = let (i, l, e) = y in (suc i, omega arith, e)
    later false v y = y

    now : (t : Bool) → t ≡ true → {v : ℕ} → v ≡ o → Listed o (cond t (v ∷ issued h) (issued h))
    now true u e = (0, omega arith, e)
    now false u e = absurd (false≢true u)
