-- W5 (docs/RULES.md, section 12) is proved. Its statement stands in Tainted.
use Rattle.std.specs.Prelude.{ℕ, ◌<◌, ◌≤◌, Bool, cond, ◌≡◌, refl, List}
use Rattle.std.proofs.Math.Decide.{ℕ_discrete}
use Rattle.std.proofs.Common.{arith, sym, ◌∙◌, leb-false, leb-true}
use Rattle.std.proofs.Math.Bool.{true, false}
use Rattle.std.proofs.Math.Path.{ap, subst}
use Rattle.std.proofs.Math.Dec.{leb}
use Rattle.labels.specs.Core.{at, level1}
use Rattle.rules.specs.Kernel.{is_thread, Obj, World, Change, keep, apply, Call, Verdict, refused, number_of, grant, good_arguments, judge, tests, call, leaves}
use Rattle.rules.specs.Kernel.{after, answer_of, value_of, output_of, last_number}
use Rattle.rules.specs.Sound.{Sound}
use Rattle.rules.proofs.Laws.Bools.{and_l, and_r, same_by, bool_cases}
use Rattle.rules.proofs.Laws.Must.{passed}
use Rattle.rules.proofs.Theorems.Refusals.{granted, refused_world, ended_world, ended}
use Rattle.rules.proofs.Theorems.StaysSound.{stays_sound}
use Rattle.tainted.specs.Tainted as the
use Rattle.tainted.specs.Tainted.{untainted, untainted_container, untainted_caller, AlikeHistories, same_start, turn, Reached, top, through, SameUntainted}
use Rattle.tainted.proofs.Laws.Rooms.{tainted_gt}
use Rattle.tainted.proofs.Laws.Seen.{same_whole, same_taint}
use Rattle.tainted.proofs.Laws.Alike.{TermsKept, terms_at_start, Alike, alike_refl, alike_sym, alike_trans, caller_same}
use Rattle.tainted.proofs.Laws.Both.{keep_both}
use Rattle.tainted.proofs.Laws.Respects.{Respects, Calling, some}
use Rattle.tainted.proofs.Laws.Same.{must_same}
use Rattle.tainted.proofs.Laws.Calls.{each_call}
use Rattle.tainted.proofs.Laws.Step.{quiet, both}
use Rattle.tainted.proofs.Laws.Kept.{kept_keep, terms_kept}
use Rattle.tainted.proofs.Laws.Start.{start_untainted}

module _ (v : ℕ) where
  is_thread_lem : (x : Obj) → untainted_caller v x ≡ true → is_thread x.kind ≡ true
  unfolding untainted_caller
  is_thread_lem x h = and_l (is_thread x.kind) (untainted v x) h

  is_untainted : (x : Obj) → untainted_caller v x ≡ true → untainted v x ≡ true
  unfolding untainted_caller
  is_untainted x h = and_r (is_thread x.kind) (untainted v x) h

  above : (x : Obj) → untainted_caller v x ≡ false → is_thread x.kind ≡ true → level1 < at x.label v
  unfolding untainted_caller
  above x h k = tainted_gt v x (rw k at h)

  -- ---- one world

  module _ (w : World) (so : Sound w) (tk : TermsKept v w) (c : ℕ) where
    calling : is_thread (w.obj c).kind ≡ true → Calling v w c
    calling k = record { sound = so; terms = tk; is_thread_lem = k }

    granted_respects : (x : Call) (n : ℕ) (l : List ℕ) (h : Change) → call w c x ≡ grant n l h → (is_thread (w.obj c).kind ≡ true) × Respects v w c h
    granted_respects x n l h e =
        let p = passed w c x n l h e in
        (p.caller, ((each_call v x).respects w c (calling p.caller)).respected n l h p.judged)

    -- a call finds the numbers ended and changes nothing, or takes its number only, or is granted a change
    -- that respects the levels
    after_cases : (x : Call) (P : World → Type 0) → (last_number < w.next → P w) → P (apply keep w)
        → ((h : Change) → is_thread (w.obj c).kind ≡ true → Respects v w c h → P (apply h w)) → P (after w c x)
    after_cases x P none one more = elim (ℕ_discrete (answer_of (call w c x)) 0) [
      | yes a ↦
          (let g = granted w c x a in
          let (k, f) = granted_respects x (value_of (call w c x)) (output_of (call w c x)) g.change g.verdict in
          subst P (sym g.world) (more g.change k f))
      | no n ↦
          elim (ℕ_discrete (answer_of (call w c x)) 2) [
            | yes a ↦ subst P (sym (ended_world w c x a)) (none ((ended w c x).0 a))
            | no m ↦ subst P (sym (refused_world w c x n m)) one
          ]
    ]

    after_kept : (x : Call) → TermsKept v (after w c x)
    after_kept x = after_cases x (TermsKept v) (λ e. tk) (kept_keep v w so tk) (λ h k f. terms_kept v w so tk c k h f)

    -- the call of a caller that is not untainted does not show
    tainted_step : w.next ≤ last_number → untainted_caller v (w.obj c) ≡ false → (x : Call) → Alike v (apply keep w) (after w c x)
    tainted_step n t x =
        after_cases x (Alike v (apply keep w)) (λ e. absurd (omega arith)) (alike_refl v (apply keep w))
        (λ h k f. quiet v w so tk c k (above (w.obj c) t k) h f)

  -- ---- two worlds

  -- what the worlds of two alike histories are to each other
  record Pair (a b : World) : Type 0 where
    alike : Alike v a b
    sound_a : Sound a
    sound_b_lem : Sound b
    terms_a : TermsKept v a
    terms_b : TermsKept v b

  turned : (a b : World) → Pair a b → Pair b a
  turned a b k =
      record { alike = alike_sym v a b k.alike; sound_a = k.sound_b_lem; sound_b_lem = k.sound_a; terms_a = k.terms_b; terms_b = k.terms_a }

  module _ (a b : World) (k : Pair a b) (c : ℕ) where
    -- an untainted caller is the same
    same_caller : untainted_caller v (a.obj c) ≡ true → a.obj c ≡ b.obj c
    same_caller h = caller_same v a b k.alike k.sound_a k.terms_a c (is_thread_lem (a.obj c) h) (is_untainted (a.obj c) h)

    -- and gets the same verdict
    same_call : untainted_caller v (a.obj c) ≡ true → (x : Call) → call a c x ≡ call b c x
    unfolding call tests
    same_call h x =
        let e = same_caller h in
        let s = k.alike in
        let t = calling a k.sound_a k.terms_a c (is_thread_lem (a.obj c) h) in
        must_same _ _ 2 _ _ (ap (λ (n : ℕ). leb n last_number) s.same_next) (λ h2.
        must_same _ _ 3 _ _ (ap (λ (o : Obj). is_thread o.kind) e) (λ h3.
        must_same _ _ 4 _ _ (ap (λ (n : ℕ). good_arguments n x) s.same_next) (λ h4.
        (each_call v x).same (a.obj c) c a b (record { no_star = some t; is_untainted = is_untainted (a.obj c) h; alike = s })
        ∙ ap (λ (o : Obj). judge b o c x) e)))

    untainted_step : untainted_caller v (a.obj c) ≡ true → (x : Call) → Alike v (after a c x) (after b c x)
    unfolding after leaves
    untainted_step h x = subst (λ (r : Verdict). Alike v (leaves (call a c x) a) (leaves r b)) (same_call h x) (go (call a c x) refl)
      where
        kept : (t : Bool) → Alike v (cond t a (apply keep a)) (cond t b (apply keep b))
        kept true = k.alike
        kept false = keep_both v a b k.alike

        go : (r : Verdict) → call a c x ≡ r → Alike v (leaves r a) (leaves r b)
        go (refused f) e = kept (leb (number_of f) 2)
        go (grant n l y) e =
            let (t, f) = granted_respects a k.sound_a k.terms_a c x n l y e in
            both v a b k.alike k.sound_a k.sound_b_lem k.terms_a k.terms_b c t (is_untainted (a.obj c) h) (same_caller h) y f

  same_callers : (a b : World) → Pair a b → (c : ℕ) → untainted_caller v (a.obj c) ≡ untainted_caller v (b.obj c)
  same_callers a b k c =
      same_by (untainted_caller v (a.obj c)) (untainted_caller v (b.obj c)) (λ h. ap (untainted_caller v) (sym (same_caller a b k c h)) ∙ h)
      (λ h. ap (untainted_caller v) (sym (same_caller b a (turned a b k) c h)) ∙ h)

  -- one turn: the same call of an untainted caller, or any two calls of another
  step : (a b : World) → Pair a b → (c : ℕ) (x y : Call) → (untainted_caller v (a.obj c) ≡ true → x ≡ y) → Alike v (after a c x) (after b c y)
  step a b k c x y same =
      bool_cases (untainted_caller v (a.obj c)) (λ h. subst (λ (z : Call). Alike v (after a c x) (after b c z)) (same h) (untainted_step a b k c h x))
      (λ h. bool_cases (leb a.next last_number) (λ n. going h (leb-true a.next last_number n)) (λ n. over (leb-false a.next last_number n)))
    where
      going : untainted_caller v (a.obj c) ≡ false → a.next ≤ last_number → Alike v (after a c x) (after b c y)
      going h n =
          let m : b.next ≤ last_number = omega (arith, k.alike.same_next) in
          alike_trans v (after a c x) (apply keep a) (after b c y) (alike_sym v (apply keep a) (after a c x) (tainted_step a k.sound_a k.terms_a c n h x))
          (alike_trans v (apply keep a) (apply keep b) (after b c y) (keep_both v a b k.alike)
          (tainted_step b k.sound_b_lem k.terms_b c m (sym (same_callers a b k c) ∙ h) y))

      over : last_number < a.next → Alike v (after a c x) (after b c y)
      over n =
          let m : last_number < b.next = omega (arith, k.alike.same_next) in
          subst (λ (u : World). Alike v u (after b c y)) (sym (ended_world a c x ((ended a c x).1 n)))
          (subst (λ (u : World). Alike v a u) (sym (ended_world b c y ((ended b c y).1 m))) k.alike)

  along : (w : World) → Sound w → TermsKept v w → {a b : World} → AlikeHistories call v w a b → Pair a b
  unfolding after
  along w so tk same_start = record { alike = alike_refl v w; sound_a = so; sound_b_lem = so; terms_a = tk; terms_b = tk }
  along w so tk (turn a b c x y h same) =
      let k = along w so tk h in
      record {
        alike = step a b k c x y same;
        sound_a = stays_sound a k.sound_a c x;
        sound_b_lem = stays_sound b k.sound_b_lem c y;
        terms_a = after_kept a k.sound_a k.terms_a c x;
        terms_b = after_kept b k.sound_b_lem k.terms_b c y;
      }

  -- ---- what is the same in both

  module _ (a b : World) (k : Pair a b) where
    root_too : untainted_container v (a.obj a.root) ≡ true → untainted_container v (b.obj b.root) ≡ true
    root_too h = subst (λ (r : ℕ). untainted_container v (b.obj r) ≡ true) k.alike.same_root (sym (k.alike.rooms a.root) ∙ h)

    reached_too : {o : ℕ} → Reached v a o → Reached v b o
    reached_too (top h) = subst (Reached v b) (sym k.alike.same_root) (top (root_too h))
    reached_too (through d o r h l) = through d o (reached_too r) (sym (k.alike.rooms d) ∙ h) (sym (k.alike.links d o h) ∙ l)

    same_taints : {o : ℕ} → Reached v a o → untainted v (a.obj o) ≡ untainted v (b.obj o)
    same_taints (top h) = ap (untainted v) (k.alike.room_objs a.root h)
    same_taints (through d o r h l) = same_taint v (a.obj o) (b.obj o) (k.alike.objs d o h l)

    same_objects : {o : ℕ} → Reached v a o → untainted v (a.obj o) ≡ true → a.obj o ≡ b.obj o
    same_objects (top h) l = k.alike.room_objs a.root h
    same_objects (through d o r h i) l = same_whole v (a.obj o) (b.obj o) (k.alike.objs d o h i) l

  same_untainted : (a b : World) → Pair a b → SameUntainted v a b
  same_untainted a b k =
      record {
        number = k.alike.same_next;
        callers = same_callers a b k;
        reached = λ o. (reached_too a b k, reached_too b a (turned a b k));
        taints = λ o. same_taints a b k;
        objects = λ o. same_objects a b k;
        links = λ d o h. k.alike.links d o h;
      }

-- THE THEOREM (W5)
pub tainted_work_does_not_show : the.TaintedWorkDoesNotShow
tainted_work_does_not_show v w so u a b h = let k = along v w so (terms_at_start v w u) h in (λ c x h. same_call v a b k c h x, same_untainted v a b k)

-- What Start leaves is such a start.
pub starts_untainted : the.StartsUntainted
starts_untainted = start_untainted
