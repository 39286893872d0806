-- Lists of label conditions, one test after the other, and what they make of the verdict.
use Rattle.std.specs.Prelude.{ℕ, Bool, true, false, cond, ◌≡◌, refl, List, [], ◌∷◌, ◌++◌, ⊤, Result, Err}
use Rattle.std.proofs.Common.{arith, sym, subst, ◌∙◌}
use Rattle.std.proofs.lemmas.Bool.{false≢true}
use Rattle.rules.specs.Kernel.{Verdict, unless, why_not, must_hold, Condition, holds, all_hold}
use Rattle.calls.specs.declared.Refusal.{Refusal}
use Rattle.calls.specs.declared.Refusal.TheVariants.{LabelForbids}
use Rattle.calls.specs.Outcome.{Told, Ready}
use Rattle.calls.specs.Conditions.{passed, tested}

-- passed is not refused
pass_not_fail : (r : Refusal) → ◌≡◌ {A = Result ⊤ Refusal} passed (Err r) → ⊥
pass_not_fail r e = let z : ◌≡◌ {A = ℕ} 0 1 = cc in omega arith

same_refusal : (P : Refusal → Type 0) (r s : Refusal) → ◌≡◌ {A = Result ⊤ Refusal} (Err r) (Err s) → P r → P s
same_refusal P r s e p = subst P (let q : r ≡ s = cc in q) p

-- ---- no condition

pub none_asked : passed ≡ tested []
unfolding tested all_hold
none_asked = refl

-- ---- what a list of conditions makes of the verdict

-- passed: they all hold
tested_all : (qs : List Condition) → tested qs ≡ passed → all_hold qs ≡ true
unfolding tested
tested_all qs e = go (all_hold qs) e
  where
    go : (t : Bool) → cond t passed (Err LabelForbids) ≡ passed → t ≡ true
    go true e = refl
    go false e = absurd (pass_not_fail LabelForbids (sym e))

-- failed: they do not
tested_not : (qs : List Condition) (r : Refusal) → tested qs ≡ Err r → all_hold qs ≡ false
unfolding tested
tested_not qs r e = go (all_hold qs) e
  where
    go : (t : Bool) → cond t passed (Err LabelForbids) ≡ Err r → t ≡ false
    go true e = absurd (pass_not_fail r e)
    go false e = refl

-- passed: the rest decides
pub pass_on : (qs : List Condition) (rest : Verdict) → tested qs ≡ passed → must_hold qs rest ≡ rest
unfolding must_hold unless
pass_on qs rest e = rw (tested_all qs e)

-- failed: the refusal is the verdict's
pub fail_told : (b area : List ℕ) (v : Verdict) (qs : List Condition) (rest : Verdict) (r : Refusal) → v ≡ must_hold qs rest → tested qs ≡ Err r
    → Ready b area → Told b area v r
unfolding must_hold unless why_not tested
fail_told b area v qs rest r p e ready =
    same_refusal (Told b area v) LabelForbids r (sym (rw (tested_not qs r e)) ∙ e) (record { verdict = p ∙ rw (tested_not qs r e); ready = λ z. ready })

-- ---- one list after the other

all_first : (qs rs : List Condition) → all_hold qs ≡ true → all_hold (qs ++ rs) ≡ all_hold rs
unfolding all_hold
all_first [] rs e = refl
all_first (q ∷ qs) rs e = go (holds q) e (all_first qs rs)
  where
    go : (t : Bool) → cond t (all_hold qs) false ≡ true → (all_hold qs ≡ true → all_hold (qs ++ rs) ≡ all_hold rs) → cond t (all_hold (qs ++ rs)) false ≡ all_hold rs
    go true e f = f e
    go false e f = absurd (false≢true e)

all_not : (qs rs : List Condition) → all_hold qs ≡ false → all_hold (qs ++ rs) ≡ false
unfolding all_hold
all_not [] rs e = absurd (false≢true (sym e))
all_not (q ∷ qs) rs e = go (holds q) e (all_not qs rs)
  where
    go : (t : Bool) → cond t (all_hold qs) false ≡ false → (all_hold qs ≡ false → all_hold (qs ++ rs) ≡ false) → cond t (all_hold (qs ++ rs)) false ≡ false
    go true e f = f e
    go false e f = refl

module _ (qs rs : List Condition) where
  -- the first list passed: the second decides
  pub first_holds : tested qs ≡ passed → tested (qs ++ rs) ≡ tested rs
  unfolding tested
  first_holds e = rw (all_first qs rs (tested_all qs e))

  -- the first list failed: so do both
  pub first_fails : (r : Refusal) → tested qs ≡ Err r → tested (qs ++ rs) ≡ Err r
  unfolding tested
  first_fails r e = rw (all_not qs rs (tested_not qs r e)) (sym (rw (tested_not qs r e)) ∙ e)
