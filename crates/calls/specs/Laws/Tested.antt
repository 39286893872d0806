-- Chains of tests: as the code makes them, and against the rules.
use Rattle.std.specs.Prelude.{ℕ, Bool, true, false, ◌≡◌, refl, List, ◌++◌, ⊤, Result, Ok, Err}
use Rattle.std.specs.Result.{result_and}
use Rattle.std.proofs.Common.{sym, ap, ◌∙◌}
use Rattle.rules.specs.Kernel.{by, Condition, Verdict, refused, unless, must, must_hold}
use Rattle.calls.specs.declared.Refusal.{Refusal}
use Rattle.calls.specs.Outcome.{Means, Ready, ruled}
use Rattle.calls.specs.Conditions.{passed, tested}
use Rattle.calls.specs.Tested.{test}
use Rattle.calls.specs.Laws.Conditions.{pass_on, fail_told, first_holds, first_fails}

-- where the rules make the same test, what is left of the verdict decides
module _ {A : Type 0} (b area : List ℕ) (ready : Ready b area) (go : A → Type 0) (v : Verdict) where
  pub means_tested : (p : Bool) (f : Refusal) (k : ℕ) (rest : Verdict) (r : Result A Refusal) → ruled f ≡ by k → v ≡ must p k rest
      → (p ≡ true → v ≡ rest → Means b area v go r) → Means b area v go (test p f r)
  unfolding must unless
  means_tested true f k rest r h e i = i refl e
  means_tested false f k rest r h e i = record { verdict = e ∙ ap refused (sym h); ready = λ z. ready }

  pub means_passing : (qs : List Condition) (rest : Verdict) (r : Result A Refusal) → v ≡ must_hold qs rest
      → (v ≡ rest → Means b area v go r) → Means b area v go (result_and (tested qs) r)
  means_passing qs rest r e i = each (tested qs) refl
    where
      each : (p : Result ⊤ Refusal) → tested qs ≡ p → Means b area v go (result_and p r)
      each (Ok u) h = i (e ∙ pass_on qs rest h)
      each (Err f) h = fail_told b area v qs rest f e h ready

  -- a list of conditions in two parts, of which the second came to p
  pub means_both : (qs rs : List Condition) (p : Result ⊤ Refusal) → tested rs ≡ p → (rest : Verdict) (r : Result A Refusal) → v ≡ must_hold (qs ++ rs) rest
      → (v ≡ rest → Means b area v go r) → Means b area v go (result_and (tested qs) (result_and p r))
  means_both qs rs p q rest r e i = each (tested qs) refl
    where
      second : tested qs ≡ passed → (x : Result ⊤ Refusal) → tested rs ≡ x → Means b area v go (result_and x r)
      second h (Ok u) g = i (e ∙ pass_on (qs ++ rs) rest (first_holds qs rs h ∙ g))
      second h (Err f) g = fail_told b area v (qs ++ rs) rest f e (first_holds qs rs h ∙ g) ready

      each : (x : Result ⊤ Refusal) → tested qs ≡ x → Means b area v go (result_and x (result_and p r))
      each (Ok u) h = second h p q
      each (Err f) h = fail_told b area v (qs ++ rs) rest f e (first_fails qs rs f h) ready
