-- A judge's answer as a chain of tests: of `test`s, and of std's `result_and`, which is what the rules' `must_hold` is of a verdict.
use Rattle.std.specs.Prelude.{Bool, true, false, Result, Err}
use Rattle.calls.specs.declared.Refusal.{Refusal}

-- what the rules' `must` is of a verdict: unless the test holds, refused so
abbrev pub test : {A : Type 0} → Bool → Refusal → Result A Refusal → Result A Refusal
test true f r = r
test false f r = Err f
