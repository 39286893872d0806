-- Demand 1 (docs/DEMANDS.md), once for all calls, over any areas whatever. RULES 6.14: "A refused call has value 0. It leaves both areas and every output as they were,
-- unused bytes too, but for the next number (4.2)."
use Rattle.std.specs.Prelude.{ℕ, ◌≤◌, ◌<◌, true, ◌≡◌, refl, List, get_or}
use Rattle.std.proofs.Math.Path.{ap}
use Rattle.std.proofs.Common.{subst, ◌∙◌, le-leb}
use Rattle.std.proofs.lemmas.Bool.{lt-leb}
use Rattle.rules.specs.Kernel as kernel
use Rattle.rules.specs.Kernel.{Call, Refusal, Verdict, refused, grant, answer_of, value_of}
use Rattle.rules.proofs.Laws.Bools.{bool_cases}
use Rattle.tables.specs.Layout.{view}
use Rattle.tables.specs.Layout.Only.{view_only}
use Rattle.book.specs.Enact.{moved_on}
use Rattle.book.specs.Test.{areas_b}
use Rattle.calls.specs.Outcome.{verdict_on, book_left, area_left, output_left, Said}
use Rattle.calls.specs.Laws.Prelude.{book_long, no_value}

-- a verdict whose answer is not 0 is a refusal
record Refusing (v : Verdict) : Type 0 where
  why : Refusal
  is : v ≡ refused why

refusal : (v : Verdict) → (answer_of v ≡ 0 → ⊥) → Refusing v
unfolding answer_of
refusal (refused r) n = record { why = r; is = refl }
refusal (grant v o h) n = absurd (n refl)

module _ (b area : List ℕ) (c : ℕ) (x : Call) (answer value : ℕ) (b' area' : List ℕ) (d : Said b area c x answer value b' area')
    (not-granted : answer ≡ 0 → ⊥) where
  refusing : Refusing (verdict_on b area c x)
  refusing = refusal (verdict_on b area c x) (λ e. not-granted (d.answer_is ∙ e))

  verdict : verdict_on b area c x ≡ refused refusing.why
  verdict = refusing.is

  its_number : answer ≡ kernel.number_of refusing.why
  unfolding answer_of
  its_number = d.answer_is ∙ ap answer_of verdict

  -- The value is 0.
  pub refused_value : value ≡ 0
  unfolding value_of
  refused_value = d.value_is ∙ (ap value_of verdict ∙ no_value refusing.why)

  -- The data area is as it was,
  pub refused_area : area' ≡ area
  unfolding area_left
  refused_area = d.left.area_left_lem ∙ ap (λ (v : Verdict). area_left v (view b) area) verdict

  -- every output buffer too,
  pub refused_output : (out : List ℕ) → output_left (verdict_on b area c x) out ≡ out
  unfolding output_left
  refused_output out = ap (λ (v : Verdict). output_left v out) verdict

  -- after answers 1 and 2 the whole book,
  pub stopped_book : answer ≤ 2 → ((k : ℕ) → get_or b k 0 < 256) → ((k : ℕ) → get_or b' k 0 < 256) → b' ≡ b
  unfolding book_left
  stopped_book n bytes bytes' =
      bool_cases (areas_b b area)
      (λ g. view_only b' b bytes' bytes
      (d.left.book_left_lem g ∙ (ap (λ (v : Verdict). book_left v (view b) area) verdict ∙ rw (le-leb (kernel.number_of refusing.why) 2 (subst (λ k. k ≤ 2) its_number n))))
      (d.left.length_same ∙ book_long b area g) (book_long b area g))
      (λ g. d.left.book_kept g)

  -- and after any other all of it but the number, which moved on by one.
  pub refused_book : 2 < answer → areas_b b area ≡ true → view b' ≡ moved_on (view b)
  unfolding book_left
  refused_book n g = d.left.book_left_lem g ∙ (ap (λ (v : Verdict). book_left v (view b) area) verdict ∙ rw (lt-leb (kernel.number_of refusing.why) 2 (subst (λ k. 2 < k) its_number n)))
