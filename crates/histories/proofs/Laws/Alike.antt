-- From alike runs of the areas to alike histories of their worlds.
use Rattle.std.specs.Prelude.{ℕ, true, ◌≡◌, List}
use Rattle.std.proofs.Common.{sym, ◌∙◌, ap}
use Rattle.std.proofs.Math.Path.{subst}
use Rattle.rules.specs.Kernel.{World, Call, Verdict, call, after, answer_of, value_of, History, world_after}
use Rattle.rules.specs.Sound as rules
use Rattle.rules.specs.Histories.{first_world, WellStarted}
use Rattle.rules.proofs.Theorems.Refusals.{never_one}
use Rattle.tainted.specs.Tainted as worlds
use Rattle.tainted.specs.Tainted.{AlikeHistories, untainted_caller}
use Rattle.book.specs.Test.{areas_b}
use Rattle.calls.specs.Outcome.{verdict_on, output_left}
use Rattle.calls.specs.Laws.Prelude.{is_sound}
use Rattle.calls.specs.Theorems.Kept.{verdict_is, stays_good, world_after_lem}
use Rattle.histories.specs.Areas.{world}
use Rattle.histories.specs.Unseen.{AlikeRuns, same_start, turn, SameTold, NotAnswered1, AlikeFrom, so_far, turn_each}

-- no call on good areas answers 1
pub not_1 : (b area : List ℕ) → areas_b b area ≡ true → NotAnswered1 b area
not_1 b area g c x out answer value b' area' out' d e =
    never_one (world b area) c x (sym (ap answer_of (verdict_is b area g c x)) ∙ sym d.said.answer_is ∙ e)

module _ (v : ℕ) where
  -- on two pairs of good areas, if the verdicts on their worlds are one
  pub told : (b₁ area₁ b₂ area₂ : List ℕ) → areas_b b₁ area₁ ≡ true → areas_b b₂ area₂ ≡ true
      → ((c : ℕ) (x : Call) → untainted_caller v ((world b₁ area₁).obj c) ≡ true → call (world b₁ area₁) c x ≡ call (world b₂ area₂) c x)
      → SameTold v b₁ area₁ b₂ area₂
  told b₁ area₁ b₂ area₂ g₁ g₂ f c x lent u answer₁ value₁ b₁' area₁' out₁ d₁ answer₂ value₂ b₂' area₂' out₂ d₂ =
      let same : verdict_on b₁ area₁ c x ≡ verdict_on b₂ area₂ c x = verdict_is b₁ area₁ g₁ c x ∙ f c x u ∙ sym (verdict_is b₂ area₂ g₂ c x) in (
        d₁.said.answer_is ∙ ap answer_of same ∙ sym d₂.said.answer_is,
        d₁.said.value_is ∙ ap value_of same ∙ sym d₂.said.value_is,
        d₁.output ∙ ap (λ (r : Verdict). output_left r lent) same ∙ sym d₂.output,
      )

  pub record Runs (w : World) (b₁ area₁ b₂ area₂ : List ℕ) : Type 0 where
    pub good₁ : areas_b b₁ area₁ ≡ true
    pub good₂ : areas_b b₂ area₂ ≡ true
    pub alike : AlikeHistories call v w (world b₁ area₁) (world b₂ area₂)

  pub runs : (w : World) {b₁ area₁ b₂ area₂ : List ℕ} → AlikeRuns v w b₁ area₁ b₂ area₂ → Runs w b₁ area₁ b₂ area₂
  unfolding after
  runs w (same_start b₁ area₁ b₂ area₂ g₁ g₂ p q) =
      record {
        good₁ = g₁;
        good₂ = g₂;
        alike =
            subst (λ (a : World). AlikeHistories call v w a (world b₂ area₂)) (sym p)
            (subst (λ (b : World). AlikeHistories call v w w b) (sym q) worlds.same_start);
      }
  runs w (turn b₁ area₁ b₂ area₂ c x y r same lent₁ answer₁ value₁ b₁' area₁' out₁ d₁ lent₂ answer₂ value₂ b₂' area₂' out₂ d₂) =
      let k = runs w r in
      let p = world_after_lem b₁ area₁ k.good₁ c x b₁' area₁' d₁.said.left in
      let q = world_after_lem b₂ area₂ k.good₂ c y b₂' area₂' d₂.said.left in
      record {
        good₁ = stays_good b₁ area₁ k.good₁ c x b₁' area₁' d₁.said.left;
        good₂ = stays_good b₂ area₂ k.good₂ c y b₂' area₂' d₂.said.left;
        alike =
            subst (λ (a : World). AlikeHistories call v w a (world b₂' area₂')) (sym p)
            (subst (λ (b : World). AlikeHistories call v w (after (world b₁ area₁) c x) b) (sym q)
            (worlds.turn (world b₁ area₁) (world b₂ area₂) c x y k.alike same));
      }

  -- where there are such runs the start is sound
  pub run_start : (w : World) {b₁ area₁ b₂ area₂ : List ℕ} → AlikeRuns v w b₁ area₁ b₂ area₂ → rules.Sound w
  run_start w (same_start b₁ area₁ b₂ area₂ g₁ g₂ p q) = subst rules.Sound p (is_sound b₁ area₁ g₁)
  run_start w (turn b₁ area₁ b₂ area₂ c x y r same lent₁ answer₁ value₁ b₁' area₁' out₁ d₁ lent₂ answer₂ value₂ b₂' area₂' out₂ d₂) = run_start w r

  -- alike histories of calls lead to alike histories of worlds
  pub from : {p h k : History} → AlikeFrom v p h k → AlikeHistories call v (world_after p) (world_after h) (world_after k)
  unfolding world_after after
  from so_far = worlds.same_start
  from (turn_each h k c x y r same) = worlds.turn (world_after h) (world_after k) c x y (from r) same

  -- and the start of the one is well made if that of the other is
  pub same_first : {p h k : History} → AlikeFrom v p h k → WellStarted h → WellStarted p
  unfolding first_world
  same_first so_far e = e
  same_first (turn_each h k c x y r same) e = same_first r e
