-- W5 at work on the areas: the two days of examples' Unseen, side by side. Category 7 is tainted; thread 9 is a
-- tainted caller, which did different things in them; thread 6 is not.
use Rattle.std.specs.Prelude.{ℕ, true, ◌&&◌, ◌≡◌, refl, List, [], ◌∷◌}
use Rattle.std.proofs.Common.{sym, subst, ◌∙◌}
use Rattle.rules.specs.Kernel.{World, read, after, History, next, world_after}
use Rattle.rules.proofs.Laws.Bools.{and_l, and_r}
use Rattle.tainted.specs.Tainted.{untainted_caller, tainted_caller, SameUntainted}
use Rattle.examples.specs.Unseen.{Side, one, two, lefts, rights, grown, grown_world, by_tainted, not_untainted, morning, noon, sides, computed, noon_untainted}
use Rattle.flytewood.specs.Called.{Called}
use Rattle.histories.specs.Areas.{world, After}
use Rattle.histories.specs.Unseen.{SameTold, AlikeFrom, so_far, turn_each}
use Rattle.histories.proofs.Theorems.{spells_the_world, unseen_from}

-- histories side by side are alike if whoever makes two calls is a tainted caller
sides_from : (v : ℕ) (p h k : History) → AlikeFrom v p h k → (ts : List Side) → by_tainted v (world_after h) (world_after k) ts ≡ true
    → AlikeFrom v p (grown h (lefts ts)) (grown k (rights ts))
unfolding grown lefts rights by_tainted world_after
sides_from v p h k r [] e = r
sides_from v p h k r (one c x ∷ ts) e = sides_from v p (next h c x) (next k c x) (turn_each h k c x x r (λ u. refl)) ts e
sides_from v p h k r (two c x y ∷ ts) e =
    let t = and_l (tainted_caller v ((world_after h).obj c)) _ (and_l _ (by_tainted v (after (world_after h) c x) (after (world_after k) c y) ts) e) in
    sides_from v p (next h c x) (next k c y) (turn_each h k c x y r (λ u. not_untainted v ((world_after h).obj c) t u)) ts
    (and_r (tainted_caller v ((world_after h).obj c) && tainted_caller v ((world_after k).obj c)) _ e)

alike : AlikeFrom 7 morning (grown morning (lefts sides)) (grown morning (rights sides))
alike = sides_from 7 morning morning morning so_far sides (unfold noon in computed.by_tainted_lem)

-- Whatever areas the two days left, an untainted caller is told the same, and what it can reach is the same.
pub told_the_same : (b₁ area₁ b₂ area₂ : List ℕ) → After (grown morning (lefts sides)) b₁ area₁ → After (grown morning (rights sides)) b₂ area₂
    → SameTold 7 b₁ area₁ b₂ area₂ × SameUntainted 7 (world b₁ area₁) (world b₂ area₂)
told_the_same = unseen_from 7 morning (grown morning (lefts sides)) (grown morning (rights sides)) (unfold noon in noon_untainted) alike

-- Thread 6 reads segment 10: answer, value and part are the same.
pub reads_the_same : (b₁ area₁ b₂ area₂ : List ℕ) → After (grown morning (lefts sides)) b₁ area₁ → After (grown morning (rights sides)) b₂ area₂
    → (answer₁ value₁ : ℕ) (b₁' area₁' part₁ : List ℕ) → Called b₁ area₁ 6 (read 5 10 0 0 2) [] answer₁ value₁ b₁' area₁' part₁
    → (answer₂ value₂ : ℕ) (b₂' area₂' part₂ : List ℕ) → Called b₂ area₂ 6 (read 5 10 0 0 2) [] answer₂ value₂ b₂' area₂' part₂
    → (answer₁ ≡ answer₂) × (value₁ ≡ value₂) × (part₁ ≡ part₂)
unfolding noon
reads_the_same b₁ area₁ b₂ area₂ a₁ a₂ =
    let w : world b₁ area₁ ≡ _ = spells_the_world (grown morning (lefts sides)) b₁ area₁ a₁ ∙ grown_world morning (lefts sides) in
    (told_the_same b₁ area₁ b₂ area₂ a₁ a₂).0 6 (read 5 10 0 0 2) [] (subst (λ (w : World). untainted_caller 7 (w.obj 6) ≡ true) (sym w) computed.asks)
