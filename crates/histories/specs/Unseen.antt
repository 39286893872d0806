-- W5, "Tainted work must not show" (RULES 12), as statements about the two lent areas; proofs/Theorems has the proofs,
-- and docs/DEMANDS.md explains each word. What is tainted, and which start is meant, is said in `tainted`. A
-- world has no positions. RULES 12.6: "Which rows, links and blocks are used may differ, .."
use Rattle.std.specs.Prelude.{ℕ, ◌<◌, true, ◌≡◌, List}
use Rattle.rules.specs.Kernel.{World, Call, History, next, world_after, start, started}
use Rattle.tainted.specs.Tainted.{untainted_caller, UntaintedStart, SameUntainted}
use Rattle.book.specs.Test.{areas_b}
use Rattle.flytewood.specs.Called.{Called}
use Rattle.histories.specs.Areas.{world, After}

-- RULES 12.3: "Two histories go from that start. At each number the same caller calls in both, and if it is
-- untainted it makes the same call in both. Other callers may make different calls." Both begin on good areas that
-- spell the world w, wherever its rows, links and blocks lie in them. At each turn the caller c calls x in the one
-- and y in the other, and each call met the contract of the exported functions.
pub data AlikeRuns (v : ℕ) (w : World) : List ℕ → List ℕ → List ℕ → List ℕ → Type 0 where
  same_start : (b₁ area₁ b₂ area₂ : List ℕ) → areas_b b₁ area₁ ≡ true → areas_b b₂ area₂ ≡ true → world b₁ area₁ ≡ w → world b₂ area₂ ≡ w
      → AlikeRuns v w b₁ area₁ b₂ area₂
  turn : (b₁ area₁ b₂ area₂ : List ℕ) (c : ℕ) (x y : Call) → AlikeRuns v w b₁ area₁ b₂ area₂
      → (untainted_caller v ((world b₁ area₁).obj c) ≡ true → x ≡ y)
      → (lent₁ : List ℕ) (answer₁ value₁ : ℕ) (b₁' area₁' out₁ : List ℕ) → Called b₁ area₁ c x lent₁ answer₁ value₁ b₁' area₁' out₁
      → (lent₂ : List ℕ) (answer₂ value₂ : ℕ) (b₂' area₂' out₂ : List ℕ) → Called b₂ area₂ c y lent₂ answer₂ value₂ b₂' area₂' out₂
      → AlikeRuns v w b₁' area₁' b₂' area₂'

-- RULES 12.4: "Then each call of an untainted caller gets the same answer, value and output in both." A call x by
-- an untainted caller c, made on the areas of both with the same bytes lent for its output. For call 12 the output is
-- the part that is handed out.
abbrev pub SameTold : ℕ → List ℕ → List ℕ → List ℕ → List ℕ → Type 0
SameTold v b₁ area₁ b₂ area₂ =
    (c : ℕ) (x : Call) (lent : List ℕ) → untainted_caller v ((world b₁ area₁).obj c) ≡ true
    → (answer₁ value₁ : ℕ) (b₁' area₁' out₁ : List ℕ) → Called b₁ area₁ c x lent answer₁ value₁ b₁' area₁' out₁
    → (answer₂ value₂ : ℕ) (b₂' area₂' out₂ : List ℕ) → Called b₂ area₂ c x lent answer₂ value₂ b₂' area₂' out₂
    → (answer₁ ≡ answer₂) × (value₁ ≡ value₂) × (out₁ ≡ out₂)

-- W5, from any start. Runs have all their shorter ones in them, so this is about every call in them, and about
-- the worlds after every call.
abbrev pub TaintedWorkUnseen : Type 0
TaintedWorkUnseen =
    (v : ℕ) (w : World) → UntaintedStart v w → (b₁ area₁ b₂ area₂ : List ℕ) → AlikeRuns v w b₁ area₁ b₂ area₂
    → SameTold v b₁ area₁ b₂ area₂ × SameUntainted v (world b₁ area₁) (world b₂ area₂)

-- RULES 12.3: "No call answers 1." In such runs none does, whoever makes it.
abbrev pub NotAnswered1 : List ℕ → List ℕ → Type 0
NotAnswered1 b area =
    (c : ℕ) (x : Call) (out : List ℕ) (answer value : ℕ) (b' area' out' : List ℕ) → Called b area c x out answer value b' area' out' → answer ≡ 1 → ⊥

abbrev pub WithoutAnswer1 : Type 0
WithoutAnswer1 =
    (v : ℕ) (w : World) (b₁ area₁ b₂ area₂ : List ℕ) → AlikeRuns v w b₁ area₁ b₂ area₂ → NotAnswered1 b₁ area₁ × NotAnswered1 b₂ area₂

-- ---- histories that begin with Start

-- two histories of calls that are one up to p, and alike from there on
pub data AlikeFrom (v : ℕ) (p : History) : History → History → Type 0 where
  so_far : AlikeFrom v p p p
  turn_each : (h k : History) (c : ℕ) (x y : Call) → AlikeFrom v p h k → (untainted_caller v ((world_after h).obj c) ≡ true → x ≡ y)
      → AlikeFrom v p (next h c x) (next k c y)

-- W5 of them, where the world after p has the start's terms,
abbrev pub UnseenFrom : Type 0
UnseenFrom =
    (v : ℕ) (p h k : History) → UntaintedStart v (world_after p) → AlikeFrom v p h k
    → (b₁ area₁ b₂ area₂ : List ℕ) → After h b₁ area₁ → After k b₂ area₂
    → SameTold v b₁ area₁ b₂ area₂ × SameUntainted v (world b₁ area₁) (world b₂ area₂)

-- as it has after Start alone, for every category below the next number.
abbrev pub UnseenFromStart : Type 0
UnseenFromStart =
    (v f : ℕ) (h k : History) → v < (start f).next → AlikeFrom v (started f) h k
    → (b₁ area₁ b₂ area₂ : List ℕ) → After h b₁ area₁ → After k b₂ area₂
    → SameTold v b₁ area₁ b₂ area₂ × SameUntainted v (world b₁ area₁) (world b₂ area₂)
