-- Request W5 of the user, that tainted work must not show (docs/RULES.md, section 12), as a statement about
-- worlds; proofs/Theorem has its proof. RULES 12.6: "Which rows, links and blocks are used may differ, ..": a world
-- has no rows, link places or blocks. 12.3: "No call answers 1.": it has no areas, so in its histories none
-- does.
use Rattle.std.specs.Prelude.{ℕ, ◌<◌, Bool, true, not, ◌&&◌, ◌↔◌, ◌≡◌, leb}
use Rattle.labels.specs.Core.{at, star, level1}
use Rattle.rules.specs.Kernel.{is_live, is_thread, is_container, Obj, World, Call, Verdict, call, leaves, start}
use Rattle.rules.specs.Sound.{Sound}

-- ---- tainted and untainted, in one category v

-- RULES 12.1: "An object is untainted if the level of its label at v is at most 1 (code 2 or less), else
-- tainted."
unfoldable pub untainted : ℕ → Obj → Bool
untainted v x = leb (at x.label v) level1

-- RULES 12.2: ".. untainted containers .."
unfoldable pub untainted_container : ℕ → Obj → Bool
untainted_container v x = is_container x.kind && untainted v x

-- RULES 12.1: "A caller is untainted or tainted by its label at the time; if it is no live thread, it is
-- neither."
unfoldable pub untainted_caller : ℕ → Obj → Bool
untainted_caller v x = is_thread x.kind && untainted v x

unfoldable pub tainted_caller : ℕ → Obj → Bool
tainted_caller v x = is_thread x.kind && not (untainted v x)

-- ---- the start

-- RULES 12.2: ".. v is less than the next number, no object has star at v, and untainted objects are linked
-- in untainted containers only."
pub record UntaintedStart (v : ℕ) (w : World) : Type 0 where
  pub below_next : v < w.next
  pub no_star : (o : ℕ) → is_live (w.obj o).kind ≡ true → at (w.obj o).label v ≡ star → ⊥
  pub only_in_such : (d o : ℕ) → w.linked d o ≡ true → untainted v (w.obj o) ≡ true → untainted_container v (w.obj d) ≡ true

-- ---- two histories

-- A kernel gives a verdict on each call: answer, value, output bytes, and what is changed. That of
-- docs/RULES.md is `call`.
abbrev pub Kernel : Type 0
Kernel = World → (caller : ℕ) → Call → Verdict

-- RULES 12.3: "Two histories go from that start. At each number the same caller calls in both, and if it is
-- untainted it makes the same call in both. Other callers may make different calls." From the start w they
-- have come to the worlds a and b; at each turn the caller c calls x in the one and y in the other.
pub data AlikeHistories (kernel : Kernel) (v : ℕ) (w : World) : World → World → Type 0 where
  same_start : AlikeHistories kernel v w w w
  turn : (a b : World) (c : ℕ) (x y : Call) → AlikeHistories kernel v w a b → (untainted_caller v (a.obj c) ≡ true → x ≡ y)
      → AlikeHistories kernel v w (leaves (kernel a c x) a) (leaves (kernel b c y) b)

-- ---- what is the same in both

-- RULES 12.5: ".. reached from the root through untainted containers ..": by links of such, if the root is
-- one
pub data Reached (v : ℕ) (w : World) : ℕ → Type 0 where
  top : untainted_container v (w.obj w.root) ≡ true → Reached v w w.root
  through : (d o : ℕ) → Reached v w d → untainted_container v (w.obj d) ≡ true → w.linked d o ≡ true → Reached v w o

-- RULES 12.5: "And each untainted object that is reached from the root through untainted containers is the
-- same in both, with the same links in those containers." Here in the worlds a and b. So are the number of
-- the next call and who is an untainted caller; and the same is reached, and of the same taint, in both.
pub record SameUntainted (v : ℕ) (a b : World) : Type 0 where
  pub number : a.next ≡ b.next
  pub callers : (c : ℕ) → untainted_caller v (a.obj c) ≡ untainted_caller v (b.obj c)
  pub reached : (o : ℕ) → Reached v a o ↔ Reached v b o
  pub taints : (o : ℕ) → Reached v a o → untainted v (a.obj o) ≡ untainted v (b.obj o)
  pub objects : (o : ℕ) → Reached v a o → untainted v (a.obj o) ≡ true → a.obj o ≡ b.obj o
  pub links : (d o : ℕ) → untainted_container v (a.obj d) ≡ true → a.linked d o ≡ b.linked d o

-- RULES 12.4: "Then each call of an untainted caller gets the same answer, value and output in both.":
-- whatever an untainted caller asks next, the verdict is one. 12.2: "The start may be any sound book ..", so
-- any sound world. Two histories have all their shorter ones in them, so this is about each call in them as
-- well as about their ends.
abbrev pub Hides : Kernel → Type 0
Hides kernel =
    (v : ℕ) (w : World) → Sound w → UntaintedStart v w → (a b : World) → AlikeHistories kernel v w a b
    → ((c : ℕ) (x : Call) → untainted_caller v (a.obj c) ≡ true → kernel a c x ≡ kernel b c x) × SameUntainted v a b

-- W5: the rules hide tainted work.
abbrev pub TaintedWorkDoesNotShow : Type 0
TaintedWorkDoesNotShow = Hides call

-- What Start leaves (RULES 7.3) is such a start, for every category below its next number.
abbrev pub StartsUntainted : Type 0
StartsUntainted = (f v : ℕ) → v < (start f).next → UntaintedStart v (start f)
