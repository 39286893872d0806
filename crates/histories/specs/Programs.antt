-- RULES 11.3: "The contracts cannot be met by a kernel that refuses everything, by one that answers 0 to everything, by one that changes nothing, or by one that does its first
-- create and from then on only pretends." Each is a kind of program, and of each is said: no program that ends on everything it can be handed, and meets the contracts of the
-- exported functions, is of that kind. Start is part of the program, so it makes its areas itself. Unable has the proofs.
use Rattle.std.specs.Prelude.{ℕ, ◌<◌, ◌^◌, Bool, true, false, ◌&&◌, ◌||◌, ◌≡◌, List, [], length, eqb, ℤ, pos, negsuc}
use Rattle.rules.specs.Kernel.{Call, create_category, set_label, set_clearance, create_container, create_segment, create_gate, create_thread, unreference, link_segment, fix_quota}
use Rattle.rules.specs.Kernel.{move_quota, read, write, resize, enter_gate, look, call, answer_of, History, beginning, next, world_after}
use Rattle.rules.specs.Issued.{creates}
use Rattle.flytewood.specs.Called.{Bytes, Called, Started}
use Rattle.histories.specs.Areas.{world, After}

-- ---- what a host can hand over

-- numbers of 64 bits, without a sign and with one
abbrev pub Word : ℕ → Type 0
Word n = n < 2 ^ 64

abbrev pub Signed : ℤ → Type 0
Signed (pos n) = n < 2 ^ 63
Signed (negsuc n) = n < 2 ^ 63

-- with a call: such numbers, bytes, and for the two calls that have an output a buffer as long as is said
abbrev pub Handed : Call → List ℕ → Type 0
Handed create_category out = out ≡ []
Handed (set_label l) out = Bytes l × (out ≡ [])
Handed (set_clearance l) out = Bytes l × (out ≡ [])
Handed (create_container d l s m q) out = Word d × Bytes l × Bytes s × Word m × Word q × (out ≡ [])
Handed (create_segment d l s q) out = Word d × Bytes l × Bytes s × Word q × (out ≡ [])
Handed (create_gate d l k e x s) out = Word d × Bytes l × Bytes k × Word e × Bytes x × Bytes s × (out ≡ [])
Handed (create_thread d l k s) out = Word d × Bytes l × Bytes k × Bytes s × (out ≡ [])
Handed (unreference d o) out = Word d × Word o × (out ≡ [])
Handed (link_segment d1 o d) out = Word d1 × Word o × Word d × (out ≡ [])
Handed (fix_quota d o) out = Word d × Word o × (out ≡ [])
Handed (move_quota d o n) out = Word d × Word o × Signed n × (out ≡ [])
Handed (read d s k f n) out = Word d × Word s × Word k × Word f × Word n × (out ≡ [])
Handed (write d s k f n b) out = Word d × Word s × Word k × Word f × Word n × Bytes b × (out ≡ [])
Handed (resize d s n) out = Word d × Word s × Word n × (out ≡ [])
Handed (enter_gate d g l k v n) out = Word d × Word g × Bytes l × Bytes k × Bytes v × Bytes out × (length out ≡ n)
Handed (look d o n) out = Word d × Word o × Bytes out × (length out ≡ n)

-- ---- programs

-- A program, as what it may do: Start at f on the areas b and `area`; and the call x by c on them, with `out` lent. Both return an answer and leave b' and area'.
pub record Program : Type 1 where
  pub starts : (b area : List ℕ) (f answer : ℕ) (b' area' : List ℕ) → Type 0
  pub does : (b area : List ℕ) (c : ℕ) (x : Call) (out : List ℕ) (answer value : ℕ) (b' area' out' : List ℕ) → Type 0

-- "Each call must end, whatever bytes, ids, labels and lengths it is handed": it does something on everything that it can be handed.
pub record Ends (p : Program) : Type 0 where
  pub start_ends : (b area : List ℕ) (f : ℕ) → Bytes b → Bytes area → Word f → (answer : ℕ) × (b' : List ℕ) × (area' : List ℕ) × p.starts b area f answer b' area'
  pub call_ends : (b area : List ℕ) (c : ℕ) (x : Call) (out : List ℕ) → Bytes b → Bytes area → Word c → Handed x out
      → (answer : ℕ) × (value : ℕ) × (b' : List ℕ) × (area' : List ℕ) × (out' : List ℕ) × p.does b area c x out answer value b' area' out'

-- whatever it does meets the contracts of the exported functions
pub record Meets (p : Program) : Type 0 where
  pub start_meets : (b area : List ℕ) (f answer : ℕ) (b' area' : List ℕ) → p.starts b area f answer b' area' → Started b area f answer b' area'
  pub call_meets : (b area : List ℕ) (c : ℕ) (x : Call) (out : List ℕ) (answer value : ℕ) (b' area' out' : List ℕ) → p.does b area c x out answer value b' area' out'
      → Called b area c x out answer value b' area' out'

-- ---- "a kernel that refuses everything"

abbrev pub AlwaysRefuses : Program → Type 0
AlwaysRefuses p =
    (b area : List ℕ) (c : ℕ) (x : Call) (out : List ℕ) (answer value : ℕ) (b' area' out' : List ℕ) → p.does b area c x out answer value b' area' out' → answer ≡ 0 → ⊥

abbrev pub NotAlwaysRefuses : Type 1
NotAlwaysRefuses = (p : Program) → Ends p → Meets p → AlwaysRefuses p → ⊥

-- ---- "one that answers 0 to everything"

abbrev pub AnswersZero : Program → Type 0
AnswersZero p =
    (b area : List ℕ) (c : ℕ) (x : Call) (out : List ℕ) (answer value : ℕ) (b' area' out' : List ℕ) → p.does b area c x out answer value b' area' out' → answer ≡ 0

abbrev pub NotAnswersZero : Type 1
NotAnswersZero = (p : Program) → Ends p → Meets p → AnswersZero p → ⊥

-- ---- "one that changes nothing"

-- it may even move its number on
abbrev pub ChangesNothing : Program → Type 0
ChangesNothing p =
    (b area : List ℕ) (c : ℕ) (x : Call) (out : List ℕ) (answer value : ℕ) (b' area' out' : List ℕ) → p.does b area c x out answer value b' area' out'
    → (o : ℕ) → (world b' area').obj o ≡ (world b area).obj o

abbrev pub NotChangesNothing : Type 1
NotChangesNothing = (p : Program) → Ends p → Meets p → ChangesNothing p → ⊥

-- ---- "one that does its first create and from then on only pretends"

-- a create was granted in the history
unfoldable pub has_created : History → Bool
has_created (beginning w) = false
has_created (next h c x) = (creates x && eqb (answer_of (call (world_after h) c x)) 0) || has_created h

-- after such a history, whatever it answers to a create, it leaves the objects as they were
abbrev pub OnlyPretends : Program → Type 0
OnlyPretends p =
    (h : History) (b area : List ℕ) → After h b area → has_created h ≡ true
    → (c : ℕ) (x : Call) (out : List ℕ) (answer value : ℕ) (b' area' out' : List ℕ) → creates x ≡ true → p.does b area c x out answer value b' area' out'
    → (o : ℕ) → (world b' area').obj o ≡ (world b area).obj o

abbrev pub NotOnlyPretends : Type 1
NotOnlyPretends = (p : Program) → Ends p → Meets p → OnlyPretends p → ⊥
