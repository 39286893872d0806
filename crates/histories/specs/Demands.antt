-- The tester's demands as statements about the two lent areas. docs/DEMANDS.md quotes the demands and explains each word; proofs/Theorems has the proofs.
--
-- Read `After h b area` as "after the history h the book is b and the data area is area", `Called b area c x out answer value b' area' out'` as "the call x by c, on these
-- areas, returned answer and value and left b', area' and out'", `Started b area f answer b' area'` the same of Start at f, and `world b area` as "the objects, links and bytes
-- that the two areas spell". `Called` and `Started` are what the exported functions promise, word for word (crates/flytewood).
use Rattle.std.specs.Prelude.{ℕ, ◌+◌, ◌*◌, ◌≤◌, ◌<◌, true, false, cond, ◌≡◌, List, [], ◌∷◌, length, get_or, leb}
use Rattle.labels.specs.Le.{le_at, le_set}
use Rattle.quotas.specs.Sum.{Σ, when}
use Rattle.rules.specs.Kernel.{World, Call, link, apply, read, resize, is_live, is_container, is_segment, units, hold_of, spare_of, call, after, answer_of, value_of, History, next}
use Rattle.rules.specs.Kernel.{world_after, block_size, last_number}
use Rattle.rules.specs.Fair.{Linked}
use Rattle.rules.specs.Masks.{forbidden_in}
use Rattle.rules.specs.Answers.{one_of, numbers_of}
use Rattle.rules.specs.Trees.{in_tree}
use Rattle.rules.specs.Written.{last_written}
use Rattle.rules.specs.Ledger.{reckoned, spends, draws, needs, refused_earlier, writer, Meanwhile}
use Rattle.tables.specs.Layout.{view, size}
use Rattle.book.specs.Sound.{Sound}
use Rattle.book.specs.Enact.{area_size, enact_view}
use Rattle.book.specs.Clear.{ByteOf}
use Rattle.book.specs.Test.{areas_b}
use Rattle.calls.specs.Outcome.{output_left}
use Rattle.flytewood.specs.Called.{Bytes, Called, Started, ReadAs}
use Rattle.histories.specs.Areas.{world, After}

-- ---- Demand 1

-- "A refusal gives its number and the value 0; it leaves the data area, every output buffer and the whole book unchanged, save that the call number moves on by one (not
-- even that after answers 1 and 2)." The call number is the book's first eight bytes, the lowest first.
pub record Refusal (b area : List ℕ) (x : Call) (out : List ℕ) (answer value : ℕ) (b' area' out' : List ℕ) : Type 0 where
  pub number : one_of answer (1 ∷ 2 ∷ 3 ∷ numbers_of x) ≡ true
  pub value_zero : value ≡ 0
  pub area_same : area' ≡ area
  pub output_same : out' ≡ out
  pub book_same : answer ≤ 2 → b' ≡ b
  pub number_on : 3 ≤ answer → b' ≡ le_set 8 b 0 (le_at 8 b 0 + 1)

-- "Each call must end, whatever bytes, ids, labels and lengths it is handed, and must check them itself": the exported functions are proved to end and ask for nothing, so
-- this is about any two areas, good or bad, of any length. Whatever is not granted is such a refusal.
abbrev pub Demand1 : Type 0
Demand1 =
    (b area : List ℕ) (c : ℕ) (x : Call) (out : List ℕ) (answer value : ℕ) (b' area' out' : List ℕ) → Bytes b
    → Called b area c x out answer value b' area' out'
    → (answer ≡ 0 → ⊥) → Refusal b area x out answer value b' area' out'

-- Start too. RULES 7.2: "It answers 1 if an area's length is wrong, and otherwise 4 if f is not in that range. It then leaves both areas as lent."
abbrev pub StartRefuses : Type 0
StartRefuses =
    (b area : List ℕ) (f answer : ℕ) (b' area' : List ℕ) → Started b area f answer b' area'
    → (answer ≡ 0 → ⊥) → (one_of answer (1 ∷ 4 ∷ []) ≡ true) × (b' ≡ b) × (area' ≡ area)

-- ---- Demand 2

-- "Each call must be granted, or refused by the first number that applies in the order of check, exactly as the .. rules .. say, and leave exactly the objects, links and
-- bytes they say." The rules are those of docs/RULES.md, as `Kernel.call` and `Kernel.after` have them.
pub record AsRuled (w : World) (c : ℕ) (x : Call) (out : List ℕ) (answer value : ℕ) (b' area' out' : List ℕ) : Type 0 where
  pub answer_is : answer ≡ answer_of (call w c x)
  pub value_is : value ≡ value_of (call w c x)
  pub output_is : out' ≡ output_left (call w c x) out
  pub world_is : world b' area' ≡ after w c x

-- Of every two areas of the right lengths whose book is sound, wherever they come from.
abbrev pub Demand2 : Type 0
Demand2 =
    (b area : List ℕ) → length b ≡ size → length area ≡ area_size → Sound (view b)
    → (c : ℕ) (x : Call) (out : List ℕ) (answer value : ℕ) (b' area' out' : List ℕ) → Called b area c x out answer value b' area' out'
    → AsRuled (world b area) c x out answer value b' area' out'

-- So of those that a history left: they spell the rules' world of the history,
abbrev pub SpellsTheWorld : Type 0
SpellsTheWorld = (h : History) (b area : List ℕ) → After h b area → world b area ≡ world_after h

-- and the next call is as ruled in that world.
abbrev pub NextAsRuled : Type 0
NextAsRuled =
    (h : History) (b area : List ℕ) → After h b area
    → (c : ℕ) (x : Call) (out : List ℕ) (answer value : ℕ) (b' area' out' : List ℕ) → Called b area c x out answer value b' area' out'
    → AsRuled (world_after h) c x out answer value b' area' out'

-- There is only one outcome: the same call on the same areas, good or bad, gives the same answer, value, book, data area and output.
abbrev pub OneOutcome : Type 0
OneOutcome =
    (b area : List ℕ) (c : ℕ) (x : Call) (out : List ℕ) (answer₁ value₁ : ℕ) (b₁ area₁ out₁ : List ℕ) (answer₂ value₂ : ℕ) (b₂ area₂ out₂ : List ℕ)
    → Called b area c x out answer₁ value₁ b₁ area₁ out₁ → Called b area c x out answer₂ value₂ b₂ area₂ out₂
    → (answer₁ ≡ answer₂) × (value₁ ≡ value₂) × (b₁ ≡ b₂) × (area₁ ≡ area₂) × (out₁ ≡ out₂)

-- So has Start, granted or refused,
abbrev pub OneStart : Type 0
OneStart =
    (b area : List ℕ) (f answer₁ : ℕ) (b₁ area₁ : List ℕ) (answer₂ : ℕ) (b₂ area₂ : List ℕ)
    → Started b area f answer₁ b₁ area₁ → Started b area f answer₂ b₂ area₂ → (answer₁ ≡ answer₂) × (b₁ ≡ b₂) × (area₁ ≡ area₂)

-- and the exported read, which hands its part out as a place in the data area and a count: `ReadAs` is what it promises, and it is a `Called` with that part for its output.
abbrev pub OneRead : Type 0
OneRead =
    (b area : List ℕ) (c d s k from n answer₁ value₁ place₁ count₁ : ℕ) (b₁ area₁ : List ℕ) (answer₂ value₂ place₂ count₂ : ℕ) (b₂ area₂ : List ℕ)
    → ReadAs b area c d s k from n answer₁ value₁ place₁ count₁ b₁ area₁ → ReadAs b area c d s k from n answer₂ value₂ place₂ count₂ b₂ area₂
    → (answer₁ ≡ answer₂) × (value₁ ≡ value₂) × (place₁ ≡ place₂) × (count₁ ≡ count₂) × (b₁ ≡ b₂) × (area₁ ≡ area₂)

-- And of a whole history, whatever areas it began on.
abbrev pub OneHistory : Type 0
OneHistory = (h : History) (b₁ area₁ b₂ area₂ : List ℕ) → After h b₁ area₁ → After h b₂ area₂ → (b₁ ≡ b₂) × (area₁ ≡ area₂)

-- "What a read shows is what the writes, clears and resizes left there": as many bytes as were asked for, each the one last written at its place.
abbrev pub ReadShows : Type 0
ReadShows =
    (h : History) (b area : List ℕ) → After h b area
    → (c d s k from count answer value : ℕ) (b' area' part : List ℕ) → Called b area c (read d s k from count) [] answer value b' area' part → answer ≡ 0
    → (length part ≡ count) × ((i : ℕ) → i < count → get_or part i 0 ≡ last_written h s (block_size * k + from + i))

-- RULES 8.8: "The blocks of a freed segment are set to zero." 8.14: "Bytes that it gains are zero, whatever the area had there; bytes that it loses are set to zero in the
-- area." So a byte of the data area that is no byte of a live segment is 0: it lies in no segment's block, or past the length in a segment's last block.
abbrev pub ClearingShows : Type 0
ClearingShows =
    (h : History) (b area : List ℕ) → After h b area
    → (j : ℕ) → j < length area → ((r i : ℕ) → ByteOf (view b) r i j → ⊥) → get_or area j 0 ≡ 0

-- ---- Demand 3

-- "From a start, if only calls touch the two areas, the book stays sound", so no call ever answers 1,
abbrev pub StaysSound : Type 0
StaysSound = (h : History) (b area : List ℕ) → After h b area → Sound (view b)

abbrev pub NeverOne : Type 0
NeverOne =
    (h : History) (b area : List ℕ) → After h b area
    → (c : ℕ) (x : Call) (out : List ℕ) (answer value : ℕ) (b' area' out' : List ℕ) → Called b area c x out answer value b' area' out' → answer ≡ 1 → ⊥

-- "and for each live container: the objects in its tree, each counted once, hold no more units than its quota;"
abbrev pub TreeHolds : Type 0
TreeHolds =
    (h : History) (b area : List ℕ) → After h b area
    → (d : ℕ) → is_container ((world b area).obj d).kind ≡ true
    → Σ (world b area).next (λ o. when (in_tree (world b area) d o) (hold_of (world b area) o)) ≤ ((world b area).obj d).quota

-- "a create, a link or a move of quota out of it that passes all earlier checks is granted exactly when it fits the spare room reckoned from the history of grants and
-- charges;" `draws` is the container that the call takes units from, `needs` how many; units taken back from a container (call 11 with n < 0) are a move out of it. If it does
-- not fit, the answer is 13.
abbrev pub Exactly : Type 0
Exactly =
    (h : History) (b area : List ℕ) → After h b area
    → (c : ℕ) (x : Call) (out : List ℕ) (answer value : ℕ) (b' area' out' : List ℕ) → Called b area c x out answer value b' area' out'
    → spends (world b area) x ≡ true → refused_earlier answer ≡ false
    → answer ≡ cond (leb (needs (world b area) x) (reckoned h (draws (world b area) x))) 0 13

-- The spare reckoned from the history is the spare that the areas spell: quota less use.
abbrev pub ReckonedIsSpare : Type 0
ReckonedIsSpare =
    (h : History) (b area : List ℕ) → After h b area
    → (d : ℕ) → is_container ((world b area).obj d).kind ≡ true → reckoned h d ≡ spare_of (world b area) d

-- "and that spare shrinks only by a call of a thread whose label may write that container."
abbrev pub ShrinksBy : Type 0
ShrinksBy =
    (h : History) (b area : List ℕ) → After h b area
    → (c : ℕ) (x : Call) (b' area' : List ℕ) → After (next h c x) b' area'
    → (d : ℕ) → is_container ((world b area).obj d).kind ≡ true → is_live ((world b' area').obj d).kind ≡ true
    → reckoned (next h c x) d < reckoned h d → writer (world b area) c d ≡ true

-- "Nothing is ever refused for want of room elsewhere." Two pairs of good areas that spell the same world, wherever its rows, links and blocks lie in them, give every call
-- the same answer and value. So it is decided by the world alone; and by Exactly, 13 comes only from the container's own spare.
abbrev pub ByTheWorldAlone : Type 0
ByTheWorldAlone =
    (b₁ area₁ b₂ area₂ : List ℕ) → areas_b b₁ area₁ ≡ true → areas_b b₂ area₂ ≡ true → world b₁ area₁ ≡ world b₂ area₂
    → (c : ℕ) (x : Call) (out : List ℕ) (answer₁ value₁ : ℕ) (b₁' area₁' out₁ : List ℕ) (answer₂ value₂ : ℕ) (b₂' area₂' out₂ : List ℕ)
    → Called b₁ area₁ c x out answer₁ value₁ b₁' area₁' out₁ → Called b₂ area₂ c x out answer₂ value₂ b₂' area₂' out₂
    → (answer₁ ≡ answer₂) × (value₁ ≡ value₂) × (out₁ ≡ out₂) × (world b₁' area₁' ≡ world b₂' area₂')

-- ---- The fault cannot happen

-- "A neighbouring job had used room that the kernel had granted to another job's container." By the history h the container d has n units to spare. Then come any calls
-- of neighbours, callers whose labels may not write d: the history is now k. Then a create, a link or a move of at most n units out of d, into an object or back to where d is
-- linked, by any caller, that passes all earlier checks. It is granted.
abbrev pub RoomIsKept : Type 0
RoomIsKept =
    (h : History) (b area : List ℕ) → After h b area
    → (d n : ℕ) → is_container ((world b area).obj d).kind ≡ true → n ≤ reckoned h d
    → (k : History) (b₂ area₂ : List ℕ) → After k b₂ area₂ → Meanwhile d h k
    → (c : ℕ) (x : Call) (out : List ℕ) (answer value : ℕ) (b' area' out' : List ℕ) → Called b₂ area₂ c x out answer value b' area' out'
    → spends (world b₂ area₂) x ≡ true → draws (world b₂ area₂) x ≡ d → needs (world b₂ area₂) x ≤ n → refused_earlier answer ≡ false
    → answer ≡ 0

-- "So that job's list could not grow for its last entry." The quota of the segment s allows a list of n bytes. Then come any calls of neighbours, callers whose labels may
-- not write s. Then a resize to n bytes, by any caller, that passes all earlier checks. It is granted.
abbrev pub ListCanGrow : Type 0
ListCanGrow =
    (h : History) (b area : List ℕ) → After h b area
    → (s n : ℕ) → is_segment ((world b area).obj s).kind ≡ true → units n ≤ ((world b area).obj s).quota
    → (k : History) (b₂ area₂ : List ℕ) → After k b₂ area₂ → Meanwhile s h k
    → (c d : ℕ) (out : List ℕ) (answer value : ℕ) (b' area' out' : List ℕ) → Called b₂ area₂ c (resize d s n) out answer value b' area' out'
    → refused_earlier answer ≡ false → answer ≡ 0

-- ---- Masks and links (W2)

-- "A vendor's container forbids segments, and ours got one by a link." On good areas no call brings an object into a container whose mask forbids its kind: where one stands
-- after a call, it stood there before.
abbrev pub MasksHold : Type 0
MasksHold =
    (b area : List ℕ) → areas_b b area ≡ true
    → (c : ℕ) (x : Call) (out : List ℕ) (answer value : ℕ) (b' area' out' : List ℕ) → Called b area c x out answer value b' area' out'
    → (d o : ℕ) → forbidden_in (world b' area') d o ≡ true → forbidden_in (world b area) d o ≡ true

-- So from a start none is ever there.
abbrev pub NoneForbidden : Type 0
NoneForbidden = (h : History) (b area : List ℕ) → After h b area → (d o : ℕ) → forbidden_in (world b area) d o ≡ false

-- "Links already there stay, and a book holding them is still sound." `Linked` is what call 9 has always asked of container and segment, labels aside; the mask is not in it.
-- A book with the link that call 9 made before W2 passes the test, and spells the world with that link.
abbrev pub OldLinksSound : Type 0
OldLinksSound =
    (b area : List ℕ) → areas_b b area ≡ true → (d o : ℕ) → Linked (world b area) d o → (world b area).next ≤ last_number
    → (b' : List ℕ) → length b' ≡ size → view b' ≡ enact_view (link d o) (view b) area
    → (areas_b b' area ≡ true) × (world b' area ≡ apply (link d o) (world b area))
