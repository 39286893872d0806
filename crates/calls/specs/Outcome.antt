-- What a call says and leaves, of the two areas it is lent. Answer, value and output are what the rules say of the world that the areas spell; book and data
-- area are the rules' change enacted on what came in. All of it is a function of the input, so there is one outcome.
use Rattle.std.specs.Prelude.{ℕ, ◌≤◌, Bool, true, false, not, cond, ◌≡◌, List, length, leb, Result, Ok, Err}
use Rattle.rules.specs.Kernel as kernel
use Rattle.rules.specs.Kernel.{by, Verdict, refused, grant, must, Call, call, answer_of, value_of, last_number}
use Rattle.tables.specs.Layout.{View, view, size}
use Rattle.book.specs.Book.{next_of, world_of}
use Rattle.book.specs.Enact.{moved_on, enact_view, enact_area}
use Rattle.book.specs.Test.{areas_b}
use Rattle.calls.specs.declared.Refusal.{Refusal}
use Rattle.calls.specs.declared.Refusal.TheVariants.{BadArea, NumbersEnded, NoCaller, BadArgument, NoEntry, WrongKind, LabelForbids, MaskForbids, QuotaFixed, AlreadyLinked}
use Rattle.calls.specs.declared.Refusal.TheVariants.{BeyondLength, NinthPair, NoSpare}

-- what a call answers
abbrev pub Answer : Type 0
Answer = Result ℕ Refusal

-- the verdict on a call, of any two areas. RULES 6.1: "An area's length is wrong, or the book is not sound."
unfoldable pub verdict_on : List ℕ → List ℕ → ℕ → Call → Verdict
verdict_on b area c x = must (areas_b b area) 1 (call (world_of (view b) area) c x)

-- RULES 4.2: "Each call uses up its number, granted or refused, and the next number is then one higher. Only answers 1 and 2 use up none."
unfoldable pub book_left : Verdict → View → List ℕ → View
book_left (refused r) v area = cond (leb (kernel.number_of r) 2) v (moved_on v)
book_left (grant n o h) v area = enact_view h v area

unfoldable pub area_left : Verdict → View → List ℕ → List ℕ
area_left (refused r) v area = area
area_left (grant n o h) v area = enact_area h v area

-- an output buffer: the rules' bytes if granted, else as it was
unfoldable pub output_left : Verdict → List ℕ → List ℕ
output_left (refused r) out = out
output_left (grant n o h) out = o

-- RULES 6.1 to 6.13: which of the rules' refusals each refusal of the code is
abbrev pub ruled : Refusal → kernel.Refusal
ruled BadArea = by 1
ruled NumbersEnded = by 2
ruled NoCaller = by 3
ruled BadArgument = by 4
ruled NoEntry = by 5
ruled WrongKind = by 6
ruled LabelForbids = by 7
ruled MaskForbids = by 8
ruled QuotaFixed = by 9
ruled AlreadyLinked = by 10
ruled BeyondLength = by 11
ruled NinthPair = by 12
ruled NoSpare = by 13

-- RULES 6: the number and the value for each case of an answer
abbrev pub number_of : {A : Type 0} → Result A Refusal → ℕ
number_of (Ok v) = 0
number_of (Err r) = kernel.number_of (ruled r)

abbrev pub value_in : Answer → ℕ
value_in (Ok v) = v
value_in (Err r) = 0

-- the same of an answer by numbers alone, which any number may refuse
abbrev pub number_told : Result ℕ ℕ → ℕ
number_told (Ok v) = 0
number_told (Err k) = k

abbrev pub value_told : Result ℕ ℕ → ℕ
value_told (Ok v) = v
value_told (Err k) = 0

-- What a call on areas b and area leaves as b' and area'. Equal views of books of the right length are equal bytes (tables' view_only); where the areas are refused,
-- the book is the same bytes whatever its length.
pub record Left (b area : List ℕ) (c : ℕ) (x : Call) (b' area' : List ℕ) : Type 0 where
  pub length_same : length b' ≡ length b
  pub book_kept : areas_b b area ≡ false → b' ≡ b
  pub book_left_lem : areas_b b area ≡ true → view b' ≡ book_left (verdict_on b area c x) (view b) area
  pub area_left_lem : area' ≡ area_left (verdict_on b area c x) (view b) area

-- A call's whole contract but for an output buffer, of the number and the value that it gave
pub record Said (b area : List ℕ) (c : ℕ) (x : Call) (answer value : ℕ) (b' area' : List ℕ) : Type 0 where
  pub answer_is : answer ≡ answer_of (verdict_on b area c x)
  pub value_is : value ≡ value_of (verdict_on b area c x)
  pub left : Left b area c x b' area'

-- and of its answer.
abbrev pub Done : List ℕ → List ℕ → ℕ → Call → Answer → List ℕ → List ℕ → Type 0
Done b area c x r b' area' = Said b area c x (number_of r) (value_in r) b' area'

abbrev pub DoneBy : List ℕ → List ℕ → ℕ → Call → Result ℕ ℕ → List ℕ → List ℕ → Type 0
DoneBy b area c x r b' area' = Said b area c x (number_told r) (value_told r) b' area'

-- The same with an output buffer, which held `out` and then holds `out'`.
abbrev pub DoneWith : List ℕ → List ℕ → ℕ → Call → List ℕ → Answer → List ℕ → List ℕ → List ℕ → Type 0
DoneWith b area c x out r b' area' out' = Done b area c x r b' area' × (out' ≡ output_left (verdict_on b area c x) out)

-- ---- judging

-- both areas are good and the numbers have not ended: a change can be made
pub record Ready (b area : List ℕ) : Type 0 where
  pub areas : areas_b b area ≡ true
  pub number : next_of (view b) ≤ last_number

-- the number moves on after it: it is not 1 or 2
abbrev pub late : Refusal → Bool
late r = not (leb (kernel.number_of (ruled r)) 2)

-- the refusal r is right for the verdict v; where the number is to move on, it can
pub record Told (b area : List ℕ) (v : Verdict) (r : Refusal) : Type 0 where
  pub verdict : v ≡ refused (ruled r)
  pub ready : late r ≡ true → Ready b area

-- the book can be left by it
pub record Leavable (b : List ℕ) (r : Refusal) : Type 0 where
  pub moves : late r ≡ true → (length b ≡ size) × (next_of (view b) ≤ last_number)

-- The answer a is the refusal r, and the book b' has its number moved on or is as it was. So whatever call that refusal is right for is done: with an unchanged data area,
-- and an output buffer as it was.
pub record LeavesBy {A : Type 0} (b : List ℕ) (r : Refusal) (a : Result A Refusal) (b' : List ℕ) : Type 0 where
  pub answer : a ≡ Err r
  pub length_same : length b' ≡ length b
  pub moved : late r ≡ true → view b' ≡ moved_on (view b)
  pub kept : late r ≡ false → b' ≡ b
  pub done : (area : List ℕ) (c : ℕ) (x : Call) → Told b area (verdict_on b area c x) r → Done b area c x (Err r) b' area
  pub output : (area : List ℕ) (c : ℕ) (x : Call) → Told b area (verdict_on b area c x) r → (out : List ℕ) → out ≡ output_left (verdict_on b area c x) out

-- What a judge's answer means for the verdict v: refused, or to be done on the rows and links that `go` speaks of.
abbrev pub Means : {A : Type 0} → List ℕ → List ℕ → Verdict → (A → Type 0) → Result A Refusal → Type 0
Means b area v go (Err r) = Told b area v r
Means b area v go (Ok x) = Ready b area × go x
