-- What an exported function returns, writes through its pointers and leaves of what it was lent. `Called` and `Started` are the contracts of the exports, word for word, and
-- what every statement of `histories` is about.
use Rattle.std.specs.Prelude.{ℕ, ◌<◌, cond, ◌≡◌, List, [], get_or, take, drop, eqb}
use Rattle.rules.specs.Kernel.{Call, Verdict, refused, grant, read}
use Rattle.tables.specs.Layout.{view}
use Rattle.calls.specs.Read.{place_in}
use Rattle.calls.specs.Outcome.{verdict_on, output_left, Said}
use Rattle.calls.specs.Started as calls

-- what a host lends and gets back is bytes
abbrev pub Bytes : List ℕ → Type 0
Bytes l = (k : ℕ) → get_or l k 0 < 256

-- ---- a call

-- The call x by the thread c on the book b and the data area, with `out` lent for its output, returned `answer`, gave `value`, and left b', area' and out'. A call that is
-- lent no output has the empty list; call 12 hands out out', a part of the data area.
pub record Called (b area : List ℕ) (c : ℕ) (x : Call) (out : List ℕ) (answer value : ℕ) (b' area' out' : List ℕ) : Type 0 where
  pub said : Said b area c x answer value b' area'
  pub output : out' ≡ output_left (verdict_on b area c x) out
  pub book_bytes : Bytes b'
  pub area_bytes : Bytes area'

-- ---- Start

-- Start at the number f returned `answer` and left b' and area'.
pub record Started (b area : List ℕ) (f answer : ℕ) (b' area' : List ℕ) : Type 0 where
  pub made : calls.Started b area f answer b' area'
  pub book_bytes : Bytes b'
  pub area_bytes : Bytes area'

-- ---- a read's part, as its place and count

-- both are 0 for an empty part and on a refusal
unfoldable pub place_given : Verdict → ℕ → ℕ → ℕ
place_given (refused r) n p = 0
place_given (grant v o h) n p = cond (eqb n 0) 0 p

unfoldable pub count_given : Verdict → ℕ → ℕ
count_given (refused r) n = 0
count_given (grant v o h) n = n

-- The exported read: what is handed out is the `count` bytes of the data area from `place` on.
pub record ReadAs (b area : List ℕ) (c d s k f n answer value place count : ℕ) (b' area' : List ℕ) : Type 0 where
  pub called : Called b area c (read d s k f n) [] answer value b' area' (take count (drop place area'))
  pub place_is : place ≡ place_given (verdict_on b area c (read d s k f n)) n (place_in (view b) s k f)
  pub count_is : count ≡ count_given (verdict_on b area c (read d s k f n)) n
