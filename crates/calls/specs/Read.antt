-- Call 12: the part of the data area that is read.
use Rattle.std.specs.Prelude.{ℕ, ◌+◌, ◌*◌, ◌≤◌, ◌≡◌, List, length, take, drop, Result, Ok, Err}
use Rattle.std.specs.Borrow.{Bor}
use Rattle.rules.specs.Kernel.{Verdict, refused, grant, read, keep, answer_of, value_of, output_of, block_size}
use Rattle.tables.specs.Layout.{View, view}
use Rattle.book.specs.Book.{block_at, on_found, row_of}
use Rattle.calls.specs.declared.Refusal.{Refusal}
use Rattle.calls.specs.Outcome.{verdict_on, ruled, Left, Done, Means}
use Rattle.calls.specs.Part.{Lies}

-- n bytes from p on are granted to be read
pub record ToRead (b area : List ℕ) (c d s k f n p : ℕ) : Type 0 where
  pub lies : Lies b s k f n p
  pub granted : verdict_on b area c (read d s k f n) ≡ grant 0 (take n (drop p area)) keep

-- what its judging answers
abbrev pub ReadJudged : List ℕ → List ℕ → ℕ → ℕ → ℕ → ℕ → ℕ → ℕ → Result ℕ Refusal → Type 0
ReadJudged b area c d s k f n r = Means b area (verdict_on b area c (read d s k f n)) (ToRead b area c d s k f n) r

-- ---- as numbers

-- where byte f of block k of the segment s lies
abbrev pub place_in : View → ℕ → ℕ → ℕ → ℕ
place_in v s k f = on_found (row_of v s) (λ r. block_size * block_at v r k + f) 0

-- granted: the part is m bytes from p on, and lies within the data area
pub record PartAt (b area : List ℕ) (c d s k f n : ℕ) (b' : List ℕ) (p m : ℕ) : Type 0 where
  pub granted : verdict_on b area c (read d s k f n) ≡ grant 0 (take m (drop p area)) keep
  pub place : p ≡ place_in (view b) s k f
  pub count : m ≡ n
  pub inside : p + m ≤ length area
  pub left : Left b area c (read d s k f n) b' area

-- refused: the call is done with that answer
pub record NoPart (b area : List ℕ) (c d s k f n : ℕ) (b' : List ℕ) (r : Refusal) : Type 0 where
  pub verdict : verdict_on b area c (read d s k f n) ≡ refused (ruled r)
  pub done : Done b area c (read d s k f n) (Err r) b' area

abbrev pub LocatedAs : List ℕ → List ℕ → ℕ → ℕ → ℕ → ℕ → ℕ → ℕ → List ℕ → Result (ℕ × ℕ) Refusal → Type 0
LocatedAs b area c d s k f n b' (Ok p) = PartAt b area c d s k f n b' p.0 p.1
LocatedAs b area c d s k f n b' (Err r) = NoPart b area c d s k f n b' r

-- ---- as the part itself

-- how far into the data area the part begins; the empty part of a refusal begins where the area does
unfoldable pub begins_at : Verdict → ℕ → ℕ
begins_at (refused r) p = 0
begins_at (grant v o h) p = p

-- RULES 8.12: "The output is the part of the data area that has the bytes of S from 64k + from on, count of them; nothing is copied. If count is 0 or the call is refused, the
-- part is empty." Answer and value go into lent numbers. A reference's place is a piece of memory and a byte of it (`ref_ptr`), so "nothing is copied" is said by the place, beside
-- the bytes. The data area is only lent to be read, so it stays as it was.
pub record Shown (b : List ℕ) (area : Bor (List ℕ)) (c d s k f n answer value : ℕ) (part : Bor (List ℕ)) (b' : List ℕ) : Type 0 where
  pub answer_is : answer ≡ answer_of (verdict_on b area.now c (read d s k f n))
  pub value_is : value ≡ value_of (verdict_on b area.now c (read d s k f n))
  pub part_is : part.now ≡ output_of (verdict_on b area.now c (read d s k f n))
  pub memory_is : part.ref_ptr.0 ≡ area.ref_ptr.0
  pub place_is : part.ref_ptr.1 ≡ area.ref_ptr.1 + begins_at (verdict_on b area.now c (read d s k f n)) (place_in (view b) s k f)
  pub left : Left b area.now c (read d s k f n) b' area.now
