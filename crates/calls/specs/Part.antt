-- Calls 12 and 13: what they share. The part of a block that is read or written, and that it lies within the segment's length (11).
use Rattle.std.specs.Prelude.{ℕ, ◌+◌, ◌*◌, ◌≤◌, Bool, ◌≡◌, List, eqb, leb, length, Result, Ok, Some}
use Rattle.std.specs.Result.{result_and}
use Rattle.rules.specs.Kernel.{segment_code, Verdict, must, block_size}
use Rattle.tables.specs.Layout.{View, view}
use Rattle.book.specs.Book.{code_of, len_of, label_of, block_at, row_of, world_of}
use Rattle.calls.specs.declared.Refusal.{Refusal}
use Rattle.calls.specs.declared.Refusal.TheVariants.{WrongKind, BeyondLength}
use Rattle.calls.specs.Access.{asked, access_on}
use Rattle.calls.specs.Conditions.{tested}
use Rattle.calls.specs.Tested.{test}

-- the rules' tests 5 to 11 of caller c, before what is granted
abbrev pub part_on : List ℕ → List ℕ → ℕ → ℕ → ℕ → ℕ → ℕ → ℕ → Bool → Verdict → Verdict
part_on b area c d s k f n writes rest =
    access_on b area c d s writes (must (leb (block_size * k + f + n) (length ((world_of (view b) area).obj s).bytes)) 11 rest)

-- byte f of block k of the segment s lies at p, and n bytes from there are its own
pub record Lies (b : List ℕ) (s k f n p : ℕ) : Type 0 where
  pub at_row : ℕ
  pub row : row_of (view b) s ≡ Some at_row
  pub code : code_of (view b) at_row ≡ segment_code
  pub place : p ≡ block_size * block_at (view b) at_row k + f
  pub within : block_size * k + f + n ≤ len_of (view b) at_row
  pub one : f + n ≤ block_size

-- what is answered of n bytes from byte f of block k, of the thread at row t and the object at row r, from 6 on
abbrev pub part_at : View → ℕ → ℕ → ℕ → ℕ → ℕ → Bool → Result ℕ Refusal
part_at v t r k f n writes =
    test (eqb (code_of v r) segment_code) WrongKind
    (result_and (tested (asked writes (label_of v t) (label_of v r)))
    (test (leb (block_size * k + f + n) (len_of v r)) BeyondLength
    (Ok (block_size * block_at v r k + f))))
