-- RULES 7.2: "It answers 1 if an area's length is wrong, and otherwise 4 if f is not in that range. It then leaves both areas as lent. What the book held does not matter."
-- 7.4: "Start has value 0."
use Rattle.std.specs.Prelude.{ℕ, Bool, false, cond, ◌≡◌, List, length, eqb}
use Rattle.rules.specs.Kernel.{startable}
use Rattle.tables.specs.Layout.{view, size}
use Rattle.book.specs.Enact.{area_size, start_view, start_area}

unfoldable pub lengths_right : List ℕ → List ℕ → Bool
lengths_right b area = cond (eqb (length b) size) (eqb (length area) area_size) false

unfoldable pub start_answer : List ℕ → List ℕ → ℕ → ℕ
start_answer b area f = cond (lengths_right b area) (cond (startable f) 0 4) 1

-- Start's whole contract: its answer, and what it leaves of the two areas, granted and refused.
pub record Started (b area : List ℕ) (f r : ℕ) (b' area' : List ℕ) : Type 0 where
  pub answer : r ≡ start_answer b area f
  pub length_same : length b' ≡ length b
  pub book_made : start_answer b area f ≡ 0 → view b' ≡ start_view f
  pub area_made : start_answer b area f ≡ 0 → area' ≡ start_area
  pub book_kept : (start_answer b area f ≡ 0 → ⊥) → b' ≡ b
  pub area_kept : (start_answer b area f ≡ 0 → ⊥) → area' ≡ area
