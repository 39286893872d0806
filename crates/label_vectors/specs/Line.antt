-- What the program prints of each case.
use Rattle.std.specs.Prelude.{ℕ, zero, suc, ◌+◌, cond, List, [], ◌∷◌, ◌++◌, get_or, take, drop}
use Rattle.labels.specs.declared.Label.{Label}
use Rattle.labels.specs.Core.{at, category_of, code_of, has_room, with_pair, label_of, label_bytes}
use Rattle.labels.specs.Le.{le_at}
use Rattle.label_vectors.specs.Asked.{asked, op_of}
use Rattle.label_vectors.specs.declared.Op.{Op}
use Rattle.label_vectors.specs.declared.Op.TheVariants.{Ask, Pair, Level}
use Rattle.label_vectors.specs.Text.{hex_of, decimal_of}
pub mod Laws

-- the word `full`
abbrev pub full : List ℕ
full = 102 ∷ 117 ∷ 108 ∷ 108 ∷ []

-- operation 9: the label with the pair whose word is `word`, in hexadecimal, or `full`
unfoldable pub pair_text : Label → ℕ → List ℕ
pair_text x word = cond (has_room x) (hex_of (label_bytes (with_pair (category_of word) (code_of word) x))) full

-- the answer to an operation: `1` or `0`, that, or the label's level at the category n
unfoldable pub answer_of : Op → ℕ → Label → Label → Label → List ℕ
answer_of (Ask what) n x y z = cond (asked what n x y z) (49 ∷ []) (48 ∷ [])
answer_of Pair n x y z = pair_text x n
answer_of Level n x y z = decimal_of (at x n)

-- the label in the 65 bytes from `from` on
abbrev pub label_at : List ℕ → ℕ → Label
label_at case from = label_of (take 65 (drop from case))

-- a case is the operation in one byte, a number in eight, and three labels
unfoldable pub answer_text : List ℕ → List ℕ
answer_text case = answer_of (op_of (get_or case 0 0)) (le_at 8 case 1) (label_at case 9) (label_at case 74) (label_at case 139)

-- the index of the case, a space, the answer, and a line feed
unfoldable pub line_text : ℕ → List ℕ → List ℕ
line_text index case = decimal_of index ++ (32 ∷ (answer_text case ++ (10 ∷ [])))

-- the lines of so many cases of 204 bytes, the first of which has the index `first`
unfoldable pub lines_text : ℕ → ℕ → List ℕ → List ℕ
lines_text zero first cases = []
lines_text (suc count) first cases = line_text first (take 204 cases) ++ lines_text count (first + 1) (drop 204 cases)
