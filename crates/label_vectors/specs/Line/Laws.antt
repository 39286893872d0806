-- Laws of what the program prints: how long it is at most, and that it is what the calls, one after the other, put.
use Prim.Native.Nat.{ℕ, zero, suc, ◌+◌, ◌*◌, ◌/◌, ◌%◌, ◌≤◌}
use Rattle.std.specs.Prelude.{Bool, true, false, cond, Some, None, ◌≡◌, refl, length, get_or, take, drop}
use Rattle.std.proofs.Common.{sym}
use mathlib.Core.List.{List, [], ◌∷◌, ◌++◌, append_assoc}
use native.Mathlib.Omega.{arith}
use Rattle.std.proofs.Math.ListN.{length-append}
use Rattle.std.proofs.Math.Seq.{drop-drop}
use Rattle.labels.specs.declared.Label.{Label}
use Rattle.labels.specs.Core.{at, category_of, code_of, has_room, with_pair, label_bytes}
use Rattle.labels.specs.Core.Bytes.{label_of_length, label_bytes_length}
use Rattle.labels.specs.Core.Insert.{insert_length}
use Rattle.labels.specs.Le.{le_at}
use Rattle.label_vectors.specs.declared.Question.{Question}
use Rattle.label_vectors.specs.declared.Op.{Op}
use Rattle.label_vectors.specs.declared.Op.TheVariants.{Ask, Pair, Level}
use Rattle.label_vectors.specs.Asked.{asked, op_of}
use Rattle.label_vectors.specs.Text.{put, hex_of, decimal_of}
use Rattle.label_vectors.specs.Text.Laws.{Puts, puts_then, put_nil, put_append, hex_length, decimal_length}
use Rattle.label_vectors.specs.Line.{full, pair_text, answer_of, label_at, answer_text, line_text, lines_text}

-- ---- how long the text is at most

-- a label has 65 bytes, in hexadecimal 130 digits
pub pair_length : (x : Label) (word : ℕ) → length x.words ≡ 8 → length (pair_text x word) ≤ 130
unfolding pair_text
pair_length x word e = go (has_room x)
  where
    y : Label
    y = with_pair (category_of word) (code_of word) x

    go : (b : Bool) → length (cond b (hex_of (label_bytes y)) full) ≤ 130
    go true = let f = insert_length (word / 8 * 8 + word % 8) x.words in rw (hex_length, label_bytes_length) (omega arith)
    go false = omega arith

-- no answer is longer
pub answer_length : (case : List ℕ) → length (answer_text case) ≤ 130
unfolding answer_text answer_of
answer_length case = go (op_of (get_or case 0 0))
  where
    n : ℕ
    n = le_at 8 case 1

    told : (b : Bool) → length {A = ℕ} (cond b (49 ∷ []) (48 ∷ [])) ≤ 130
    told true = omega arith
    told false = omega arith

    go : (op : Op) → length (answer_of op n (label_at case 9) (label_at case 74) (label_at case 139)) ≤ 130
    go (Ask what) = told (asked what n (label_at case 9) (label_at case 74) (label_at case 139))
    go Pair = pair_length (label_at case 9) n (label_of_length (take 65 (drop 9 case)))
    go Level = let e = decimal_length 20 (at (label_at case 9) n) in omega arith

-- 20 digits, a space, the answer, a line feed
pub line_length : (index : ℕ) (case : List ℕ) → length (line_text index case) ≤ 152
unfolding line_text
line_length index case =
    let d = decimal_length 20 index in
    let a = answer_length case in
    simp length-append (omega arith)

pub lines_length : (count first : ℕ) (cases : List ℕ) → length (lines_text count first cases) ≤ count * 152
unfolding lines_text
lines_length zero first cases = omega arith
lines_length (suc count) first cases =
    let d = line_length first (take 204 cases) in
    let e = lines_length count (first + 1) (drop 204 cases) in
    simp length-append (omega arith)

-- the same of a number that is known to be their length
pub lines_within : (count first : ℕ) (cases : List ℕ) (r : ℕ) → r ≡ length (lines_text count first cases) → r ≤ count * 152
lines_within count first cases r e = let h = lines_length count first cases in omega arith

-- ---- which text it is, for each way that the program takes

module _ (x : Label) (word k l : ℕ) (p : k ≡ category_of word) (q : l ≡ code_of word) where
  pub pair_full : cond (has_room x) (Some (with_pair k l x)) None ≡ None → pair_text x word ≡ full
  unfolding pair_text
  pair_full e = go (has_room x) e
    where
      go : (b : Bool) → cond b (Some (with_pair k l x)) None ≡ None → cond b (hex_of (label_bytes (with_pair (category_of word) (code_of word) x))) full ≡ full
      go true e = cc
      go false e = refl

  pub pair_spelt : (y : Label) (spelt : List ℕ) → cond (has_room x) (Some (with_pair k l x)) None ≡ Some y → spelt ≡ label_bytes y → pair_text x word ≡ hex_of spelt
  unfolding pair_text
  pair_spelt y spelt e f = rw (f, ← p, ← q) (go (has_room x) e)
    where
      go : (b : Bool) → cond b (Some (with_pair k l x)) None ≡ Some y → cond b (hex_of (label_bytes (with_pair k l x))) full ≡ hex_of (label_bytes y)
      go true e = cc
      go false e = cc

module _ (case : List ℕ) (n : ℕ) (x : Label) (p : n ≡ le_at 8 case 1) (q : x ≡ label_at case 9) where
  pub answer_pair : op_of (get_or case 0 0) ≡ Pair → answer_text case ≡ pair_text x n
  unfolding answer_text answer_of
  answer_pair e = rw (e, p, q)

  pub answer_level : (level : ℕ) → op_of (get_or case 0 0) ≡ Level → level ≡ at x n → answer_text case ≡ decimal_of level
  unfolding answer_text answer_of
  answer_level level e f = rw (e, f, p, q)

  module _ (what : Question) (y z : Label) (e : op_of (get_or case 0 0) ≡ Ask what) (r : y ≡ label_at case 74) (s : z ≡ label_at case 139) where
    pub answer_yes : asked what n x y z ≡ true → answer_text case ≡ 49 ∷ []
    unfolding answer_text answer_of
    answer_yes f = rw (e, ← p, ← q, ← r, ← s, f)

    pub answer_no : asked what n x y z ≡ false → answer_text case ≡ 48 ∷ []
    unfolding answer_text answer_of
    answer_no f = rw (e, ← p, ← q, ← r, ← s, f)

-- what an answer goes by
pub ruleset answers = (label_of_length, answer_pair, answer_level, answer_yes, answer_no)

-- ---- what four calls, one after the other, leave and answer: a line

pub line_put : (out : List ℕ) (from index : ℕ) (case : List ℕ) (o1 o2 o3 o4 : List ℕ) (a1 a2 a3 a4 : ℕ) → from + 152 ≤ length out
    → Puts out from (decimal_of index) o1 a1 → Puts o1 a1 (32 ∷ []) o2 a2 → Puts o2 a2 (answer_text case) o3 a3 → Puts o3 a3 (10 ∷ []) o4 a4
    → Puts out from (line_text index case) o4 a4
unfolding line_text
line_put out from index case o1 o2 o3 o4 a1 a2 a3 a4 h p q r s =
    let d = decimal_length 20 index in
    let e = answer_length case in
    let two = puts_then out from (decimal_of index) (32 ∷ []) o1 a1 o2 a2 p q (omega arith) in
    let three = puts_then out from (decimal_of index ++ (32 ∷ [])) (answer_text case) o2 a2 o3 a3 two r (simp length-append (omega arith)) in
    let four = puts_then out from (decimal_of index ++ (32 ∷ []) ++ answer_text case) (10 ∷ []) o3 a3 o4 a4 three s (simp length-append (omega arith)) in
    simp append_assoc at four

-- ---- how a walk puts lines: those of the cases from `start` on are to be put

module _ (index start : ℕ) (cases out : List ℕ) (from : ℕ) where
  pub lines_more : (k m : ℕ) (case left : List ℕ) (r : ℕ) → m ≡ suc k → case ≡ take 204 (drop start cases) → from + 152 ≤ length out → Puts out from (line_text index case) left r
      → (from + length (lines_text m index (drop start cases)) ≡ r + length (lines_text k (index + 1) (drop (start + 204) cases)))
      × (put out from (lines_text m index (drop start cases)) ≡ put left r (lines_text k (index + 1) (drop (start + 204) cases)))
  unfolding lines_text
  lines_more k m case left r e c h p =
      let l = line_length index case in
      let line : List ℕ = line_text index case in
      let rest : List ℕ = lines_text k (index + 1) (drop (start + 204) cases) in
      rw (e, ← c, drop-drop 204 start cases) (simp length-append (omega arith), rw (p.1, p.0) (sym (put_append out from line rest (omega arith))))

  pub lines_end : (m : ℕ) → m ≡ 0 → (from + length (lines_text m index (drop start cases)) ≡ from) × (put out from (lines_text m index (drop start cases)) ≡ out)
  unfolding lines_text
  lines_end m e = rw e (omega arith, put_nil out from)
