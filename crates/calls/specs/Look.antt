-- Call 16: where the object stands, and what is put out of it.
use Rattle.std.specs.Prelude.{ℕ, ◌+◌, ◌*◌, ◌<◌, Bool, not, cond, ◌&&◌, ◌≡◌, List, ◌∷◌, ◌++◌, replicate, eqb, Result, Ok, Err}
use Rattle.labels.specs.declared.Label.{Label}
use Rattle.labels.specs.Core.{words_bytes, word_count, may_read}
use Rattle.rules.specs.Kernel.{thread_code, grant, look, keep, look_size}
use Rattle.tables.specs.Layout.{View, view}
use Rattle.book.specs.Book.{code_of, label_of, description_of}
use Rattle.calls.specs.declared.Refusal.{Refusal}
use Rattle.book.specs.declared.find.Entry.{Entry}
use Rattle.calls.specs.Outcome.{verdict_on, Means}
use Rattle.calls.specs.Lookup.{open_container, open_entry}

-- the row of the object at a place
abbrev pub object_at_place : Result Entry Refusal → Result ℕ Refusal
object_at_place (Ok p) = Ok p.object
object_at_place (Err f) = Err f

-- RULES 8.16: "5 unless D is a container that T may read, and O is D itself or is linked in D; no other call takes (D, D) for an entry." The row of O
unfoldable pub open_look : View → ℕ → ℕ → ℕ → Result ℕ Refusal
open_look v t d o = cond (eqb o d) (open_container v t d) (object_at_place (open_entry v t d o))

-- RULES 8.16: "If O is a thread that T may not read, all bytes after the kind's code are 0."
abbrev pub shown_b : ℕ → Label → Label → Bool
shown_b k mine theirs = not (eqb k thread_code && not (may_read mine theirs))

-- RULES 8.16: "Output: the description in 32 bytes; the kind's code; 1, for a label that is shown; the label's default code; five zeros; the eight words in eight bytes each, .."
abbrev pub shown_bytes : ℕ → Label → List ℕ
shown_bytes k l = k ∷ 1 ∷ l.default ∷ 0 ∷ 0 ∷ 0 ∷ 0 ∷ 0 ∷ words_bytes l.words

abbrev pub hidden_bytes : ℕ → List ℕ
hidden_bytes k = k ∷ replicate (7 + word_count * 8) 0

-- what a caller of this label is shown of the object at row r
abbrev pub look_at : View → Label → ℕ → List ℕ
look_at v mine r = description_of v r ++ cond (shown_b (code_of v r) mine (label_of v r)) (shown_bytes (code_of v r) (label_of v r)) (hidden_bytes (code_of v r))

-- the caller, at row t, is granted to look at the object at row r
pub record ToLook (b area : List ℕ) (c d o n t r : ℕ) : Type 0 where
  pub granted : verdict_on b area c (look d o n) ≡ grant 0 (look_at (view b) (label_of (view b) t) r) keep
  pub sized : n ≡ look_size
  pub label_fits : (label_of (view b) r).default < 256

-- what its judging answers
abbrev pub LookJudged : List ℕ → List ℕ → ℕ → ℕ → ℕ → ℕ → Result (ℕ × ℕ) Refusal → Type 0
LookJudged b area c d o n r = Means b area (verdict_on b area c (look d o n)) (λ p. ToLook b area c d o n p.0 p.1) r
