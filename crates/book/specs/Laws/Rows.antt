-- What is known of the fields of a row, and that new labels leave the next number.
use Rattle.std.specs.Prelude.{ℕ, ◌*◌, ◌<◌, Bool, true, false, ◌≡◌, refl, length, drop}
use Rattle.std.proofs.Common.{arith, length-drop, length-take-le}
use Rattle.labels.specs.declared.Label.{Label}
use Rattle.labels.specs.Core.{word_count, well_formed}
use Rattle.labels.specs.Core.Formed.{well_formed_means}
use Rattle.tables.specs.Layout.{View, row_count, label_words_t, clear_words_t}
use Rattle.tables.specs.Layout.Laws.{within}
use Rattle.book.specs.Book.{next_of, code_of, label_of, clearance_of, ThreadOrGate, is_thread_or_gate}
use Rattle.book.specs.Sound.{Live, Sound}
use Rattle.book.specs.Shape.{Shape}
use Rattle.book.specs.Enact.{relabelled}

-- A well-formed label's default fits a byte.
pub formed_low : (n : ℕ) (starred : Bool) (l : Label) → well_formed n starred l ≡ true → l.default < 256
formed_low n starred l h = omega (arith, ((well_formed_means n starred l).0 h).default_top)

-- So does the default of a row's label and clearance,
pub label_low : (v : View) → Sound v → (r : ℕ) → Live v r → (label_of v r).default < 256
label_low v s r a = formed_low (next_of v) (is_thread_or_gate (code_of v r)) (label_of v r) (s.labels r a)

pub clearance_low : (v : View) → Sound v → (r : ℕ) → Live v r → ThreadOrGate (code_of v r) → (clearance_of v r).default < 256
clearance_low v s r a h = formed_low (next_of v) false (clearance_of v r) (s.clearances r a h)

-- and these have all their words.
pub label_long : (v : View) → Shape v → (r : ℕ) → r < row_count → length (label_of v r).words ≡ word_count
label_long v z r h =
    length-take-le word_count (drop (r * word_count) v.label_words) (omega (arith, length-drop (r * word_count) v.label_words, z.long label_words_t, within r row_count word_count h))

pub clearance_long : (v : View) → Shape v → (r : ℕ) → r < row_count → length (clearance_of v r).words ≡ word_count
clearance_long v z r h =
    length-take-le word_count (drop (r * word_count) v.clear_words) (omega (arith, length-drop (r * word_count) v.clear_words, z.long clear_words_t, within r row_count word_count h))

-- The next number stays where a row gets new labels.
pub relabelled_next : (v : View) (r : ℕ) (l c : Label) → next_of (relabelled r l c v) ≡ next_of v
unfolding relabelled
relabelled_next v r l c = refl
