-- The view of any bytes has its tables' lengths, and no change of a table takes them away.
use Rattle.std.specs.Prelude.{ℕ, ◌*◌, ◌<◌, Bool, true, false, cond, ◌≡◌, refl, List, length, set, take, drop, eqb}
use Rattle.std.proofs.Common.{arith, sym, ap, ◌∙◌, subst, length-set, length-drop, length-take-le, eqb-true}
use Rattle.std.proofs.lemmas.List.{length-replicate}
use Rattle.std.proofs.lemmas.List.Edits.{sets}
use Rattle.std.proofs.Math.Seq.{length-sets}
use Rattle.labels.specs.Core.{word_count}
use Rattle.tables.specs.Layout.{View, row_count, label_words_t, clear_words_t, n_of, tab_of, view, empty, zeros, if_tab, on_tab, put_t, run_t}
use Rattle.tables.specs.Layout.Laws.{tab_of_from, long_all, tab_of_long, within}
use Rattle.book.specs.Book.{label_of, clearance_of}
use Rattle.book.specs.Shape.{Shape}

-- What a book's bytes say is in shape.
pub view_shape : (b : List ℕ) → Shape (view b)
view_shape b = record { long = tab_of_long b }

-- A row's label has all its words, and so has its clearance.
module _ (b : List ℕ) (r : ℕ) (h : r < row_count) where
  words_long : (l : List ℕ) → length l ≡ row_count * word_count → length (take word_count (drop (r * word_count) l)) ≡ word_count
  words_long l e = length-take-le word_count (drop (r * word_count) l) (omega (arith, length-drop (r * word_count) l, e, within r row_count word_count h))

  pub label_long : length (label_of (view b) r).words ≡ word_count
  label_long = words_long (view b).label_words (tab_of_long b label_words_t)

  pub clearance_long : length (clearance_of (view b) r).words ≡ word_count
  clearance_long = words_long (view b).clear_words (tab_of_long b clear_words_t)

zeros_long : (n : ℕ) → length (zeros n) ≡ n
unfolding zeros
zeros_long n = length-replicate n 0

-- The book of zeros is in shape.
pub empty_shape : Shape empty
unfolding empty
empty_shape = record { long = long_all empty (λ t h. ap length (tab_of_from (λ s. zeros (n_of s)) t h) ∙ zeros_long (n_of t)) }

-- a table that a change may be of
if_long : (t : ℕ) (f : List ℕ → List ℕ) (s : ℕ) (l : List ℕ) → ((x : List ℕ) → length x ≡ n_of t → length (f x) ≡ n_of t) → length l ≡ n_of s → length (if_tab t f s l) ≡ n_of s
if_long t f s l h e = go (eqb s t) refl
  where
    go : (b : Bool) → eqb s t ≡ b → length (cond b (f l) l) ≡ n_of s
    go true q = let z = eqb-true s t q in subst (λ (i : ℕ). length (f l) ≡ n_of i) (sym z) (h l (subst (λ (i : ℕ). length l ≡ n_of i) z e))
    go false q = e

-- A change of one table that leaves its length leaves the shape.
pub on_shape : (t : ℕ) (f : List ℕ → List ℕ) (v : View) → ((x : List ℕ) → length x ≡ n_of t → length (f x) ≡ n_of t) → Shape v → Shape (on_tab t f v)
on_shape t f v h z =
    record { long = long_all (on_tab t f v) (λ s q. ap length (tab_of_from (λ u. if_tab t f u (tab_of v u)) s q) ∙ if_long t f s (tab_of v s) h (z.long s)) }

-- A number written,
pub put_shape : (t i x : ℕ) (v : View) → Shape v → Shape (put_t t i x v)
put_shape t i x v = on_shape t (λ l. set l i x) v (λ l e. length-set l i x ∙ e)

-- or numbers in a row.
pub run_shape : (t i : ℕ) (xs : List ℕ) (v : View) → Shape v → Shape (run_t t i xs v)
run_shape t i xs v = on_shape t (λ l. sets l i xs) v (λ l e. length-sets l i xs ∙ e)
