-- Demand 1 from the contract of the exported calls.
use Rattle.std.specs.Prelude.{ℕ, zero, suc, ◌+◌, ◌/◌, ◌%◌, ◌≤◌, ◌<◌, ◌≡◌, List, [], ◌∷◌, length, set, eqb}
use native.Mathlib.Omega.{arith}
use Rattle.std.proofs.Math.Bool.{true}
use Rattle.std.proofs.Math.Path.{refl, sym, ap}
use Rattle.std.proofs.Common.{subst, ◌∙◌, eq-eqb, ne_eqb}
use Rattle.labels.specs.Le.{le_at, le_set}
use Rattle.labels.specs.Le.Laws.{le_set_length}
use Rattle.rules.specs.Kernel.{Call, call, answer_of, last_number}
use Rattle.rules.specs.Answers.{one_of, numbers_of}
use Rattle.rules.proofs.Laws.Bools.{bool_cases, or_i_r}
use Rattle.rules.proofs.Theorems.Refusals.{answer_own}
use Rattle.tables.specs.Layout.{view, size, put_t}
use Rattle.tables.specs.Layout.Laws.{slot_put, slot_get}
use Rattle.tables.specs.Layout.Only.{view_only}
use Rattle.book.specs.Book.{next_of, world_of}
use Rattle.book.specs.Enact.{moved_on}
use Rattle.book.specs.Test.{areas_b}
use Rattle.calls.specs.Outcome.{Answer, verdict_on, number_of, value_in, Said, Done, DoneBy}
use Rattle.calls.specs.Laws.Prelude.{book_long, book_sound, verdict_one}
use Rattle.calls.specs.Theorems.Kept.{verdict_is}
use Rattle.calls.specs.Theorems.OneRead.{answer_for, done_for, answer_on}
use Rattle.calls.specs.Theorems.Refusals.{refused_value, refused_area, refused_output, stopped_book, refused_book}
use Rattle.flytewood.specs.Called.{Bytes, Called}
use Rattle.histories.specs.Demands.{Refusal}

-- ---- the book's first eight bytes

-- bytes stay bytes where one is written
set_bytes : (b : List ℕ) (i v : ℕ) → v < 256 → Bytes b → Bytes (set b i v)
set_bytes [] i v l h k = h k
set_bytes (x ∷ xs) zero v l h zero = l
set_bytes (x ∷ xs) zero v l h (suc k) = h (suc k)
set_bytes (x ∷ xs) (suc i) v l h zero = h zero
set_bytes (x ∷ xs) (suc i) v l h (suc k) = set_bytes xs i v l (λ j. h (suc j)) k

le_set_bytes : (w : ℕ) (b : List ℕ) (from v : ℕ) → Bytes b → Bytes (le_set w b from v)
unfolding le_set
le_set_bytes zero b from v h = h
le_set_bytes (suc w) b from v h = le_set_bytes w (set b from (v % 256)) (from + 1) (v / 256) (set_bytes b from (v % 256) (omega arith) h)

module _ (b : List ℕ) (long : length b ≡ size) where
  -- they are the next number,
  number_there : le_at 8 b 0 ≡ next_of (view b)
  number_there = slot_get b 0 8 0 0 (record { whole = long; table = omega arith; wide = refl; place = omega arith }) refl

  -- and with one more there, the tables are those in which the number has moved on
  moved_there : le_at 8 b 0 ≤ suc last_number → view (le_set 8 b 0 (le_at 8 b 0 + 1)) ≡ moved_on (view b)
  unfolding moved_on
  moved_there l =
      slot_put b 0 8 0 (le_at 8 b 0 + 1) 0 (record { whole = long; table = omega arith; wide = refl; place = omega arith }) (omega arith) refl
      ∙ ap (λ (n : ℕ). put_t 0 0 (n + 1) (view b)) number_there

  only_number : Bytes b → le_at 8 b 0 ≤ suc last_number → (b' : List ℕ) → Bytes b' → length b' ≡ length b → view b' ≡ moved_on (view b)
      → b' ≡ le_set 8 b 0 (le_at 8 b 0 + 1)
  only_number h l b' h' e v =
      view_only b' (le_set 8 b 0 (le_at 8 b 0 + 1)) h' (le_set_bytes 8 b 0 (le_at 8 b 0 + 1) h) (v ∙ sym (moved_there l)) (e ∙ long)
      (le_set_length 8 b 0 (le_at 8 b 0 + 1) ∙ long)

-- ---- the contract with the answer of `calls` in place of number and value

pub as_done : (b area : List ℕ) (c : ℕ) (x : Call) (answer value : ℕ) (b' area' : List ℕ) → Said b area c x answer value b' area'
    → DoneBy b area c x (answer_for (verdict_on b area c x)) b' area'
as_done b area c x answer value b' area' s = done_for b area c x b' area' s.left

-- and of any answer that has both
pub as_answered : (b area : List ℕ) (c : ℕ) (x : Call) (answer value : ℕ) (b' area' : List ℕ) → Said b area c x answer value b' area'
    → (r : Answer) → number_of r ≡ answer → value_in r ≡ value → Done b area c x r b' area'
as_answered b area c x answer value b' area' s r e f = record { answer_is = e ∙ s.answer_is; value_is = f ∙ s.value_is; left = s.left }

-- which there is
pub answered : (b area : List ℕ) (c : ℕ) (x : Call) (answer value : ℕ) (b' area' : List ℕ) → Said b area c x answer value b' area'
    → (r : Answer) × (number_of r ≡ answer) × (value_in r ≡ value) × Done b area c x r b' area'
answered b area c x answer value b' area' s =
    let (r, e, f) = answer_on b area c x in
    (r, e ∙ sym s.answer_is, f ∙ sym s.value_is, record { answer_is = e; value_is = f; left = s.left })

-- ---- the refusal

module _ (b area : List ℕ) (c : ℕ) (x : Call) (out : List ℕ) (answer value : ℕ) (b' area' out' : List ℕ) (h : Bytes b)
    (d : Called b area c x out answer value b' area' out') (refused : answer ≡ 0 → ⊥) where
  -- 1 of bad areas, else one of the rules' numbers
  own : one_of answer (1 ∷ 2 ∷ 3 ∷ numbers_of x) ≡ true
  unfolding one_of
  own =
      bool_cases (areas_b b area)
      (λ g.
      let e : answer ≡ answer_of (call (world_of (view b) area) c x) = d.said.answer_is ∙ ap answer_of (verdict_is b area g c x) in
      or_i_r (eqb answer 1) _ (not_zero (subst (λ (n : ℕ). one_of n (0 ∷ 2 ∷ 3 ∷ numbers_of x) ≡ true) (sym e) (answer_own (world_of (view b) area) c x))))
      (λ g. let e : answer ≡ 1 = d.said.answer_is ∙ unfold answer_of in ap answer_of (verdict_one b area c x g) in rw (eq-eqb answer 1 e))
    where
      not_zero : one_of answer (0 ∷ 2 ∷ 3 ∷ numbers_of x) ≡ true → one_of answer (2 ∷ 3 ∷ numbers_of x) ≡ true
      not_zero e = unfold one_of in rw (ne_eqb answer 0 refused) at e

  good : 3 ≤ answer → areas_b b area ≡ true
  good n =
      bool_cases (areas_b b area) (λ g. g)
      (λ g. let e : answer ≡ 1 = d.said.answer_is ∙ unfold answer_of in ap answer_of (verdict_one b area c x g) in absurd (omega arith))

  number_on : 3 ≤ answer → b' ≡ le_set 8 b 0 (le_at 8 b 0 + 1)
  number_on n =
      let g = good n in
      let long = book_long b area g in
      only_number b long h (omega (arith, number_there b long, (book_sound b area g).next_most)) b' d.book_bytes d.said.left.length_same
      (refused_book b area c x answer value b' area' d.said refused n g)

  pub refusal : Refusal b area x out answer value b' area' out'
  refusal =
      record {
        number = own;
        value_zero = refused_value b area c x answer value b' area' d.said refused;
        area_same = refused_area b area c x answer value b' area' d.said refused;
        output_same = d.output ∙ refused_output b area c x answer value b' area' d.said refused out;
        book_same = λ n. stopped_book b area c x answer value b' area' d.said refused n h d.book_bytes;
        number_on = λ n. number_on n ∙ ap (le_set 8 b 0) (omega arith);
      }
