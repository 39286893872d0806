-- Start's contract at each way out.
use Rattle.std.specs.Prelude.{ℕ, ◌-◌, ◌≤◌, ◌<◌, true, ◌≡◌, refl, List, length}
use Rattle.std.proofs.Common.{arith, sym, ◌∙◌}
use borrow.Author.Tests.{eq-eqb, ne_eqb, le-leb, lt-leb}
use Rattle.rules.specs.Kernel.{startable, last_number}
use Rattle.tables.specs.Layout.{view, size}
use Rattle.book.specs.Enact.{area_size, start_view, start_area}
use Rattle.calls.specs.Started.{lengths_right, start_answer, Started}

pub startable_by : (f : ℕ) → 1 ≤ f → f ≤ last_number - 2 → startable f ≡ true
unfolding startable
startable_by f l n = rw (le-leb 1 f l, le-leb f (last_number - 2) n)

module _ (b area : List ℕ) (f : ℕ) where
  -- a refusal leaves both as lent
  refused : (k : ℕ) → start_answer b area f ≡ k → (k ≡ 0 → ⊥) → Started b area f k b area
  refused k e n =
      record {
        answer = sym e;
        length_same = refl;
        book_made = λ z. absurd (n (sym e ∙ z));
        area_made = λ z. absurd (n (sym e ∙ z));
        book_kept = λ z. refl;
        area_kept = λ z. refl;
      }

  pub wrong_book : (length b ≡ size → ⊥) → Started b area f 1 b area
  unfolding start_answer lengths_right
  wrong_book n = refused 1 (rw (ne_eqb (length b) size n)) (λ z. omega arith)

  pub wrong_area : length b ≡ size → (length area ≡ area_size → ⊥) → Started b area f 1 b area
  unfolding start_answer lengths_right
  wrong_area e n = refused 1 (rw (eq-eqb (length b) size e, ne_eqb (length area) area_size n)) (λ z. omega arith)

  module _ (e : length b ≡ size) (g : length area ≡ area_size) where
    pub low_first : f < 1 → Started b area f 4 b area
    unfolding start_answer lengths_right startable
    low_first n = refused 4 (rw (eq-eqb (length b) size e, eq-eqb (length area) area_size g, lt-leb 1 f n)) (λ z. omega arith)

    pub high_first : 1 ≤ f → last_number - 2 < f → Started b area f 4 b area
    unfolding start_answer lengths_right startable
    high_first l n =
        refused 4 (rw (eq-eqb (length b) size e, eq-eqb (length area) area_size g, le-leb 1 f l, lt-leb f (last_number - 2) n)) (λ z. omega arith)

    granted : 1 ≤ f → f ≤ last_number - 2 → start_answer b area f ≡ 0
    unfolding start_answer lengths_right startable
    granted l n = rw (eq-eqb (length b) size e, eq-eqb (length area) area_size g, le-leb 1 f l, le-leb f (last_number - 2) n)

    pub made : 1 ≤ f → f ≤ last_number - 2 → (b' area' : List ℕ) → length b' ≡ length b → view b' ≡ start_view f → area' ≡ start_area → Started b area f 0 b' area'
    made l n b' area' same v a =
        record {
          answer = sym (granted l n);
          length_same = same;
          book_made = λ z. v;
          area_made = λ z. a;
          book_kept = λ z. absurd (z (granted l n));
          area_kept = λ z. absurd (z (granted l n));
        }

-- what it needs at every way out
pub ruleset ways_out = (wrong_book, wrong_area, low_first, high_first, startable_by, made)
