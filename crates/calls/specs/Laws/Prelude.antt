-- What every call's judging begins with, and what its tests make of the verdict.
use Rattle.std.specs.Prelude.{ℕ, ◌≤◌, ◌<◌, Bool, true, false, ◌&&◌, ◌≡◌, refl, List, length, eqb, Ok}
use Rattle.std.proofs.lemmas.Bool.{false≢true}
use Rattle.std.proofs.Common.{sym, subst, ◌∙◌}
use borrow.Author.Tests.{le-leb, lt-leb, eqb-true}
use Rattle.rules.specs.Kernel as kernel
use Rattle.rules.specs.Kernel.{by, number_of, value_with, Verdict, refused, refuse, grant, unless, must, Call, Change, call, tests, judge, is_thread, good_arguments}
use Rattle.rules.specs.Kernel.{last_number, answer_of, value_of}
use Rattle.rules.specs.Sound as rules
use Rattle.tables.specs.Layout.{view, size}
use Rattle.book.specs.Book.{next_of, world_of}
use Rattle.book.specs.Sound.{Sound}
use Rattle.book.specs.Enact.{area_size, moved_on, enact_view, enact_area}
use Rattle.book.specs.Test.{areas_b, sound_b}
use Rattle.book.proofs.Laws.Means.{sound_means}
use Rattle.book.specs.Laws.Shapes.{view_shape}
use Rattle.book.specs.Laws.WorldSound.{world_sound}
use Rattle.calls.specs.Outcome.{verdict_on, book_left, area_left, Said, Done, Ready}

-- ---- must

pub must_passed : (p : Bool) (k : ℕ) (r : Verdict) → p ≡ true → must p k r ≡ r
unfolding unless must
must_passed p k r e = rw e

pub must_failed : (p : Bool) (k : ℕ) (r : Verdict) → p ≡ false → must p k r ≡ refuse k
unfolding unless must
must_failed p k r e = rw e

-- ---- what good areas are

and_first : (a b : Bool) → (a && b) ≡ true → a ≡ true
and_first true b e = refl
and_first false b e = e

and_rest : (a b : Bool) → (a && b) ≡ true → b ≡ true
and_rest true b e = e
and_rest false true e = refl
and_rest false false e = e

module _ (b area : List ℕ) (good : areas_b b area ≡ true) where
  -- the book has its length
  pub book_long : length b ≡ size
  unfolding areas_b
  book_long = eqb-true (length b) size (and_first (eqb (length b) size) _ good)

  pub area_long : length area ≡ area_size
  unfolding areas_b
  area_long = eqb-true (length area) area_size (and_first (eqb (length area) area_size) (sound_b (view b)) (and_rest (eqb (length b) size) _ good))

  -- the book is sound, and so is its world
  pub book_sound : Sound (view b)
  unfolding areas_b
  book_sound = (sound_means (view b)).0 (and_rest (eqb (length area) area_size) (sound_b (view b)) (and_rest (eqb (length b) size) _ good))

  pub is_sound : rules.Sound (world_of (view b) area)
  is_sound = world_sound (view b) area (view_shape b) book_sound

-- ---- answers 1 to 4

module _ (b area : List ℕ) (c : ℕ) (x : Call) where
  -- 1: wrong lengths, or an unsound book
  pub verdict_one : areas_b b area ≡ false → verdict_on b area c x ≡ refuse 1
  unfolding verdict_on
  verdict_one e = must_failed _ 1 _ e

  -- 2: the numbers have ended
  pub verdict_two : areas_b b area ≡ true → last_number < next_of (view b) → verdict_on b area c x ≡ refuse 2
  unfolding verdict_on call world_of
  verdict_two e l = must_passed _ 1 _ e ∙ must_failed _ 2 _ (lt-leb (next_of (view b)) last_number l)

  module _ (ready : Ready b area) where
    from_three : verdict_on b area c x ≡ tests (world_of (view b) area) c x
    unfolding verdict_on call world_of
    from_three = must_passed _ 1 _ ready.areas ∙ must_passed _ 2 _ (le-leb (next_of (view b)) last_number ready.number)

    -- 3: the caller is no live thread
    pub verdict_three : is_thread ((world_of (view b) area).obj c).kind ≡ false → verdict_on b area c x ≡ refuse 3
    unfolding tests
    verdict_three e = from_three ∙ must_failed _ 3 _ e

    module _ (thread : is_thread ((world_of (view b) area).obj c).kind ≡ true) where
      -- 4: the arguments
      pub verdict_four : good_arguments (next_of (view b)) x ≡ false → verdict_on b area c x ≡ refuse 4
      unfolding tests world_of
      verdict_four e = from_three ∙ (must_passed _ 3 _ thread ∙ must_failed _ 4 _ e)

      -- the tests from 5 on decide
      pub verdict_judged : good_arguments (next_of (view b)) x ≡ true
          → verdict_on b area c x ≡ judge (world_of (view b) area) ((world_of (view b) area).obj c) c x
      unfolding tests world_of
      verdict_judged e = from_three ∙ (must_passed _ 3 _ thread ∙ must_passed _ 4 _ e)

-- ---- what is left after each way out

-- a refusal has the value 0
pub no_value : (f : kernel.Refusal) → value_with f ≡ 0
no_value (by k) = refl

module _ (b area : List ℕ) (c : ℕ) (x : Call) where
  -- refused by 1 or 2: nothing changed
  pub done_stopped : (f : kernel.Refusal) (n : ℕ) → n ≡ number_of f → verdict_on b area c x ≡ refused f → n ≤ 2 → Said b area c x n 0 b area
  unfolding book_left area_left answer_of value_of
  done_stopped f n i e l =
      record {
        answer_is = rw e i;
        value_is = rw e (sym (no_value f));
        left = record { length_same = refl; book_kept = λ g. refl; book_left_lem = λ g. rw (e, le-leb (number_of f) 2 (subst (λ m. m ≤ 2) i l)); area_left_lem = rw e };
      }

  module _ (ready : Ready b area) (b' : List ℕ) (long : length b' ≡ length b) where
    -- refused by a later number: the number moved on
    pub done_refused : (f : kernel.Refusal) (n : ℕ) → n ≡ number_of f → verdict_on b area c x ≡ refused f → 2 < n → view b' ≡ moved_on (view b)
        → Said b area c x n 0 b' area
    unfolding book_left area_left answer_of value_of
    done_refused f n i e l m =
        record {
          answer_is = rw e i;
          value_is = rw e (sym (no_value f));
          left =
              record {
                length_same = long;
                book_kept = λ g. absurd (false≢true (sym g ∙ ready.areas));
                book_left_lem = λ g. rw (e, lt-leb (number_of f) 2 (subst (λ k. 2 < k) i l)) m;
                area_left_lem = rw e;
              };
        }

    -- granted: the change was enacted
    pub done_granted : (v : ℕ) (o : List ℕ) (h : Change) (area' : List ℕ) → verdict_on b area c x ≡ grant v o h
        → view b' ≡ enact_view h (view b) area → area' ≡ enact_area h (view b) area → Done b area c x (Ok v) b' area'
    unfolding book_left area_left answer_of value_of
    done_granted v o h area' e m n =
        record {
          answer_is = rw e;
          value_is = rw e;
          left = record { length_same = long; book_kept = λ g. absurd (false≢true (sym g ∙ ready.areas)); book_left_lem = λ g. rw e m; area_left_lem = rw e n };
        }
