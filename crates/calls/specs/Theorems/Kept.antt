-- Whatever a call leaves, it leaves good areas good, and their world is the rules' world after the call.
use Rattle.std.specs.Prelude.{ℕ, ◌≤◌, true, false, ◌≡◌, refl, List}
use Rattle.std.proofs.Common.{arith, subst, ◌∙◌}
use Rattle.std.proofs.Math.Path.{sym, ap, ap₂}
use Rattle.std.proofs.Math.ListN.{length}
use Rattle.std.proofs.Math.Dec.{leb}
use borrow.Author.Tests.{eq-eqb, leb-true}
use Rattle.rules.specs.Kernel.{Call, Edit, relabel, fix, requota, rewrite, Change, keep, alter, create, cut, link, Refusal, by, number_of, Verdict, refused, grant, call, tests}
use Rattle.rules.specs.Kernel.{after, leaves, apply, last_number}
use Rattle.rules.specs.Fair.{Fair}
use Rattle.rules.proofs.Laws.Bools.{bool_cases, not_both}
use Rattle.rules.proofs.Laws.Grants.{grants_fair}
use Rattle.rules.proofs.Laws.Must.{passed}
use Rattle.tables.specs.Layout.{View, view, size}
use Rattle.book.specs.Book.{next_of, row_of, world_of}
use Rattle.book.specs.Sound.{Sound}
use Rattle.book.specs.Enact.{area_size, enact_view, enact_area, altered_area, area_after, cut_area}
use Rattle.book.specs.Test.{areas_b}
use Rattle.book.specs.Laws.First.{collect_length, found_cases, on_at, on_nothing}
use Rattle.book.proofs.Laws.Means.{sound_means}
use Rattle.book.specs.Laws.Shapes.{view_shape}
use Rattle.book.specs.Laws.Enacted.{enacted_sound}
use Rattle.book.specs.Laws.Every.{Storable, every_enacted}
use Rattle.book.specs.Laws.Tie.{world_next}
use Rattle.calls.specs.Outcome.{verdict_on, book_left, area_left, Left}
use Rattle.calls.specs.Laws.Prelude.{book_sound, is_sound, book_long, area_long, must_passed, must_failed}
use Rattle.calls.specs.Laws.Storable.{call_storable}

-- ---- the data area keeps its length

altered_long : (e : Edit) (r : ℕ) (v : View) (area : List ℕ) → length area ≡ area_size → length (altered_area e r v area) ≡ area_size
unfolding altered_area area_after
altered_long (relabel l c) r v area g = g
altered_long fix r v area g = g
altered_long (requota q) r v area g = g
altered_long (rewrite b) r v area g = collect_length area_size _

enact_long : (h : Change) (v : View) (area : List ℕ) → length area ≡ area_size → length (enact_area h v area) ≡ area_size
unfolding enact_area cut_area
enact_long keep v area g = g
enact_long (alter o e) v area g =
    found_cases (row_of v o)
    (λ r q. ap length (on_at (row_of v o) r (λ i. altered_area e i v area) area q) ∙ altered_long e r v area g)
    (λ q. ap length (on_nothing (row_of v o) (λ i. altered_area e i v area) area q) ∙ g)
enact_long (create d x) v area g = g
enact_long (cut d o) v area g = collect_length area_size _
enact_long (link d o) v area g = g

-- ---- what a verdict leaves of good areas

-- the book, its tables and its world
record LeftBy (b area : List ℕ) (v : Verdict) : Type 0 where
  sound : Sound (book_left v (view b) area)
  world : world_of (book_left v (view b) area) (area_left v (view b) area) ≡ leaves v (world_of (view b) area)
  long : length (area_left v (view b) area) ≡ area_size

module _ (b area : List ℕ) (good : areas_b b area ≡ true) (c : ℕ) (x : Call) where
  -- of good areas the verdict is the rules'
  pub verdict_is : verdict_on b area c x ≡ call (world_of (view b) area) c x
  unfolding verdict_on
  verdict_is = must_passed _ 1 _ good

  -- a change that is fair and can be stored
  enacted : (h : Change) → next_of (view b) ≤ last_number → Fair (world_of (view b) area) h → Storable h
      → (Sound (enact_view h (view b) area)) × (world_of (enact_view h (view b) area) (enact_area h (view b) area) ≡ apply h (world_of (view b) area))
  enacted h n f t =
      let s = book_sound b area good in
      let z = view_shape b in
      let k = every_enacted (view b) area s z h f t in
      (enacted_sound (view b) area s z h n f k, k.world)

  -- a refusal after 2 says that the numbers have not ended
  going : (f : Refusal) → call (world_of (view b) area) c x ≡ refused f → leb (number_of f) 2 ≡ false → next_of (view b) ≤ last_number
  unfolding call world_of
  going f e n =
      bool_cases (leb (next_of (view b)) last_number)
      (λ t. leb-true (next_of (view b)) last_number t)
      (λ t. let q : by 2 ≡ f = (let r = sym (must_failed _ 2 (tests (world_of (view b) area) c x) t) ∙ e in cc) in
      not_both (leb (number_of f) 2) (ap (λ (i : Refusal). leb (number_of i) 2) (sym q)) n)

  -- stopped: nothing changed
  left_stopped : (f : Refusal) → leb (number_of f) 2 ≡ true → LeftBy b area (refused f)
  unfolding book_left area_left leaves
  left_stopped f q = record { sound = rw q (book_sound b area good); world = rw q; long = area_long b area good }

  -- refused: the number moved on
  left_refused : (f : Refusal) → call (world_of (view b) area) c x ≡ refused f → leb (number_of f) 2 ≡ false → LeftBy b area (refused f)
  unfolding book_left area_left leaves enact_view enact_area
  left_refused f e q =
      let (s, w) = enacted keep (going f e q) tt tt in
      record { sound = rw q s; world = rw q w; long = area_long b area good }

  left_by : (v : Verdict) → call (world_of (view b) area) c x ≡ v → LeftBy b area v
  unfolding book_left area_left leaves
  left_by (refused f) e = bool_cases (leb (number_of f) 2) (left_stopped f) (left_refused f e)
  left_by (grant v o h) e =
      let p = passed (world_of (view b) area) c x v o h e in
      let n : next_of (view b) ≤ last_number = omega (arith, leb-true (world_of (view b) area).next last_number p.number, world_next (view b) area) in
      let (s, w) = enacted h n (grants_fair (world_of (view b) area) (is_sound b area good) c p.caller x p.arguments v o h p.judged) (call_storable (world_of (view b) area) c x v o h e) in
      record { sound = s; world = w; long = enact_long h (view b) area (area_long b area good) }

  left : LeftBy b area (verdict_on b area c x)
  left = subst (LeftBy b area) (sym verdict_is) (left_by (call (world_of (view b) area) c x) refl)

  module _ (b' area' : List ℕ) (l : Left b area c x b' area') where
    -- Good areas stay good, granted or refused.
    pub stays_good : areas_b b' area' ≡ true
    unfolding areas_b
    stays_good =
        rw (
          eq-eqb (length b') size (l.length_same ∙ book_long b area good),
          eq-eqb (length area') area_size (ap length l.area_left_lem ∙ left.long),
        )
        ((sound_means (view b')).1 (subst Sound (sym (l.book_left_lem good)) left.sound))

    -- And the world that they spell then is the rules' world after the call.
    pub world_after_lem : world_of (view b') area' ≡ after (world_of (view b) area) c x
    unfolding after
    world_after_lem =
        ap₂ world_of (l.book_left_lem good) l.area_left_lem
        ∙ (left.world ∙ ap (λ (v : Verdict). leaves v (world_of (view b) area)) verdict_is)
