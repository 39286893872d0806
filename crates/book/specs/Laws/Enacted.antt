-- A change of the rules is made on the book: its world becomes the changed world, positions stay in order and tables keep their lengths. Then the book
-- stays sound, and here are the changes that alter nothing or one row.
use Rattle.std.specs.Prelude.{ℕ, ◌≤◌, true, ◌≡◌, List, Some}
use Rattle.std.proofs.Common.{arith, sym, ◌∙◌, ap₂, subst}
use Rattle.std.proofs.Math.Path.{ap}
use borrow.Author.Tests.{eqb-true, le-leb}
use Rattle.labels.specs.declared.Label.{Label}
use Rattle.rules.specs.Kernel.{thread_code, segment_code, is_live, is_thread, is_segment, is_container, Edit, relabel, fix, requota, Change, keep, alter, apply, last_number}
use Rattle.rules.specs.Sound as W
use Rattle.rules.specs.Fair.{Fair}
use Rattle.rules.proofs.Laws.Bools.{or_cases}
use Rattle.rules.proofs.Laws.Kinds.{thread_live, segment_live, container_live}
use Rattle.rules.proofs.Laws.Keep.{keep_sound}
use Rattle.tables.specs.Layout.{View}
use Rattle.book.specs.Book.{next_of, id_of, code_of, row_of, world_of}
use Rattle.book.specs.Sound.{Live, Sound}
use Rattle.book.specs.Placed.{Placed}
use Rattle.book.specs.Shape.{Shape}
use Rattle.book.specs.Enact.{moved_on, altered_view, altered_area, enact_view, enact_area}
use Rattle.book.specs.Laws.First.{on_at}
use Rattle.book.specs.Laws.Tie.{row_found, world_next, live_row_lem, thread_at, segment_at}
use Rattle.book.specs.Laws.WorldSound.{placed, world_sound}
use Rattle.book.specs.Laws.SoundBy.{sound_by}
use Rattle.book.specs.Laws.Alter.{moved_placed, moved_shape, keep_world, relabelled_placed, relabelled_shape, relabelled_world, fixed_placed, fixed_shape, fixed_world}
use Rattle.book.specs.Laws.Alter.{requotaed_placed, requotaed_shape, requotaed_world}

-- what a change leaves of a book and its data area
pub record Enacted (h : Change) (v : View) (area : List ℕ) : Type 0 where
  pub world : world_of (enact_view h v area) (enact_area h v area) ≡ apply h (world_of v area)
  pub placed : Placed (enact_view h v area)
  pub shape : Shape (enact_view h v area)

module _ (v : View) (area : List ℕ) (s : Sound v) (z : Shape v) where
  -- While the numbers last, a fair change of a sound book leaves it sound.
  pub enacted_sound : (h : Change) → next_of v ≤ last_number → Fair (world_of v area) h → Enacted h v area → Sound (enact_view h v area)
  enacted_sound h n f x =
      sound_by (enact_view h v area) (enact_area h v area) x.placed
      (subst W.Sound (sym x.world)
      (keep_sound (world_of v area) (world_sound v area z s) (le-leb (world_of v area).next last_number (omega (arith, world_next v area))) h f))

  -- Where nothing is changed, the number moves on.
  pub keep_enacted : Enacted keep v area
  unfolding enact_view enact_area
  keep_enacted = record { world = keep_world v area z; placed = moved_placed v (placed v s); shape = moved_shape v z }

-- Where an object is altered, its row is.
module _ (v : View) (area : List ℕ) (o r : ℕ) (e : Edit) (h : row_of v o ≡ Some r) where
  pub alter_view : enact_view (alter o e) v area ≡ moved_on (altered_view e r v)
  unfolding enact_view
  alter_view = on_at (row_of v o) r (λ i. moved_on (altered_view e i v)) (moved_on v) h

  pub alter_area : enact_area (alter o e) v area ≡ altered_area e r v area
  unfolding enact_area
  alter_area = on_at (row_of v o) r (λ i. altered_area e i v area) area h

  -- So it is enough to show what that row's change leaves.
  pub alter_enacted : world_of (moved_on (altered_view e r v)) (altered_area e r v area) ≡ apply (alter o e) (world_of v area)
      → Placed (altered_view e r v) → Shape (altered_view e r v) → Enacted (alter o e) v area
  alter_enacted w p z =
      record {
        world = ap₂ world_of alter_view alter_area ∙ w;
        placed = subst Placed (sym alter_view) (moved_placed (altered_view e r v) p);
        shape = subst Shape (sym alter_view) (moved_shape (altered_view e r v) z);
      }

module _ (v : View) (area : List ℕ) (s : Sound v) (o : ℕ) where
  -- The row of a live object,
  pub at_row : {C : Type 0} → is_live ((world_of v area).obj o).kind ≡ true → ((r : ℕ) → Live v r → id_of v r ≡ o → row_of v o ≡ Some r → C) → C
  at_row t k =
      let (r, a, i) = live_row_lem v area o t in
      k r a i (ap (row_of v) (sym i) ∙ row_found v (placed v s) r a)

  -- and the code there of a segment.
  pub segment_code_lem : (r : ℕ) → Live v r → id_of v r ≡ o → is_segment ((world_of v area).obj o).kind ≡ true → code_of v r ≡ segment_code
  segment_code_lem r a i e =
      eqb-true (code_of v r) segment_code (sym (segment_at v area (placed v s) r a) ∙ ap (λ (n : ℕ). is_segment ((world_of v area).obj n).kind) i ∙ e)

module _ (v : View) (area : List ℕ) (s : Sound v) (z : Shape v) (o : ℕ) where
  -- A thread gets new labels;
  pub relabel_enacted : (l c : Label) → Fair (world_of v area) (alter o (relabel l c)) → Enacted (alter o (relabel l c)) v area
  unfolding altered_view altered_area
  relabel_enacted l c f =
      at_row v area s o (thread_live ((world_of v area).obj o).kind f.is_thread_lem) (λ r a i h.
      let k = eqb-true (code_of v r) thread_code (sym (thread_at v area (placed v s) r a) ∙ ap (λ (n : ℕ). is_thread ((world_of v area).obj n).kind) i ∙ f.is_thread_lem) in
      alter_enacted v area o r (relabel l c) h
      (relabelled_world v area (placed v s) z r a l c (omega arith) f.label_words_lem f.clearance_words ∙ ap (λ (n : ℕ). apply (alter n (relabel l c)) (world_of v area)) i)
      (relabelled_placed v r l c (placed v s))
      (relabelled_shape v z r l c))

  -- a segment's quota is fixed;
  pub fix_enacted : Fair (world_of v area) (alter o fix) → Enacted (alter o fix) v area
  unfolding altered_view altered_area
  fix_enacted f =
      at_row v area s o (segment_live ((world_of v area).obj o).kind f) (λ r a i h.
      alter_enacted v area o r fix h
      (fixed_world v area (placed v s) z r a (segment_code_lem v area s o r a i f) ∙ ap (λ (n : ℕ). apply (alter n fix) (world_of v area)) i)
      (fixed_placed v r z (placed v s))
      (fixed_shape v z r))

  -- a quota is moved.
  pub requota_enacted : (q : ℕ) → Fair (world_of v area) (alter o (requota q)) → Enacted (alter o (requota q)) v area
  unfolding altered_view altered_area
  requota_enacted q f =
      at_row v area s o (or_cases (is_segment ((world_of v area).obj o).kind) (is_container ((world_of v area).obj o).kind) f.movable
      (segment_live ((world_of v area).obj o).kind) (container_live ((world_of v area).obj o).kind)) (λ r a i h.
      alter_enacted v area o r (requota q) h
      (requotaed_world v area (placed v s) z r a q ∙ ap (λ (n : ℕ). apply (alter n (requota q)) (world_of v area)) i)
      (requotaed_placed v r q (placed v s))
      (requotaed_shape v z r q))
