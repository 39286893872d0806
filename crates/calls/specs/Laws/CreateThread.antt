-- Call 7: the verdict at each way out, and what the making leaves.
use Rattle.std.specs.Prelude.{ℕ, ◌&&◌, ◌≡◌, List, [], ◌∷◌, length, replicate, ⊤, Option, MatchOption, Result, Ok, Err}
use Rattle.std.specs.Option.{ok_or}
use Rattle.std.specs.Result.{IsErr, IsErrAnd}
use Rattle.std.proofs.Math.Bool.{true, false}
use Rattle.std.proofs.Math.Path.{refl, sym, ap₂, subst}
use Rattle.std.proofs.Common.{ap, ◌∙◌}
use Rattle.labels.specs.declared.Label.{Label}
use Rattle.labels.specs.Core as core
use Rattle.labels.specs.Core.Bytes.{label_of_length}
use Rattle.labels.specs.Core.Formed.{and_l, and_r}
use Rattle.rules.specs.Kernel.{thread_code, kind_code, flow, judge, good_arguments, good_label, good_text, text_size, thread_of, create_thread}
use Rattle.tables.specs.Layout.{view}
use Rattle.book.specs.declared.make.NewRow.{NewRow}
use Rattle.book.specs.Book.{next_of, label_of, clearance_of, world_of}
use Rattle.book.specs.Make.{object_of, Handed, Creating, created_in}
use Rattle.book.specs.Laws.Handed.{thread_handed, row_is_thread}
use Rattle.calls.specs.declared.Refusal.{Refusal}
use Rattle.calls.specs.declared.creating.NewLabels.{NewLabels}
use Rattle.calls.specs.declared.Refusal.TheVariants.{BadArgument}
use Rattle.calls.specs.Conditions.{tested}
use Rattle.calls.specs.Outcome.{verdict_on, Ready, Means, Done}
use Rattle.calls.specs.Begun.{Caller}
use Rattle.calls.specs.Lookup.{open_container}
use Rattle.calls.specs.Creating.{cleared_conditions, admitted, ToMake}
use Rattle.calls.specs.CreateThread.{new_thread, thread_row_of, ThreadJudged}
use Rattle.calls.specs.Laws.Arguments.{good_default, good_text_long, lent_long}
use Rattle.calls.specs.Laws.Begun.{caller_four, caller_label, caller_clearance}
use Rattle.calls.specs.Laws.Leave.{told, told_on, told_none}
use Rattle.calls.specs.Laws.Creating.{create_five, create_judged, creating, made_done}

module _ (w b area l k s : List ℕ) (c t d : ℕ) (same : w ≡ b) (by : Caller w area c t) where
  -- bad arguments: 4
  pub thread_four : (o : Option NewLabels) (well : NewLabels → Type 0)
      → MatchOption o ((good_label (next_of (view w)) true l && (good_label (next_of (view w)) false k && good_text s)) ≡ false) well
      → (f : Refusal) → ok_or o BadArgument ≡ Err f → (r : Result (ℕ × Label × Label) Refusal) → IsErr r × IsErrAnd r (λ y. y ≡ f) → ThreadJudged b area c d l k s r
  unfolding good_arguments
  thread_four o well h f e r on =
      subst (λ (z : List ℕ). ThreadJudged z area c d l k s r) same
      (told_none _ r on o well BadArgument h e (λ bad. told (caller_four w area c t by (create_thread d l k s) bad) by.ready))

  module _ (good : (good_label (next_of (view w)) true l && (good_label (next_of (view w)) false k && good_text s)) ≡ true) where
    arguments : good_arguments (next_of (view w)) (create_thread d l k s) ≡ true
    unfolding good_arguments
    arguments = good

    -- no container that is open: 5
    pub thread_five : (f : Refusal) → open_container (view w) t d ≡ Err f → (r : Result (ℕ × Label × Label) Refusal) → IsErr r × IsErrAnd r (λ y. y ≡ f) → ThreadJudged b area c d l k s r
    unfolding judge
    thread_five f shut r on =
        subst (λ (z : List ℕ). ThreadJudged z area c d l k s r) same
        (told_on _ r on (create_five w area c t by (create_thread d l k s) d (new_thread l k s)
        (flow (core.label_of l) (core.label_of k) ∷ flow (core.label_of k) ((world_of (view w) area).obj c).clearance ∷ []) arguments refl f shut))

    -- what the answer of admitting means, of a book with the bytes z
    abbrev answered : List ℕ → Result ℕ Refusal → Type 0
    answered z = Means z area (verdict_on z area c (create_thread d l k s)) (ToMake z area c (create_thread d l k s) d (new_thread l k s))

    -- one that is, at row `at`: what is shared decides
    module _ (at : ℕ) (o : open_container (view w) t d ≡ Ok at) (allowed : Result ⊤ Refusal)
        (e : allowed ≡ tested (cleared_conditions (label_of (view w) t) (clearance_of (view w) t) (core.label_of l) (core.label_of k))) where
      shared : (r : Result ℕ Refusal) → r ≡ admitted (view w) t at thread_code 1 allowed → answered b r
      unfolding judge thread_of kind_code
      shared r h =
          subst (λ (z : List ℕ). answered z r) same
          (create_judged w area c t by (create_thread d l k s) d (new_thread l k s)
          (flow (core.label_of l) (core.label_of k) ∷ flow (core.label_of k) ((world_of (view w) area).obj c).clearance ∷ []) arguments refl at o thread_code 1 allowed
          (record {
            of_kind_lem = refl;
            units = refl;
            conditions = ap₂ (λ (u w : Label). tested (cleared_conditions u w (core.label_of l) (core.label_of k))) (caller_label w area c t by) (caller_clearance w area c t by) ∙ sym e;
          })
          r h)

      -- which refuses,
      pub thread_refused : (g : Refusal) → admitted (view w) t at thread_code 1 allowed ≡ Err g
          → (r : Result (ℕ × Label × Label) Refusal) → IsErr r × IsErrAnd r (λ y. y ≡ g) → ThreadJudged b area c d l k s r
      thread_refused g h r on = told_on _ r on (shared (Err g) (sym h))

      -- or grants
      pub thread_granted : (j : ℕ) → admitted (view w) t at thread_code 1 allowed ≡ Ok j
          → (m n : Label) → m ≡ core.label_of l → n ≡ core.label_of k → ThreadJudged b area c d l k s (Ok (j, m, n))
      thread_granted j h m n em en = let (ready, go) = shared (Ok j) (sym h) in (ready, (go, em, en))

-- what its judging needs at each way out but the granted one
pub ruleset ways_out = (thread_four, thread_five, thread_refused, lent_long)

module _ (n : ℕ) (l k s : List ℕ) (d : ℕ) (good : good_arguments n (create_thread d l k s) ≡ true) where
  label_good : good_label n true l ≡ true
  unfolding good_arguments
  label_good = and_l (good_label n true l) (good_label n false k && good_text s) good

  rest_good : (good_label n false k && good_text s) ≡ true
  unfolding good_arguments
  rest_good = and_r (good_label n true l) (good_label n false k && good_text s) good

  clearance_good : good_label n false k ≡ true
  clearance_good = and_l (good_label n false k) (good_text s) rest_good

  module _ (row : NewRow) (label clearance : Label) (e : row ≡ thread_row_of label clearance) (f : label ≡ core.label_of l) (g : clearance ≡ core.label_of k) where
    row_is : row ≡ thread_row_of (core.label_of l) (core.label_of k)
    row_is = e ∙ ap₂ thread_row_of f g

    -- what is handed over is the thread
    pub thread_whole : Handed row s (replicate text_size 0)
    thread_whole =
        subst (λ (z : NewRow). Handed z s (replicate text_size 0)) (sym row_is)
        (thread_handed (core.label_of l) s (good_default n true l label_good) (label_of_length l) (good_text_long s (and_r (good_label n false k) (good_text s) rest_good))
        (core.label_of k) (good_default n false k clearance_good) (label_of_length k))

    pub thread_object : object_of row s (replicate text_size 0) ≡ new_thread l k s
    thread_object = ap (λ (z : NewRow). object_of z s (replicate text_size 0)) row_is ∙ row_is_thread (core.label_of l) (core.label_of k) s (replicate text_size 0)

    -- so it can be made, and the call is done by it
    module _ (w b area : List ℕ) (c at : ℕ) (same : w ≡ b) (ready : Ready b area) (go : ToMake b area c (create_thread d l k s) d (new_thread l k s) at) where
      pub thread_creating : Creating w at row s (replicate text_size 0)
      thread_creating = creating w b area c (create_thread d l k s) d (new_thread l k s) at same ready go row s (replicate text_size 0) thread_whole

      pub thread_done : (b' : List ℕ) → length b' ≡ length b → view b' ≡ created_in at (object_of row s (replicate text_size 0)) (view w) → (v : ℕ) → v ≡ next_of (view w)
          → Done b area c (create_thread d l k s) (Ok v) b' area
      thread_done b' long made =
          made_done w b area c (create_thread d l k s) d (new_thread l k s) at same ready go b' long (object_of row s (replicate text_size 0)) made thread_object
