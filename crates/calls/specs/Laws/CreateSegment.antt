-- Call 5: the verdict at each way out, and what the making leaves.
use Rattle.std.specs.Prelude.{ℕ, ◌<◌, true, ◌&&◌, ◌≡◌, List, [], ◌∷◌, length, replicate, ⊤, Option, MatchOption, Result, Ok, Err}
use Rattle.std.proofs.Common.{arith, ap, ◌∙◌, leb-true}
use Rattle.std.specs.Option.{ok_or}
use Rattle.std.specs.Result.{IsErr, IsErrAnd}
use Rattle.std.proofs.Math.Bool.{false}
use Rattle.std.proofs.Math.Path.{refl, sym, ap₂, subst}
use Rattle.std.proofs.Math.Dec.{leb}
use Rattle.labels.specs.declared.Label.{Label}
use Rattle.labels.specs.declared.LabelRef.{LabelRef}
use Rattle.labels.specs.Core as core
use Rattle.labels.specs.Core.Bytes.{label_of_length}
use Rattle.labels.specs.Core.Formed.{and_l, and_r}
use Rattle.rules.specs.Kernel.{segment_code, kind_code, flow, judge, good_arguments, good_label, good_text, max_quota, text_size, or_default, segment_default, segment_of, create_segment}
use Rattle.tables.specs.Layout.{view}
use Rattle.book.specs.declared.make.NewRow.{NewRow}
use Rattle.book.specs.Book.{next_of, label_of, clearance_of, world_of}
use Rattle.book.specs.Make.{object_of, Handed, Creating, created_in}
use Rattle.book.specs.Laws.Handed.{segment_handed, row_is_segment}
use Rattle.calls.specs.declared.Refusal.{Refusal}
use Rattle.calls.specs.declared.Refusal.TheVariants.{BadArgument}
use Rattle.calls.specs.Outcome.{verdict_on, Ready, Means, Done}
use Rattle.calls.specs.Conditions.{tested}
use Rattle.calls.specs.Begun.{Caller}
use Rattle.calls.specs.Lookup.{open_container}
use Rattle.calls.specs.Creating.{plain_conditions, admitted, ToMake}
use Rattle.calls.specs.CreateSegment.{new_segment, segment_row, SegmentJudged}
use Rattle.calls.specs.Laws.Arguments.{good_default, good_text_long, lent_long}
use Rattle.calls.specs.Laws.Begun.{caller_four, caller_label, caller_clearance}
use Rattle.calls.specs.Laws.Leave.{told, told_on, told_none}
use Rattle.calls.specs.Laws.Creating.{create_five, create_judged, default_most, creating, made_done}

module _ (w b area l s : List ℕ) (c t d q : ℕ) (same : w ≡ b) (by : Caller w area c t) where
  -- bad arguments: 4
  pub segment_four : (o : Option LabelRef) (well : LabelRef → Type 0)
      → MatchOption o ((good_label (next_of (view w)) false l && (good_text s && leb q max_quota)) ≡ false) well → (f : Refusal) → ok_or o BadArgument ≡ Err f
      → (r : Result (ℕ × Label) Refusal) → IsErr r × IsErrAnd r (λ y. y ≡ f) → SegmentJudged b area c d l s q r
  unfolding good_arguments
  segment_four o well h f e r on =
      subst (λ (z : List ℕ). SegmentJudged z area c d l s q r) same
      (told_none _ r on o well BadArgument h e (λ bad. told (caller_four w area c t by (create_segment d l s q) bad) by.ready))

  module _ (good : (good_label (next_of (view w)) false l && (good_text s && leb q max_quota)) ≡ true) where
    arguments : good_arguments (next_of (view w)) (create_segment d l s q) ≡ true
    unfolding good_arguments
    arguments = good

    -- no container that is open: 5
    pub segment_five : (f : Refusal) → open_container (view w) t d ≡ Err f → (r : Result (ℕ × Label) Refusal) → IsErr r × IsErrAnd r (λ y. y ≡ f) → SegmentJudged b area c d l s q r
    unfolding judge
    segment_five f shut r on =
        subst (λ (z : List ℕ). SegmentJudged z area c d l s q r) same
        (told_on _ r on (create_five w area c t by (create_segment d l s q) d (new_segment l s q)
        (flow (core.label_of l) ((world_of (view w) area).obj c).clearance ∷ []) arguments refl f shut))

    -- what the answer of admitting means, of a book with the bytes z
    abbrev answered : List ℕ → Result ℕ Refusal → Type 0
    answered z = Means z area (verdict_on z area c (create_segment d l s q)) (ToMake z area c (create_segment d l s q) d (new_segment l s q))

    -- one that is, at row `at`: what is shared decides
    module _ (at : ℕ) (o : open_container (view w) t d ≡ Ok at) (allowed : Result ⊤ Refusal)
        (e : allowed ≡ tested (plain_conditions (label_of (view w) t) (clearance_of (view w) t) (core.label_of l)))
        (units : ℕ) (f : units ≡ or_default q segment_default) where
      shared : (r : Result ℕ Refusal) → r ≡ admitted (view w) t at segment_code units allowed → answered b r
      unfolding judge segment_of kind_code
      shared r h =
          subst (λ (z : List ℕ). answered z r) same
          (create_judged w area c t by (create_segment d l s q) d (new_segment l s q)
          (flow (core.label_of l) ((world_of (view w) area).obj c).clearance ∷ []) arguments refl at o segment_code units allowed
          (record {
            of_kind_lem = refl;
            units = sym f;
            conditions = ap₂ (λ (m k : Label). tested (plain_conditions m k (core.label_of l))) (caller_label w area c t by) (caller_clearance w area c t by) ∙ sym e;
          })
          r h)

      -- which refuses,
      pub segment_refused : (g : Refusal) → admitted (view w) t at segment_code units allowed ≡ Err g
          → (r : Result (ℕ × Label) Refusal) → IsErr r × IsErrAnd r (λ y. y ≡ g) → SegmentJudged b area c d l s q r
      segment_refused g h r on = told_on _ r on (shared (Err g) (sym h))

      -- or grants
      pub segment_granted : (i : ℕ) → admitted (view w) t at segment_code units allowed ≡ Ok i → (n : Label) → n ≡ core.label_of l → SegmentJudged b area c d l s q (Ok (i, n))
      segment_granted i h n same = let (ready, go) = shared (Ok i) (sym h) in (ready, (go, same))

-- what its judging needs at each way out but the granted one
pub ruleset ways_out = (segment_four, segment_five, segment_refused, lent_long)

module _ (n : ℕ) (l s : List ℕ) (d q : ℕ) (good : good_arguments n (create_segment d l s q) ≡ true) where
  label_good : good_label n false l ≡ true
  unfolding good_arguments
  label_good = and_l (good_label n false l) (good_text s && leb q max_quota) good

  rest_good : (good_text s && leb q max_quota) ≡ true
  unfolding good_arguments
  rest_good = and_r (good_label n false l) (good_text s && leb q max_quota) good

  -- the quota fits its field
  pub segment_quota_low : (m : ℕ) → m ≡ or_default q segment_default → m < 65536
  segment_quota_low m e =
      let h = default_most q segment_default max_quota (leb-true q max_quota (and_r (good_text s) (leb q max_quota) rest_good)) (omega arith) in
      omega arith

  module _ (row : NewRow) (label : Label) (m : ℕ) (e : row ≡ segment_row label m) (f : label ≡ core.label_of l) (g : m ≡ or_default q segment_default) where
    row_is : row ≡ segment_row (core.label_of l) (or_default q segment_default)
    row_is = e ∙ ap₂ segment_row f g

    -- what is handed over is the segment
    pub segment_whole : Handed row s (replicate text_size 0)
    segment_whole =
        subst (λ (z : NewRow). Handed z s (replicate text_size 0)) (sym row_is)
        (segment_handed (core.label_of l) s (good_default n false l label_good) (label_of_length l) (good_text_long s (and_l (good_text s) (leb q max_quota) rest_good)) (or_default q segment_default))

    pub segment_object : object_of row s (replicate text_size 0) ≡ new_segment l s q
    segment_object = ap (λ (z : NewRow). object_of z s (replicate text_size 0)) row_is ∙ row_is_segment (core.label_of l) (or_default q segment_default) s (replicate text_size 0)

    -- so it can be made, and the call is done by it
    module _ (w b area : List ℕ) (c i : ℕ) (same : w ≡ b) (ready : Ready b area) (go : ToMake b area c (create_segment d l s q) d (new_segment l s q) i) where
      pub segment_creating : Creating w i row s (replicate text_size 0)
      segment_creating = creating w b area c (create_segment d l s q) d (new_segment l s q) i same ready go row s (replicate text_size 0) segment_whole

      pub segment_done : (b' : List ℕ) → length b' ≡ length b → view b' ≡ created_in i (object_of row s (replicate text_size 0)) (view w) → (v : ℕ) → v ≡ next_of (view w)
          → Done b area c (create_segment d l s q) (Ok v) b' area
      segment_done b' long made =
          made_done w b area c (create_segment d l s q) d (new_segment l s q) i same ready go b' long (object_of row s (replicate text_size 0)) made segment_object

-- what is asked of the arguments where it is made
pub ruleset arguments_fit = (segment_quota_low)
