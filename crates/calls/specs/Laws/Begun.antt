-- From what a call asks first to the verdict.
use denote.Ref.{Bor}
use Rattle.std.specs.Prelude.{ℕ, ◌<◌, true, false, ◌≡◌, refl, List, Option, Some, None, Result, Err, MatchOption}
use Rattle.std.specs.Option.{ok_or}
use Rattle.std.specs.Result.{IsErr, IsErrAnd}
use Rattle.std.proofs.Common.{arith, sym, ap, subst, ◌∙◌}
use Rattle.rules.specs.Kernel.{last_number, thread_code, Obj, refuse, Call, judge, is_thread, good_arguments}
use Rattle.tables.specs.Layout.{view}
use Rattle.book.specs.Book.{next_of, code_of, label_of, clearance_of, object_at, world_of}
use Rattle.book.specs.Find.{thread_row}
use Rattle.book.specs.Placed.{Placed}
use Rattle.book.specs.Sound.{Sound}
use Rattle.book.specs.Test.{areas_b}
use Rattle.book.specs.Laws.Find.{kind_is, thread_found, thread_none}
use Rattle.book.specs.Laws.Tie.{object_label, object_clearance}
use Rattle.book.specs.Laws.WorldSound.{placed}
use Rattle.calls.specs.declared.Refusal.{Refusal}
use Rattle.calls.specs.declared.Refusal.TheVariants.{BadArea, NumbersEnded, NoCaller}
use Rattle.calls.specs.Outcome.{verdict_on, Ready, Told}
use Rattle.calls.specs.Begun.{Caller, BegunAs}
use Rattle.calls.specs.Laws.Leave.{handed_on, told, told_early}
use Rattle.calls.specs.Laws.Prelude.{book_sound, verdict_one, verdict_two, verdict_three, verdict_four, verdict_judged}
use Rattle.calls.specs.Laws.Ways.{same_reason, not_both, found_none}

-- ---- the refusals

module _ (b area : List ℕ) (c : ℕ) where
  -- a `?` hands on one that is right
  begun_on : (r : Result (Bor (List ℕ) × ℕ) Refusal) (f : Refusal) → IsErr r × IsErrAnd r (λ e. e ≡ f) → ((x : Call) → Told b area (verdict_on b area c x) f) → BegunAs b area c r
  begun_on r f h t = subst (BegunAs b area c) (sym (handed_on r f h)) t

  -- no good areas: 1
  pub no_areas : (o : Option (Bor (List ℕ))) (good : Bor (List ℕ) → Type 0) → MatchOption o (areas_b b area ≡ false) good → (f : Refusal) → ok_or o BadArea ≡ Err f
      → (r : Result (Bor (List ℕ) × ℕ) Refusal) → IsErr r × IsErrAnd r (λ e. e ≡ f) → BegunAs b area c r
  no_areas (Some w) good h f e r k = absurd (not_both w f e)
  no_areas None good h f e r k =
      begun_on r f k (λ x. subst (Told b area (verdict_on b area c x)) (same_reason BadArea f e) (told_early refl (verdict_one b area c x h)))

  -- no number left: 2
  pub no_number : areas_b b area ≡ true → last_number < next_of (view b) → (x : Call) → Told b area (verdict_on b area c x) NumbersEnded
  no_number e l x = told_early refl (verdict_two b area c x e l)

  -- nobody: 3
  pub no_caller : Ready b area → (f : Refusal) → ok_or (thread_row (view b) c) NoCaller ≡ Err f
      → (r : Result (Bor (List ℕ) × ℕ) Refusal) → IsErr r × IsErrAnd r (λ e. e ≡ f) → BegunAs b area c r
  no_caller ready f e r k =
      let (n, q) = found_none (thread_row (view b) c) NoCaller f e in
      begun_on r f k (λ x. subst (Told b area (verdict_on b area c x)) (sym q) (told (verdict_three b area c x ready (thread_none (view b) area c n)) ready))

-- what begin needs where it refuses
pub ruleset ways_out = (no_areas, no_number, no_caller)

-- what is known of the caller
module _ (b area : List ℕ) (c t : ℕ) (by : Caller b area c t) where
  pub sound_by_caller : Sound (view b)
  sound_by_caller = book_sound b area by.ready.areas

  pub placed_by_caller : Placed (view b)
  placed_by_caller = placed (view b) sound_by_caller

  pub caller_is_thread : is_thread ((world_of (view b) area).obj c).kind ≡ true
  caller_is_thread = (thread_found (view b) area c t by.row).0

  pub caller_object : (world_of (view b) area).obj c ≡ object_at (view b) area t
  caller_object = (thread_found (view b) area c t by.row).1

  caller_code : code_of (view b) t ≡ thread_code
  caller_code = (kind_is thread_code (view b) c t by.row).1

  -- its label and clearance are those of its row
  pub caller_label : ((world_of (view b) area).obj c).label ≡ label_of (view b) t
  caller_label = ap (λ (o : Obj). o.label) caller_object ∙ object_label (view b) area t

  pub caller_clearance : ((world_of (view b) area).obj c).clearance ≡ clearance_of (view b) t
  caller_clearance =
      ap (λ (o : Obj). o.clearance) caller_object
      ∙ object_clearance (view b) area t (λ z. omega (arith, caller_code)) (omega (arith, caller_code))

  module _ (x : Call) where
    pub caller_four : good_arguments (next_of (view b)) x ≡ false → verdict_on b area c x ≡ refuse 4
    caller_four = verdict_four b area c x by.ready caller_is_thread

    pub caller_judged : good_arguments (next_of (view b)) x ≡ true → verdict_on b area c x ≡ judge (world_of (view b) area) ((world_of (view b) area).obj c) c x
    caller_judged = verdict_judged b area c x by.ready caller_is_thread
