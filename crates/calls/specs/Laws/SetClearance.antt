-- Call 3: the verdict at each way out of its judging.
use Rattle.std.specs.Prelude.{ℕ, true, false, ◌≡◌, Option, MatchOption, Result, Err, Ok}
use Rattle.std.specs.Option.{ok_or}
use Rattle.std.proofs.Common.{sym, ◌∙◌}
use Rattle.std.proofs.Math.Path.{ap₂}
use mathlib.Core.List.{List, [], ◌∷◌}
use Rattle.labels.specs.declared.Label.{Label}
use Rattle.labels.specs.declared.LabelRef.{LabelRef}
use Rattle.labels.specs.Core as label
use Rattle.rules.specs.Kernel.{grant, must_hold, judge, flow, flow_join_high, set_clearance, alter, relabel, good_label, good_arguments}
use Rattle.tables.specs.Layout.{view}
use Rattle.book.specs.Book.{next_of, label_of, clearance_of}
use Rattle.calls.specs.declared.Refusal.{Refusal}
use Rattle.calls.specs.Outcome.{verdict_on}
use Rattle.calls.specs.Conditions.{passed, tested}
use Rattle.calls.specs.Begun.{Caller}
use Rattle.calls.specs.SetClearance.{ClearanceJudged}
use Rattle.calls.specs.Laws.Arguments.{good_default, lent_long}
use Rattle.calls.specs.Laws.Begun.{caller_four, caller_judged, caller_label, caller_clearance}
use Rattle.calls.specs.Laws.Conditions.{pass_on, fail_told}
use Rattle.calls.specs.Laws.Relabel.{caller_row, caller_label_fits}
use Rattle.std.specs.Result.{IsErr, IsErrAnd}
use Rattle.calls.specs.Laws.Leave.{told, told_on, told_none}
use Rattle.calls.specs.declared.Refusal.TheVariants.{BadArgument}

module _ (b area : List ℕ) (c t : ℕ) (l : List ℕ) (book : List ℕ) (lent : book ≡ b) (by : Caller book area c t) where
  -- malformed: 4
  pub clearance_four : (o : Option LabelRef) (well : LabelRef → Type 0) → MatchOption o (good_label (next_of (view book)) false l ≡ false) well
      → (f : Refusal) → ok_or o BadArgument ≡ Err f → (r : Result (ℕ × Label) Refusal) → IsErr r × IsErrAnd r (λ e. e ≡ f) → ClearanceJudged b area c l r
  unfolding good_arguments
  clearance_four o well h f e r k = rw (sym lent) (told_none _ r k o well BadArgument h e (λ g. told (caller_four book area c t by (set_clearance l) g) by.ready))

  module _ (good : good_label (next_of (view book)) false l ≡ true) where
    judged : verdict_on book area c (set_clearance l)
        ≡ must_hold (flow (label_of (view book) t) (label.label_of l) ∷ flow_join_high (label.label_of l) (clearance_of (view book) t) (label_of (view book) t) ∷ [])
        (grant 0 [] (alter c (relabel (label_of (view book) t) (label.label_of l))))
    unfolding judge good_arguments
    judged =
        caller_judged book area c t by (set_clearance l) good
        ∙ ap₂ (λ (x y : Label). must_hold (flow x (label.label_of l) ∷ flow_join_high (label.label_of l) y x ∷ []) (grant 0 [] (alter c (relabel x (label.label_of l)))))
        (caller_label book area c t by)
        (caller_clearance book area c t by)

    -- a condition fails: 7
    pub clearance_seven : (f : Refusal)
        → tested (flow (label_of (view book) t) (label.label_of l) ∷ flow_join_high (label.label_of l) (clearance_of (view book) t) (label_of (view book) t) ∷ []) ≡ Err f
        → (r : Result (ℕ × Label) Refusal) → IsErr r × IsErrAnd r (λ e. e ≡ f) → ClearanceJudged b area c l r
    clearance_seven f e r h = rw (sym lent) (told_on _ r h (fail_told book area _ _ _ f judged e by.ready))

    -- granted
    pub to_set_clearance : (m : Label) → m ≡ label.label_of l
        → tested (flow (label_of (view book) t) (label.label_of l) ∷ flow_join_high (label.label_of l) (clearance_of (view book) t) (label_of (view book) t) ∷ []) ≡ passed
        → ClearanceJudged b area c l (Ok (t, m))
    to_set_clearance m same e =
        rw (sym lent) (rw same (
          by.ready,
          record {
            granted = judged ∙ pass_on _ _ e;
            row = caller_row book area c t by;
            label_fits = caller_label_fits book area c t by;
            clearance_fits = good_default (next_of (view book)) false l good;
          },
        ))

-- what its judging needs at each way out but the granted one
pub ruleset ways_out = (clearance_four, clearance_seven, lent_long)
