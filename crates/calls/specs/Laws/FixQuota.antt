-- Call 10: the verdict at each way out of its judging, and what it does.
use Rattle.std.specs.Prelude.{ℕ, ◌≤◌, ◌≡◌, length, Ok, Err, Result}
use Rattle.std.proofs.Math.Path.{refl, sym}
use Rattle.std.proofs.Common.{ap, ◌∙◌}
use mathlib.Core.List.{List, [], ◌∷◌, ◌++◌}
use Rattle.rules.specs.Kernel.{segment_code, World, Obj, Condition, grant, must, must_hold, judge, entry, is_segment, writing, flow, fix_quota, alter, fix, good_arguments, last_number}
use Rattle.tables.specs.Layout.{view}
use Rattle.book.specs.Book.{next_of, code_of, label_of, world_of}
use Rattle.book.specs.Enact.{moved_on, fixed_at, altered_view, altered_area}
use Rattle.book.specs.Laws.Enacted.{alter_view, alter_area}
use Rattle.calls.specs.declared.Refusal.{Refusal}
use Rattle.book.specs.declared.find.Entry.{Entry}
use Rattle.calls.specs.Outcome.{verdict_on, Ready, Told, Done}
use Rattle.calls.specs.Conditions.{passed, tested}
use Rattle.calls.specs.Begun.{Caller}
use Rattle.calls.specs.Lookup.{open_entry}
use Rattle.calls.specs.FixQuota.{ToFix, FixJudged}
use Rattle.calls.specs.Laws.Begun.{caller_judged, caller_label}
use Rattle.calls.specs.Laws.Conditions.{pass_on, fail_told}
use Rattle.calls.specs.Laws.Entry.{no_entry_told, is_entry, object_found, segment_here, no_segment, container_label, its_label}
use Rattle.calls.specs.Laws.Prelude.{must_passed, must_failed, done_granted}
use Rattle.std.specs.Result.{IsErr, IsErrAnd}
use Rattle.calls.specs.Laws.Leave.{told, told_on}
use Rattle.calls.specs.declared.Refusal.TheVariants.{WrongKind}

abbrev conditions_of : World → Obj → ℕ → ℕ → List Condition
conditions_of w t d o = writing t.label (w.obj d).label ++ (flow t.label (w.obj o).label ∷ [])

module _ (b area : List ℕ) (c t d o : ℕ) (book : List ℕ) (lent : book ≡ b) (by : Caller book area c t) where
  judged : verdict_on book area c (fix_quota d o)
      ≡ must (entry (world_of (view book) area) ((world_of (view book) area).obj c) d o) 5
      (must (is_segment ((world_of (view book) area).obj o).kind) 6
      (must_hold (conditions_of (world_of (view book) area) ((world_of (view book) area).obj c) d o)
      (grant 0 [] (alter o fix))))
  unfolding judge good_arguments
  judged = caller_judged book area c t by (fix_quota d o) refl

  -- no entry: 5
  pub fix_five : (f : Refusal) → open_entry (view book) t d o ≡ Err f → (r : Result ℕ Refusal) → IsErr r × IsErrAnd r (λ e. e ≡ f) → FixJudged b area c d o r
  fix_five f e r h = rw (sym lent) (told_on _ r h (no_entry_told book area c t d o by _ _ judged f e))

  module _ (p : Entry) (e : open_entry (view book) t d o ≡ Ok p) where
    from_six : verdict_on book area c (fix_quota d o)
        ≡ must (is_segment ((world_of (view book) area).obj o).kind) 6
        (must_hold (conditions_of (world_of (view book) area) ((world_of (view book) area).obj c) d o)
        (grant 0 [] (alter o fix)))
    from_six = judged ∙ must_passed _ 5 _ (is_entry book area c t d o by p e)

    -- no segment: 6
    pub fix_six : (code_of (view book) p.object ≡ segment_code → ⊥) → Told b area (verdict_on b area c (fix_quota d o)) WrongKind
    fix_six g = rw (sym lent) (told (from_six ∙ must_failed _ 6 _ (no_segment book area c t d o by p e g)) by.ready)

    module _ (g : code_of (view book) p.object ≡ segment_code) where
      from_seven : verdict_on book area c (fix_quota d o)
          ≡ must_hold (writing (label_of (view book) t) (label_of (view book) p.container) ++ (flow (label_of (view book) t) (label_of (view book) p.object) ∷ [])) (grant 0 [] (alter o fix))
      from_seven =
          from_six ∙ (must_passed _ 6 _ (segment_here book area c t d o by p e g)
          ∙ (λ i. must_hold (writing (caller_label book area c t by i) (container_label book area c t d o by p e i)
          ++ (flow (caller_label book area c t by i) (its_label book area c t d o by p e i) ∷ [])) (grant 0 [] (alter o fix))))

      -- a label condition fails: 7
      pub fix_seven : (f : Refusal) → tested (writing (label_of (view book) t) (label_of (view book) p.container) ++ (flow (label_of (view book) t) (label_of (view book) p.object) ∷ [])) ≡ Err f
          → (r : Result ℕ Refusal) → IsErr r × IsErrAnd r (λ e. e ≡ f) → FixJudged b area c d o r
      fix_seven f q r h = rw (sym lent) (told_on _ r h (fail_told book area _ _ _ f from_seven q by.ready))

      -- granted
      pub to_fix : tested (writing (label_of (view book) t) (label_of (view book) p.container) ++ (flow (label_of (view book) t) (label_of (view book) p.object) ∷ [])) ≡ passed
          → FixJudged b area c d o (Ok p.object)
      to_fix q = rw (sym lent) (by.ready, record { granted = from_seven ∙ pass_on _ _ q; row = object_found book area c t d o by p e })

-- what its judging needs at each way out but the granted one
pub ruleset ways_out = (fix_five, fix_six, fix_seven)

-- ---- doing it

module _ (b area : List ℕ) (c d o r : ℕ) (ready : Ready b area) (go : ToFix b area c d o r) (b₁ : List ℕ) (m : view b₁ ≡ fixed_at r (view b)) where
  -- the number is still the same
  pub fixed_number : next_of (view b₁) ≤ last_number
  unfolding fixed_at
  fixed_number = rw m ready.number

  -- fixed and moved on, the call is done
  pub fix_done : (b' : List ℕ) → length b' ≡ length b → view b' ≡ moved_on (view b₁) → Done b area c (fix_quota d o) (Ok 0) b' area
  unfolding altered_view altered_area
  fix_done b' long n =
      done_granted b area c (fix_quota d o) ready b' long 0 [] (alter o fix) area go.granted
      (n ∙ (ap moved_on m ∙ sym (alter_view (view b) area o r fix go.row)))
      (sym (alter_area (view b) area o r fix go.row))
