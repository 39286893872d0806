-- Call 15: its arguments, its conditions, and the verdict at each way out of its judging.
use Rattle.std.specs.Prelude.{ℕ, ◌&&◌, ◌≡◌, List, Option, MatchOption, Result, Ok, Err}
use Rattle.std.specs.Option.{ok_or}
use Rattle.std.specs.Result.{IsErr, IsErrAnd}
use Rattle.std.proofs.Common.{arith, sym, ap₂, ◌∙◌, eq-eqb, ne_eqb, eqb-true}
use Rattle.std.proofs.Math.Bool.{true, false}
use Rattle.std.proofs.Math.Path.{ap}
use Rattle.std.proofs.Math.Dec.{eqb}
use Rattle.labels.specs.declared.Label.{Label}
use Rattle.labels.specs.Core as label
use Rattle.labels.specs.Core.Formed.{and_l, and_r}
use Rattle.rules.specs.Kernel.{gate_code, World, Obj, Condition, Verdict, grant, must, must_hold, judge, entry, is_gate}
use Rattle.rules.specs.Kernel.{enter_gate, alter, relabel, good_label, good_arguments, text_size}
use Rattle.tables.specs.Layout.{view}
use Rattle.book.specs.Book.{next_of, code_of, clearance_of, world_of}
use Rattle.book.specs.Laws.Tie.{object_clearance, object_gate, object_entry, object_closure}
use Rattle.calls.specs.declared.Refusal.{Refusal}
use Rattle.calls.specs.declared.Refusal.TheVariants.{BadArgument, WrongKind}
use Rattle.book.specs.declared.find.Entry.{Entry}
use Rattle.calls.specs.declared.enter_gate.Lent.{Lent}
use Rattle.calls.specs.Outcome.{verdict_on, Told}
use Rattle.calls.specs.Conditions.{passed, tested}
use Rattle.calls.specs.Begun.{Caller}
use Rattle.calls.specs.Lookup.{open_entry}
use Rattle.calls.specs.EnterGate.{good_gate, gate_conditions, asks_at, EnterJudged}
use Rattle.calls.specs.Laws.Arguments.{good_default, lent_long}
use Rattle.calls.specs.Laws.Begun.{caller_four, caller_judged, caller_label, caller_clearance}
use Rattle.calls.specs.Laws.Conditions.{pass_on, fail_told}
use Rattle.calls.specs.Laws.Entry.{no_entry_told, is_entry, object_is, its_label}
use Rattle.calls.specs.Laws.Leave.{told, told_on, told_none}
use Rattle.calls.specs.Laws.Prelude.{must_passed, must_failed}
use Rattle.calls.specs.Laws.Relabel.{caller_row}

-- ---- the arguments

module _ (next : ℕ) (lr cr lv : List ℕ) (n : ℕ) where
  -- what good arguments are
  module _ (good : good_gate next lr cr lv n ≡ true) where
    pub label_good : good_label next true lr ≡ true
    unfolding good_gate
    label_good = and_l (good_label next true lr) (good_label next false cr && (good_label next true lv && eqb n text_size)) good

    after_first : (good_label next false cr && (good_label next true lv && eqb n text_size)) ≡ true
    unfolding good_gate
    after_first = and_r (good_label next true lr) (good_label next false cr && (good_label next true lv && eqb n text_size)) good

    pub clearance_good : good_label next false cr ≡ true
    clearance_good = and_l (good_label next false cr) (good_label next true lv && eqb n text_size) after_first

    after_second : (good_label next true lv && eqb n text_size) ≡ true
    after_second = and_r (good_label next false cr) (good_label next true lv && eqb n text_size) after_first

    pub output_good : n ≡ text_size
    output_good = eqb-true n text_size (and_r (good_label next true lv) (eqb n text_size) after_second)

-- ---- the verdict

-- what is asked of thread t and gate g
abbrev asks : World → Obj → ℕ → List ℕ → List ℕ → List ℕ → List Condition
asks w t g lr cr lv =
    gate_conditions t.label t.clearance (w.obj g).label (w.obj g).clearance (label.label_of lr) (label.label_of cr) (label.label_of lv)

module _ (b area : List ℕ) (c t d g : ℕ) (lr cr lv : List ℕ) (n : ℕ) (book : List ℕ) (lent : book ≡ b) (by : Caller book area c t) where
  -- malformed arguments: 4
  pub gate_four : (o : Option Lent) (well : Lent → Type 0)
      → MatchOption o (good_gate (next_of (view book)) lr cr lv n ≡ false) well → (f : Refusal) → ok_or o BadArgument ≡ Err f
      → (r : Result (ℕ × ℕ × Label × Label) Refusal) → IsErr r × IsErrAnd r (λ e. e ≡ f) → EnterJudged b area c d g lr cr lv n r
  unfolding good_arguments good_gate
  gate_four o well h f e r k = rw (sym lent) (told_none _ r k o well BadArgument h e (λ z. told (caller_four book area c t by (enter_gate d g lr cr lv n) z) by.ready))

  module _ (good : good_gate (next_of (view book)) lr cr lv n ≡ true) where
    judged : verdict_on book area c (enter_gate d g lr cr lv n)
        ≡ must (entry (world_of (view book) area) ((world_of (view book) area).obj c) d g) 5
        (must (is_gate ((world_of (view book) area).obj g).kind) 6
        (must_hold (asks (world_of (view book) area) ((world_of (view book) area).obj c) g lr cr lv)
        (grant ((world_of (view book) area).obj g).entry ((world_of (view book) area).obj g).closure (alter c (relabel (label.label_of lr) (label.label_of cr))))))
    unfolding judge good_arguments good_gate
    judged = caller_judged book area c t by (enter_gate d g lr cr lv n) good

    -- no entry: 5
    pub gate_five : (f : Refusal) → open_entry (view book) t d g ≡ Err f → (r : Result (ℕ × ℕ × Label × Label) Refusal) → IsErr r × IsErrAnd r (λ e. e ≡ f)
        → EnterJudged b area c d g lr cr lv n r
    gate_five f e r h = rw (sym lent) (told_on _ r h (no_entry_told book area c t d g by _ _ judged f e))

    module _ (p : Entry) (e : open_entry (view book) t d g ≡ Ok p) where
      is_gate_lem : is_gate ((world_of (view book) area).obj g).kind ≡ eqb (code_of (view book) p.object) gate_code
      is_gate_lem = ap (λ (x : Obj). is_gate x.kind) (object_is book area c t d g by p e) ∙ object_gate (view book) area p.object

      -- no gate: 6
      pub gate_six : (code_of (view book) p.object ≡ gate_code → ⊥) → Told b area (verdict_on b area c (enter_gate d g lr cr lv n)) WrongKind
      gate_six ne =
          rw (sym lent)
          (told (judged ∙ (must_passed _ 5 _ (is_entry book area c t d g by p e)
          ∙ must_failed _ 6 _ (is_gate_lem ∙ ne_eqb (code_of (view book) p.object) gate_code ne))) by.ready)

      module _ (code : code_of (view book) p.object ≡ gate_code) where
        its_clearance : ((world_of (view book) area).obj g).clearance ≡ clearance_of (view book) p.object
        its_clearance =
            ap (λ (x : Obj). x.clearance) (object_is book area c t d g by p e)
            ∙ object_clearance (view book) area p.object (λ z. omega (arith, code)) (omega (arith, code))

        asked : asks (world_of (view book) area) ((world_of (view book) area).obj c) g lr cr lv ≡ asks_at (view book) t p.object (label.label_of lr) (label.label_of cr) (label.label_of lv)
        asked = λ i.
            gate_conditions (caller_label book area c t by i) (caller_clearance book area c t by i) (its_label book area c t d g by p e i) (its_clearance i)
            (label.label_of lr) (label.label_of cr) (label.label_of lv)

        abbrev enters : Verdict
        enters = grant ((world_of (view book) area).obj g).entry ((world_of (view book) area).obj g).closure (alter c (relabel (label.label_of lr) (label.label_of cr)))

        from_seven : verdict_on book area c (enter_gate d g lr cr lv n) ≡ must_hold (asks_at (view book) t p.object (label.label_of lr) (label.label_of cr) (label.label_of lv)) enters
        from_seven =
            judged ∙ (must_passed _ 5 _ (is_entry book area c t d g by p e)
            ∙ (must_passed _ 6 _ (is_gate_lem ∙ eq-eqb (code_of (view book) p.object) gate_code code) ∙ ap (λ qs. must_hold qs enters) asked))

        -- a condition fails: 7
        pub gate_seven : (f : Refusal) → tested (asks_at (view book) t p.object (label.label_of lr) (label.label_of cr) (label.label_of lv)) ≡ Err f
            → (r : Result (ℕ × ℕ × Label × Label) Refusal) → IsErr r × IsErrAnd r (λ e. e ≡ f) → EnterJudged b area c d g lr cr lv n r
        gate_seven f q r h = rw (sym lent) (told_on _ r h (fail_told book area _ _ _ f from_seven q by.ready))

        -- granted
        pub to_enter : (m k : Label) → m ≡ label.label_of lr → k ≡ label.label_of cr
            → tested (asks_at (view book) t p.object (label.label_of lr) (label.label_of cr) (label.label_of lv)) ≡ passed
            → EnterJudged b area c d g lr cr lv n (Ok (t, p.object, m, k))
        to_enter m k em ek q = rw (sym lent) (rw em (rw ek (
          by.ready,
          record {
            relabels =
                record {
                  granted =
                      from_seven ∙ (pass_on _ _ q
                      ∙ ap₂ (λ (x : ℕ) (y : List ℕ). grant x y (alter c (relabel (label.label_of lr) (label.label_of cr))))
                      (ap (λ (x : Obj). x.entry) (object_is book area c t d g by p e) ∙ object_entry (view book) area p.object code)
                      (ap (λ (x : Obj). x.closure) (object_is book area c t d g by p e) ∙ object_closure (view book) area p.object code));
                  row = caller_row book area c t by;
                  label_fits = good_default (next_of (view book)) true lr (label_good (next_of (view book)) lr cr lv n good);
                  clearance_fits = good_default (next_of (view book)) false cr (clearance_good (next_of (view book)) lr cr lv n good);
                };
            sized = output_good (next_of (view book)) lr cr lv n good;
          },
        )))

-- what its judging needs at the ways out before the kind is read
pub ruleset ways_out = (lent_long, gate_four, gate_five)
