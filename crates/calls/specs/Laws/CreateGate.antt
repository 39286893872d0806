-- Call 6: the verdict at each way out, and what the making leaves.
use Rattle.std.specs.Prelude.{ℕ, ◌&&◌, ◌≡◌, List, [], ◌∷◌, length, ⊤, Option, MatchOption, Result, Ok, Err}
use Rattle.std.specs.Option.{ok_or}
use Rattle.std.specs.Result.{IsErr, IsErrAnd}
use Rattle.std.proofs.Math.Bool.{true, false}
use Rattle.std.proofs.Math.Path.{refl, sym, ap₂, subst}
use Rattle.std.proofs.Common.{ap, ◌∙◌}
use Rattle.labels.specs.declared.Label.{Label}
use Rattle.labels.specs.Core as core
use Rattle.labels.specs.Core.Bytes.{label_of_length}
use Rattle.labels.specs.Core.Formed.{and_l, and_r}
use Rattle.rules.specs.Kernel.{gate_code, kind_code, flow, judge, good_arguments, good_label, good_text, gate_of, create_gate}
use Rattle.tables.specs.Layout.{view}
use Rattle.book.specs.declared.make.NewRow.{NewRow}
use Rattle.book.specs.Book.{next_of, label_of, clearance_of, world_of}
use Rattle.book.specs.Make.{object_of, Handed, Creating, created_in}
use Rattle.book.specs.Laws.Handed.{gate_handed, row_is_gate}
use Rattle.calls.specs.declared.Refusal.{Refusal}
use Rattle.calls.specs.declared.creating.NewLabels.{NewLabels}
use Rattle.calls.specs.declared.Refusal.TheVariants.{BadArgument}
use Rattle.calls.specs.Conditions.{tested}
use Rattle.calls.specs.Outcome.{verdict_on, Ready, Means, Done}
use Rattle.calls.specs.Begun.{Caller}
use Rattle.calls.specs.Lookup.{open_container}
use Rattle.calls.specs.Creating.{cleared_conditions, admitted, ToMake}
use Rattle.calls.specs.CreateGate.{new_gate, gate_row_of, GateJudged}
use Rattle.calls.specs.Laws.Arguments.{good_default, good_text_long, lent_long}
use Rattle.calls.specs.Laws.Begun.{caller_four, caller_label, caller_clearance}
use Rattle.calls.specs.Laws.Leave.{told, told_on, told_none}
use Rattle.calls.specs.Laws.Creating.{create_five, create_judged, creating, made_done}

module _ (w b area l k x s : List ℕ) (c t d i : ℕ) (same : w ≡ b) (by : Caller w area c t) where
  -- bad arguments: 4
  pub gate_four : (o : Option NewLabels) (well : NewLabels → Type 0)
      → MatchOption o ((good_label (next_of (view w)) true l && (good_label (next_of (view w)) false k && (good_text x && good_text s))) ≡ false) well
      → (f : Refusal) → ok_or o BadArgument ≡ Err f → (r : Result (ℕ × Label × Label) Refusal) → IsErr r × IsErrAnd r (λ y. y ≡ f) → GateJudged b area c d l k i x s r
  unfolding good_arguments
  gate_four o well h f e r on =
      subst (λ (z : List ℕ). GateJudged z area c d l k i x s r) same
      (told_none _ r on o well BadArgument h e (λ bad. told (caller_four w area c t by (create_gate d l k i x s) bad) by.ready))

  module _ (good : (good_label (next_of (view w)) true l && (good_label (next_of (view w)) false k && (good_text x && good_text s))) ≡ true) where
    arguments : good_arguments (next_of (view w)) (create_gate d l k i x s) ≡ true
    unfolding good_arguments
    arguments = good

    -- no container that is open: 5
    pub gate_five : (f : Refusal) → open_container (view w) t d ≡ Err f → (r : Result (ℕ × Label × Label) Refusal) → IsErr r × IsErrAnd r (λ y. y ≡ f) → GateJudged b area c d l k i x s r
    unfolding judge
    gate_five f shut r on =
        subst (λ (z : List ℕ). GateJudged z area c d l k i x s r) same
        (told_on _ r on (create_five w area c t by (create_gate d l k i x s) d (new_gate l k i x s)
        (flow (core.label_of l) (core.label_of k) ∷ flow (core.label_of k) ((world_of (view w) area).obj c).clearance ∷ []) arguments refl f shut))

    -- what the answer of admitting means, of a book with the bytes z
    abbrev answered : List ℕ → Result ℕ Refusal → Type 0
    answered z = Means z area (verdict_on z area c (create_gate d l k i x s)) (ToMake z area c (create_gate d l k i x s) d (new_gate l k i x s))

    -- one that is, at row `at`: what is shared decides
    module _ (at : ℕ) (o : open_container (view w) t d ≡ Ok at) (allowed : Result ⊤ Refusal)
        (e : allowed ≡ tested (cleared_conditions (label_of (view w) t) (clearance_of (view w) t) (core.label_of l) (core.label_of k))) where
      shared : (r : Result ℕ Refusal) → r ≡ admitted (view w) t at gate_code 1 allowed → answered b r
      unfolding judge gate_of kind_code
      shared r h =
          subst (λ (z : List ℕ). answered z r) same
          (create_judged w area c t by (create_gate d l k i x s) d (new_gate l k i x s)
          (flow (core.label_of l) (core.label_of k) ∷ flow (core.label_of k) ((world_of (view w) area).obj c).clearance ∷ []) arguments refl at o gate_code 1 allowed
          (record {
            of_kind_lem = refl;
            units = refl;
            conditions = ap₂ (λ (u w : Label). tested (cleared_conditions u w (core.label_of l) (core.label_of k))) (caller_label w area c t by) (caller_clearance w area c t by) ∙ sym e;
          })
          r h)

      -- which refuses,
      pub gate_refused : (g : Refusal) → admitted (view w) t at gate_code 1 allowed ≡ Err g
          → (r : Result (ℕ × Label × Label) Refusal) → IsErr r × IsErrAnd r (λ y. y ≡ g) → GateJudged b area c d l k i x s r
      gate_refused g h r on = told_on _ r on (shared (Err g) (sym h))

      -- or grants
      pub gate_granted : (j : ℕ) → admitted (view w) t at gate_code 1 allowed ≡ Ok j
          → (m n : Label) → m ≡ core.label_of l → n ≡ core.label_of k → GateJudged b area c d l k i x s (Ok (j, m, n))
      gate_granted j h m n em en = let (ready, go) = shared (Ok j) (sym h) in (ready, (go, em, en))

-- what its judging needs at each way out but the granted one
pub ruleset ways_out = (gate_four, gate_five, gate_refused, lent_long)

module _ (n : ℕ) (l k x s : List ℕ) (d i : ℕ) (good : good_arguments n (create_gate d l k i x s) ≡ true) where
  label_good : good_label n true l ≡ true
  unfolding good_arguments
  label_good = and_l (good_label n true l) (good_label n false k && (good_text x && good_text s)) good

  rest_good : (good_label n false k && (good_text x && good_text s)) ≡ true
  unfolding good_arguments
  rest_good = and_r (good_label n true l) (good_label n false k && (good_text x && good_text s)) good

  clearance_good : good_label n false k ≡ true
  clearance_good = and_l (good_label n false k) (good_text x && good_text s) rest_good

  texts_good : (good_text x && good_text s) ≡ true
  texts_good = and_r (good_label n false k) (good_text x && good_text s) rest_good

  module _ (row : NewRow) (label clearance : Label) (e : row ≡ gate_row_of label clearance i) (f : label ≡ core.label_of l) (g : clearance ≡ core.label_of k) where
    row_is : row ≡ gate_row_of (core.label_of l) (core.label_of k) i
    row_is = e ∙ ap₂ (λ (u w : Label). gate_row_of u w i) f g

    -- what is handed over is the gate
    pub gate_whole : Handed row s x
    gate_whole =
        subst (λ (z : NewRow). Handed z s x) (sym row_is)
        (gate_handed (core.label_of l) s (good_default n true l label_good) (label_of_length l) (good_text_long s (and_r (good_text x) (good_text s) texts_good))
        (core.label_of k) (good_default n false k clearance_good) (label_of_length k) i x (good_text_long x (and_l (good_text x) (good_text s) texts_good)))

    pub gate_object : object_of row s x ≡ new_gate l k i x s
    gate_object = ap (λ (z : NewRow). object_of z s x) row_is ∙ row_is_gate (core.label_of l) (core.label_of k) i s x

    -- so it can be made, and the call is done by it
    module _ (w b area : List ℕ) (c at : ℕ) (same : w ≡ b) (ready : Ready b area) (go : ToMake b area c (create_gate d l k i x s) d (new_gate l k i x s) at) where
      pub gate_creating : Creating w at row s x
      gate_creating = creating w b area c (create_gate d l k i x s) d (new_gate l k i x s) at same ready go row s x gate_whole

      pub gate_done : (b' : List ℕ) → length b' ≡ length b → view b' ≡ created_in at (object_of row s x) (view w) → (v : ℕ) → v ≡ next_of (view w)
          → Done b area c (create_gate d l k i x s) (Ok v) b' area
      gate_done b' long made =
          made_done w b area c (create_gate d l k i x s) d (new_gate l k i x s) at same ready go b' long (object_of row s x) made gate_object
