-- Calls 4 to 7: what they share. RULES 8.4: "7 unless T may write D, T flows to the new label, that flows to the new clearance if there is one, and the last of these flows to
-- T's clearance."
use Rattle.std.specs.Prelude.{ℕ, true, not, ◌≡◌, List, [], ◌∷◌, leb, ⊤, Result, Ok, Some}
use Rattle.std.specs.Result.{result_and}
use Rattle.labels.specs.declared.Label.{Label}
use Rattle.labels.specs.Core as core
use Rattle.labels.specs.Core.{meant}
use Rattle.rules.specs.Kernel.{Obj, Condition, Call, good_arguments, kind_code, flow, writing, grant, create}
use Rattle.tables.specs.Layout.{View, view}
use Rattle.book.specs.Book.{next_of, label_of}
use Rattle.book.specs.Find.{container_row}
use Rattle.book.specs.Units.{spare_at}
use Rattle.calls.specs.declared.Refusal.{Refusal}
use Rattle.calls.specs.declared.creating.NewLabels.{NewLabels}
use Rattle.calls.specs.declared.Refusal.TheVariants.{MaskForbids, NoSpare}
use Rattle.calls.specs.Outcome.{verdict_on}
use Rattle.calls.specs.Conditions.{tested}
use Rattle.calls.specs.Tested.{test}
use Rattle.calls.specs.Masks.{forbids_at}

-- the label and the clearance of a new object are those that are lent
pub record LentPair (l k : List ℕ) (x : NewLabels) : Type 0 where
  pub label : meant x.label ≡ core.label_of l
  pub clearance : meant x.clearance ≡ core.label_of k

-- ---- the label conditions beside writing D, of a thread with label m and clearance k

-- a new label l without a clearance
abbrev pub plain_conditions : Label → Label → Label → List Condition
plain_conditions m k l = flow m l ∷ flow l k ∷ []

-- a new label l with a clearance n
abbrev pub cleared_conditions : Label → Label → Label → Label → List Condition
cleared_conditions m k l n = flow m l ∷ flow l n ∷ flow n k ∷ []

-- ---- judging

-- A new object x and its conditions, as the code knows them: the code of its kind, its quota, and what the conditions come to.
pub record Asked (t x : Obj) (more : List Condition) (code quota : ℕ) (allowed : Result ⊤ Refusal) : Type 0 where
  pub of_kind_lem : kind_code x.kind ≡ code
  pub units : x.quota ≡ quota
  pub conditions : tested (flow t.label x.label ∷ more) ≡ allowed

-- What is answered of it, of the thread at row t and the container at row k, from 7 on.
abbrev pub admitted : View → ℕ → ℕ → ℕ → ℕ → Result ⊤ Refusal → Result ℕ Refusal
admitted v t k code quota allowed =
    result_and (tested (writing (label_of v t) (label_of v k)))
    (result_and allowed
    (test (not (forbids_at v k code)) MaskForbids
    (test (leb quota (spare_at v k)) NoSpare
    (Ok k))))

-- the call is granted: x is to be made in d, the container at row i
pub record ToMake (b area : List ℕ) (c : ℕ) (call : Call) (d : ℕ) (x : Obj) (i : ℕ) : Type 0 where
  pub good : good_arguments (next_of (view b)) call ≡ true
  pub granted : verdict_on b area c call ≡ grant (next_of (view b)) [] (create d x)
  pub container : container_row (view b) d ≡ Some i
