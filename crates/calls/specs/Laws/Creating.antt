-- Calls 4 to 7: what they share, and the verdict by it.
use Rattle.std.specs.Prelude.{ℕ, ◌≤◌, Bool, not, ◌≡◌, refl, length, eqb, leb, ⊤, Result, Ok, Err}
use Rattle.std.proofs.Math.Bool.{true, false, cond}
use Rattle.std.proofs.Math.Path.{sym, ap, subst}
use Rattle.std.proofs.Common.{◌∙◌}
use mathlib.Core.List.{List, [], ◌∷◌, ◌++◌}
use Rattle.rules.specs.Kernel.{container_code, Obj, grant, must, must_hold, make, opens, writing, flow, forbids, fits, Condition, Call, judge, good_arguments, create, or_default}
use Rattle.tables.specs.Layout.{view}
use Rattle.book.specs.Book.{next_of, label_of, world_of}
use Rattle.book.specs.declared.make.NewRow.{NewRow}
use Rattle.book.specs.Enact.{enact_area}
use Rattle.book.specs.Make.{Handed, Creating, created_in}
use Rattle.book.specs.Sound.{Sound, Live}
use Rattle.book.specs.Units.{spare_at}
use Rattle.book.specs.Laws.Find.{kind_is, container_low}
use Rattle.book.specs.Laws.Places.{create_enacts}
use Rattle.book.specs.Laws.Tie.{world_next}
use Rattle.calls.specs.declared.Refusal.{Refusal}
use Rattle.calls.specs.declared.Refusal.TheVariants.{MaskForbids, NoSpare}
use Rattle.calls.specs.Outcome.{verdict_on, Means, Ready, Told, Done}
use Rattle.calls.specs.Begun.{Caller}
use Rattle.calls.specs.Lookup.{open_container}
use Rattle.calls.specs.Masks.{forbids_at}
use Rattle.calls.specs.Creating.{Asked, admitted, ToMake}
use Rattle.calls.specs.Laws.Begun.{caller_judged, caller_label, sound_by_caller}
use Rattle.calls.specs.Laws.Lookup.{shut_told, is_open, holder_row, holder_there, holder_label, holder_forbids, holder_fits}
use Rattle.calls.specs.Laws.Prelude.{must_passed, book_long, done_granted}
use Rattle.calls.specs.Laws.Tested.{means_tested, means_both}

-- ---- arguments as the code tests them

module _ (q d : ℕ) where
  -- neither is above a bound of both
  pub default_most : (n : ℕ) → q ≤ n → d ≤ n → or_default q d ≤ n
  unfolding or_default
  default_most n e f = go (eqb q 0)
    where
      go : (u : Bool) → cond u d q ≤ n
      go true = f
      go false = e

-- ---- what admitting asks of the book

pub admissible : (b area : List ℕ) (c t d : ℕ) → Caller b area c t → (k : ℕ) → open_container (view b) t d ≡ Ok k → Sound (view b) × Live (view b) k
admissible b area c t d by k e = (sound_by_caller b area c t by, holder_there b area c t d by k e)

-- ---- the verdict

module _ (b area : List ℕ) (c t : ℕ) (by : Caller b area c t) (call : Call) (d : ℕ) (x : Obj) (more : List Condition)
    (good : good_arguments (next_of (view b)) call ≡ true)
    (made : judge (world_of (view b) area) ((world_of (view b) area).obj c) c call ≡ make (world_of (view b) area) ((world_of (view b) area).obj c) d x more) where
  chain : verdict_on b area c call
      ≡ must (opens (world_of (view b) area) ((world_of (view b) area).obj c) d) 5
      (must_hold (writing ((world_of (view b) area).obj c).label ((world_of (view b) area).obj d).label ++ (flow ((world_of (view b) area).obj c).label x.label ∷ more))
      (must (not (forbids ((world_of (view b) area).obj d).mask x.kind)) 8
      (must (fits (world_of (view b) area) d x.quota) 13
      (grant (world_of (view b) area).next [] (create d x)))))
  unfolding make
  chain = caller_judged b area c t by call good ∙ made

  -- no container that is open: 5
  pub create_five : (f : Refusal) → open_container (view b) t d ≡ Err f → Told b area (verdict_on b area c call) f
  create_five = shut_told b area c t d by _ _ chain

  module _ (k : ℕ) (e : open_container (view b) t d ≡ Ok k) (code quota : ℕ) (allowed : Result ⊤ Refusal)
      (a : Asked ((world_of (view b) area).obj c) x more code quota allowed) where
    forbidden : forbids ((world_of (view b) area).obj d).mask x.kind ≡ forbids_at (view b) k code
    forbidden = holder_forbids b area c t d by k e x.kind ∙ ap (forbids_at (view b) k) a.of_kind_lem

    fitting : fits (world_of (view b) area) d x.quota ≡ leb quota (spare_at (view b) k)
    fitting = holder_fits b area c t d by k e x.quota ∙ ap (λ (n : ℕ). leb n (spare_at (view b) k)) a.units

    -- the tests from 7 on, of the rows
    from_seven : verdict_on b area c call
        ≡ must_hold (writing (label_of (view b) t) (label_of (view b) k) ++ (flow ((world_of (view b) area).obj c).label x.label ∷ more))
        (must (not (forbids_at (view b) k code)) 8
        (must (leb quota (spare_at (view b) k)) 13
        (grant (next_of (view b)) [] (create d x))))
    from_seven =
        chain
        ∙ must_passed _ 5 _ (is_open b area c t d by k e)
        ∙ (λ i. must_hold (writing (caller_label b area c t by i) (holder_label b area c t d by k e i) ++ (flow ((world_of (view b) area).obj c).label x.label ∷ more))
        (must (not (forbidden i)) 8 (must (fitting i) 13 (grant (world_next (view b) area i) [] (create d x)))))

    -- what is answered of them is what the call comes to
    pub create_judged : (r : Result ℕ Refusal) → r ≡ admitted (view b) t k code quota allowed → Means b area (verdict_on b area c call) (ToMake b area c call d x) r
    create_judged r f =
        let go = ToMake b area c call d x in
        let v = verdict_on b area c call in
        subst (Means b area v go) (sym f)
        (means_both b area by.ready go v (writing (label_of (view b) t) (label_of (view b) k)) _ allowed a.conditions _ _ from_seven
        (λ e2. means_tested b area by.ready go v _ MaskForbids 8 _ _ refl e2
        (λ g3 e3. means_tested b area by.ready go v _ NoSpare 13 _ _ refl e3
        (λ g4 e4. (by.ready, record { good = good; granted = e4; container = holder_row b area c t d by k e })))))

-- ---- the making, in a book with the bytes w

module _ (w b area : List ℕ) (c : ℕ) (call : Call) (d : ℕ) (x : Obj) (i : ℕ) (same : w ≡ b) (ready : Ready b area) (go : ToMake b area c call d x i) where
  -- what the book asks of a create
  pub creating : (n : NewRow) (s y : List ℕ) → Handed n s y → Creating w i n s y
  creating n s y h =
      subst (λ (z : List ℕ). Creating z i n s y) (sym same)
      (record {
        going = record { whole = book_long b area ready.areas; numbers = ready.number };
        low = container_low (view b) d i go.container;
        handed = h;
      })

  -- what it leaves is the call done
  pub made_done : (b' : List ℕ) → length b' ≡ length b → (o : Obj) → view b' ≡ created_in i o (view w) → o ≡ x → (n : ℕ) → n ≡ next_of (view w)
      → Done b area c call (Ok n) b' area
  unfolding enact_area
  made_done b' long o e f n g =
      subst (λ (v : ℕ). Done b area c call (Ok v) b' area) (sym (g ∙ ap (λ (z : List ℕ). next_of (view z)) same))
      (done_granted b area c call ready b' long (next_of (view b)) [] (create d x) area go.granted
      (e ∙ ap (λ (z : List ℕ). created_in i o (view z)) same ∙ ap (λ (z : Obj). created_in i z (view b)) f
      ∙ sym (create_enacts d i x (view b) area (kind_is container_code (view b) d i go.container).0)) refl)
