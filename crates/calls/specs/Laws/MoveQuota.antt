-- Call 11: the verdict at each way out of its judging, and what it does.
use Rattle.std.specs.Prelude.{ℕ, ◌≤◌, true, false, not, cond, ◌||◌, ◌≡◌, refl, length, eqb, leb, ℤ, Ok, Err, Result}
use Rattle.std.proofs.Common.{arith, ap₂, subst, ◌∙◌, eq-eqb, ne_eqb, eqb-true, leb-true}
use Rattle.std.proofs.Math.Path.{sym, ap}
use mathlib.Core.List.{List, [], ◌∷◌, ◌++◌}
use mir.Facts.{to_z-of_z}
use Rattle.std.proofs.lemmas.Bool.{eqb-false}
use Rattle.rules.specs.Kernel.{segment_code, container_code, Obj, Verdict, grant, must, must_hold, fits, Condition}
use Rattle.rules.specs.Kernel.{is_segment, is_container, writing, flow, move_quota, alter, requota, root_quota, last_number}
use Rattle.rules.proofs.Laws.Bools.{bool_cases}
use Rattle.tables.specs.Layout.{View, view}
use Rattle.book.specs.Book.{next_of, code_of, fixed_of, quota_of, label_of, clearance_of, object_at, world_of}
use Rattle.book.specs.Enact.{moved_on, requotaed, altered_view, altered_area}
use Rattle.book.specs.Units.{spare_at}
use Rattle.book.specs.Laws.Enacted.{alter_view, alter_area}
use Rattle.book.specs.Laws.Tie.{object_fixed, object_unfixed}
use Rattle.calls.specs.declared.amount.Amount.{Amount}
use Rattle.calls.specs.declared.amount.Amount.TheVariants.{In, Out}
use Rattle.calls.specs.declared.Refusal.{Refusal}
use Rattle.book.specs.declared.find.Entry.{Entry}
use Rattle.calls.specs.Amount.{amount_of, more_for, room_for, room_at, quota_for, Reckoned}
use Rattle.calls.specs.Lookup.{open_entry}
use Rattle.calls.specs.MoveQuota.{is_fixed, ToMove, MoveJudged}
use Rattle.calls.specs.Outcome.{verdict_on, Ready, Told, Done}
use Rattle.calls.specs.Conditions.{passed, tested}
use Rattle.calls.specs.Begun.{Caller}
use Rattle.calls.specs.Laws.Amount.{bad_argument, good_argument, moving, amount_judged}
use Rattle.calls.specs.Laws.Begun.{caller_judged, caller_four, caller_label, caller_clearance, sound_by_caller}
use Rattle.calls.specs.Laws.Conditions.{pass_on, fail_told}
use Rattle.calls.specs.Laws.Entry.{no_entry_told, is_entry, container_there, container_named, object_there, object_named}
use Rattle.calls.specs.Laws.Entry.{object_found, object_is, is_segment_lem, is_container_lem, container_label, its_label, its_quota}
use Rattle.calls.specs.Laws.Leave.{told, told_on}
use Rattle.calls.specs.Laws.Lookup.{fits_at}
use Rattle.calls.specs.Laws.Prelude.{must_passed, must_failed, done_granted}
use Rattle.std.specs.Result.{IsErr, IsErrAnd}
use Rattle.calls.specs.declared.Refusal.TheVariants.{WrongKind, QuotaFixed, NoSpare}

-- ---- the tests of code

-- whether a quota is fixed
pub fixed_other : (v : View) (r n : ℕ) → n ≡ code_of v r → (n ≡ segment_code → ⊥) → false ≡ is_fixed v r
unfolding is_fixed
fixed_other v r n e ne = sym (ap (λ a. cond a (eqb (fixed_of v r) 1) false) (ne_eqb (code_of v r) segment_code (λ q. ne (e ∙ q))))

pub fixed_segment : (v : View) (r n : ℕ) → n ≡ code_of v r → n ≡ segment_code → eqb (fixed_of v r) 1 ≡ is_fixed v r
unfolding is_fixed
fixed_segment v r n e q = sym (ap (λ a. cond a (eqb (fixed_of v r) 1) false) (eq-eqb (code_of v r) segment_code (sym e ∙ q)))

pub fixed_object : (v : View) (area : List ℕ) (r : ℕ) → (object_at v area r).fixed ≡ is_fixed v r
fixed_object v area r =
    bool_cases (eqb (code_of v r) segment_code)
    (λ t. let e = eqb-true (code_of v r) segment_code t in object_fixed v area r e ∙ fixed_segment v r (code_of v r) refl e)
    (λ t. let e = eqb-false (code_of v r) segment_code t in object_unfixed v area r e ∙ fixed_other v r (code_of v r) refl e)

-- what room there is, by ids and by rows
room_is : (u : Amount) (b area : List ℕ) (d o k r : ℕ) → ((n : ℕ) → fits (world_of (view b) area) d n ≡ leb n (spare_at (view b) k))
    → ((n : ℕ) → fits (world_of (view b) area) o n ≡ leb n (spare_at (view b) r))
    → room_for u (world_of (view b) area) d o ≡ room_at u (view b) k r
room_is (In m) b area d o k r f g = f m
room_is (Out m) b area d o k r f g = g m

spare_most : (v : View) (r : ℕ) → spare_at v r ≤ quota_of v r
unfolding spare_at
spare_most v r = omega arith

-- where there is room, the new quota can be reckoned
room_reckoned : (u : Amount) (v : View) (k r : ℕ) → quota_of v k ≤ root_quota → room_at u v k r ≡ true → Reckoned u (quota_of v r)
room_reckoned (In m) v k r a h = let i = leb-true m (spare_at v k) h in omega (arith, a, i, spare_most v k)
room_reckoned (Out m) v k r a h = let i = leb-true m (spare_at v r) h in omega (arith, i, spare_most v r)

module _ (b area : List ℕ) (c t d o : ℕ) (book : List ℕ) (lent : book ≡ b) (by : Caller book area c t) (z : ℤ) where
  -- over its limit: 4
  pub move_four : (f : Refusal) → amount_of z ≡ Err f → (r : Result (ℕ × Amount) Refusal) → IsErr r × IsErrAnd r (λ e. e ≡ f) → MoveJudged b area c d o z r
  move_four f e r h =
      let (bad, q) = bad_argument (next_of (view book)) d o z f e in
      let t4 = told (caller_four book area c t by (move_quota d o z) bad) by.ready in
      rw (sym lent) (told_on _ r h (subst (λ (g : Refusal). Told book area (verdict_on book area c (move_quota d o z)) g) (sym q) t4))

  module _ (u : Amount) (ok : amount_of z ≡ Ok u) where
    judged : verdict_on book area c (move_quota d o z) ≡ moving (world_of (view book) area) ((world_of (view book) area).obj c) d o u
    judged =
        caller_judged book area c t by (move_quota d o z) (good_argument (next_of (view book)) d o z u ok)
        ∙ amount_judged (world_of (view book) area) ((world_of (view book) area).obj c) c d o z u ok

    -- no entry: 5
    pub move_five : (f : Refusal) → open_entry (view book) t d o ≡ Err f → (r : Result (ℕ × Amount) Refusal) → IsErr r × IsErrAnd r (λ e. e ≡ f) → MoveJudged b area c d o z r
    move_five f e r h = rw (sym lent) (told_on _ r h (no_entry_told book area c t d o by _ _ judged f e))

    module _ (at : Entry) (e : open_entry (view book) t d o ≡ Ok at) where
      kind_is : (is_segment ((world_of (view book) area).obj o).kind || is_container ((world_of (view book) area).obj o).kind)
          ≡ (eqb (code_of (view book) at.object) segment_code || eqb (code_of (view book) at.object) container_code)
      kind_is = ap₂ ◌||◌ (is_segment_lem book area c t d o by at e) (is_container_lem book area c t d o by at e)

      -- neither segment nor container: 6
      pub move_six : (eqb (code_of (view book) at.object) segment_code || eqb (code_of (view book) at.object) container_code) ≡ false
          → Told b area (verdict_on b area c (move_quota d o z)) WrongKind
      move_six g = rw (sym lent) (told (judged ∙ (must_passed _ 5 _ (is_entry book area c t d o by at e) ∙ must_failed _ 6 _ (kind_is ∙ g))) by.ready)

      module _ (g : (eqb (code_of (view book) at.object) segment_code || eqb (code_of (view book) at.object) container_code) ≡ true) where
        -- the label conditions, of the rows
        abbrev conditions : List Condition
        conditions =
            writing (label_of (view book) t) (label_of (view book) at.container)
            ++ (flow (label_of (view book) t) (label_of (view book) at.object) ∷ flow (label_of (view book) at.object) (clearance_of (view book) t)
            ∷ more_for u (label_of (view book) t) (label_of (view book) at.object))

        -- the tests from 9 on
        abbrev last_tests : Verdict
        last_tests =
            must (not ((world_of (view book) area).obj o).fixed) 9
            (must (room_for u (world_of (view book) area) d o) 13
            (grant 0 [] (alter o (requota (quota_for u ((world_of (view book) area).obj o).quota)))))

        from_seven : verdict_on book area c (move_quota d o z) ≡ must_hold conditions last_tests
        from_seven =
            judged
            ∙ (must_passed _ 5 _ (is_entry book area c t d o by at e)
            ∙ (must_passed _ 6 _ (kind_is ∙ g)
            ∙ (λ i. must_hold (writing (caller_label book area c t by i) (container_label book area c t d o by at e i)
            ++ (flow (caller_label book area c t by i) (its_label book area c t d o by at e i)
            ∷ flow (its_label book area c t d o by at e i) (caller_clearance book area c t by i)
            ∷ more_for u (caller_label book area c t by i) (its_label book area c t d o by at e i))) last_tests)))

        -- a label condition fails: 7
        pub move_seven : (f : Refusal) → tested (conditions) ≡ Err f
            → (r : Result (ℕ × Amount) Refusal) → IsErr r × IsErrAnd r (λ e. e ≡ f) → MoveJudged b area c d o z r
        move_seven f q r h = rw (sym lent) (told_on _ r h (fail_told book area _ _ _ f from_seven q by.ready))

        module _ (h : tested (conditions) ≡ passed) where
          at_nine : verdict_on book area c (move_quota d o z) ≡ last_tests
          at_nine = from_seven ∙ pass_on _ _ h

          fixed_is : ((world_of (view book) area).obj o).fixed ≡ is_fixed (view book) at.object
          fixed_is = ap (λ (v : Obj). v.fixed) (object_is book area c t d o by at e) ∙ fixed_object (view book) area at.object

          -- its quota is fixed: 9
          pub move_nine : is_fixed (view book) at.object ≡ true → Told b area (verdict_on b area c (move_quota d o z)) QuotaFixed
          move_nine i = rw (sym lent) (told (at_nine ∙ must_failed _ 9 _ (ap not (fixed_is ∙ i))) by.ready)

          module _ (i : is_fixed (view book) at.object ≡ false) where
            at_thirteen : verdict_on book area c (move_quota d o z)
                ≡ must (room_for u (world_of (view book) area) d o) 13
                (grant 0 [] (alter o (requota (quota_for u ((world_of (view book) area).obj o).quota))))
            at_thirteen = at_nine ∙ must_passed _ 9 _ (ap not (fixed_is ∙ i))

            rooms : room_for u (world_of (view book) area) d o ≡ room_at u (view book) at.container at.object
            rooms =
                room_is u book area d o at.container at.object
                (fits_at book area d at.container (sound_by_caller book area c t by) (container_there book area c t d o by at e) (container_named book area c t d o by at e))
                (fits_at book area o at.object (sound_by_caller book area c t by) (object_there book area c t d o by at e) (object_named book area c t d o by at e))

            -- not enough spare: 13
            pub move_thirteen : room_at u (view book) at.container at.object ≡ false → Told b area (verdict_on b area c (move_quota d o z)) NoSpare
            move_thirteen k = rw (sym lent) (told (at_thirteen ∙ must_failed _ 13 _ (rooms ∙ k)) by.ready)

            -- granted
            pub to_move : room_at u (view book) at.container at.object ≡ true → MoveJudged b area c d o z (Ok (at.object, u))
            to_move k =
                let ranges = (sound_by_caller book area c t by).ranges in
                rw (sym lent) (
                  by.ready,
                  record {
                    granted =
                        at_thirteen
                        ∙ (must_passed _ 13 _ (rooms ∙ k)
                        ∙ ap (λ m. grant 0 [] (alter o (requota (quota_for u m)))) (its_quota book area c t d o by at e));
                    row = object_found book area c t d o by at e;
                    quota_most = (ranges at.object (object_there book area c t d o by at e)).quota_most;
                    reckoned = room_reckoned u (view book) at.container at.object (ranges at.container (container_there book area c t d o by at e)).quota_most k;
                  },
                )

-- what its judging needs at each way out but 7 and the granted one
pub ruleset ways_out = (to_z-of_z, move_four, move_five, move_six, move_nine, move_thirteen)

-- ---- doing it

module _ (b area : List ℕ) (c d o : ℕ) (z : ℤ) (u : Amount) (r : ℕ) (ready : Ready b area) (go : ToMove b area c d o z u r) where
  -- q is the quota it had, and m the one it gets
  module _ (q m : ℕ) (eq : q ≡ quota_of (view b) r) (em : m ≡ quota_for u q) where
    new_quota : m ≡ quota_for u (quota_of (view b) r)
    new_quota = em ∙ ap (quota_for u) eq

    module _ (b₁ : List ℕ) (s : view b₁ ≡ requotaed r m (view b)) where
      -- the number is still the same
      pub moved_number : next_of (view b₁) ≤ last_number
      unfolding requotaed
      moved_number = rw s ready.number

      -- moved and the number moved on, the call is done
      pub move_done : (b' : List ℕ) → length b' ≡ length b → view b' ≡ moved_on (view b₁) → Done b area c (move_quota d o z) (Ok 0) b' area
      unfolding altered_view altered_area
      move_done b' long n =
          done_granted b area c (move_quota d o z) ready b' long 0 [] (alter o (requota (quota_for u (quota_of (view b) r)))) area go.granted
          (n
          ∙ (ap moved_on (s ∙ ap (λ p. requotaed r p (view b)) new_quota)
          ∙ sym (alter_view (view b) area o r (requota (quota_for u (quota_of (view b) r))) go.row)))
          (sym (alter_area (view b) area o r (requota (quota_for u (quota_of (view b) r))) go.row))
