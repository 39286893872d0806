-- Call 9: the verdict at each way out of its judging, and what it does.
use Rattle.std.specs.Prelude.{ℕ, Bool, true, false, not, ◌&&◌, ◌≡◌, List, [], ◌∷◌, ◌++◌, length, eqb, leb, Result, Ok, Err}
use Rattle.std.specs.Option.{is_none}
use Rattle.std.proofs.Math.Path.{refl}
use Rattle.std.proofs.Common.{sym, ap, ap₂, subst, ◌∙◌}
use Rattle.rules.specs.Kernel.{segment_code, segment, kind_code, Obj, World, Verdict, grant, must, must_hold, judge, entry, opens, forbids, fits, is_segment, writing, flow}
use Rattle.rules.specs.Kernel.{link_segment, link, good_arguments}
use Rattle.tables.specs.Layout.{view}
use Rattle.book.specs.Book.{id_of, code_of, fixed_of, quota_of, label_of, clearance_of, world_of}
use Rattle.book.specs.Enact.{enact_view, enact_area}
use Rattle.book.specs.Find.{link_between}
use Rattle.book.specs.Make.{linked_in, Linking}
use Rattle.book.specs.Units.{spare_at}
use Rattle.book.specs.Laws.First.{found_cases}
use Rattle.book.specs.Laws.Find.{row_low, link_linked, link_unlinked}
use Rattle.book.specs.Laws.Tie.{object_fixed}
use Rattle.calls.specs.declared.Refusal.{Refusal}
use Rattle.calls.specs.declared.Refusal.TheVariants.{MaskForbids, QuotaFixed, AlreadyLinked, NoSpare, WrongKind}
use Rattle.book.specs.declared.find.Entry.{Entry}
use Rattle.calls.specs.Outcome.{verdict_on, Means, Ready, Told, Done}
use Rattle.calls.specs.Begun.{Caller}
use Rattle.calls.specs.Lookup.{open_container, open_entry}
use Rattle.calls.specs.Masks.{forbids_at}
use Rattle.calls.specs.LinkSegment.{ToLink, LinkJudged, linkable}
use Rattle.calls.specs.Laws.Begun.{caller_judged, caller_label, caller_clearance, placed_by_caller}
use Rattle.calls.specs.Laws.Entry.{no_entry, is_entry, object_there, object_named, object_found, object_is, segment_here, no_segment, its_label, its_quota}
use Rattle.calls.specs.Laws.Lookup.{shut_is, five_told, not_open, is_open, holder_there, holder_named, holder_found, holder_label, holder_forbids, holder_fits}
use Rattle.calls.specs.Laws.Prelude.{must_passed, must_failed, book_long, done_granted}
use Rattle.calls.specs.Laws.Tested.{means_tested, means_both}
use Rattle.std.specs.Result.{IsErr, IsErrAnd}
use Rattle.calls.specs.Laws.Leave.{told, told_on}

-- the tests from 8 on
abbrev from_eight : Bool → Bool → Bool → Bool → ℕ → ℕ → Verdict
from_eight forbidden fixed new fitting o d =
    must (not forbidden) 8 (must fixed 9 (must new 10 (must fitting 13 (grant 0 [] (link d o)))))

abbrev from_six : World → Obj → ℕ → ℕ → Verdict
from_six w t o d =
    must (is_segment (w.obj o).kind) 6
    (must_hold (writing t.label (w.obj d).label ++ (flow (w.obj o).label t.clearance ∷ []))
    (from_eight (forbids (w.obj d).mask segment) (w.obj o).fixed (not (w.linked d o)) (fits w d (w.obj o).quota) o d))

and_false : (a : Bool) → (a && false) ≡ false
and_false true = refl
and_false false = refl

module _ (b area : List ℕ) (c t d1 o d : ℕ) (book : List ℕ) (lent : book ≡ b) (by : Caller book area c t) where
  judged : verdict_on book area c (link_segment d1 o d)
      ≡ must (entry (world_of (view book) area) ((world_of (view book) area).obj c) d1 o && opens (world_of (view book) area) ((world_of (view book) area).obj c) d) 5
      (from_six (world_of (view book) area) ((world_of (view book) area).obj c) o d)
  unfolding judge good_arguments
  judged = caller_judged book area c t by (link_segment d1 o d) refl

  -- no entry: 5
  pub link_five : (f : Refusal) → open_entry (view book) t d1 o ≡ Err f → (r : Result (ℕ × ℕ) Refusal) → IsErr r × IsErrAnd r (λ e. e ≡ f) → LinkJudged b area c d1 o d r
  link_five f e r h =
      let (n, q) = no_entry book area c t d1 o by f e in
      rw (sym lent)
      (told_on _ r h (five_told by.ready f q (judged ∙ must_failed _ 5 _ (ap (λ a. a && opens (world_of (view book) area) ((world_of (view book) area).obj c) d) n))))

  -- no container to link it in: 5
  pub nowhere_five : (f : Refusal) → open_container (view book) t d ≡ Err f → (r : Result (ℕ × ℕ) Refusal) → IsErr r × IsErrAnd r (λ e. e ≡ f) → LinkJudged b area c d1 o d r
  nowhere_five f e r h =
      rw (sym lent)
      (told_on _ r h
      (five_told by.ready f (shut_is (view book) t d f e)
      (judged
      ∙ must_failed _ 5 _
      (ap (λ a. entry (world_of (view book) area) ((world_of (view book) area).obj c) d1 o && a) (not_open book area c t d by f e)
      ∙ and_false (entry (world_of (view book) area) ((world_of (view book) area).obj c) d1 o)))))

  -- it is at place p and to be linked in the container at row k
  module _ (p : Entry) (e : open_entry (view book) t d1 o ≡ Ok p) (k : ℕ) (g : open_container (view book) t d ≡ Ok k) where
    at_six : verdict_on book area c (link_segment d1 o d) ≡ from_six (world_of (view book) area) ((world_of (view book) area).obj c) o d
    at_six = judged ∙ must_passed _ 5 _ (ap₂ ◌&&◌ (is_entry book area c t d1 o by p e) (is_open book area c t d by k g))

    -- no segment: 6
    pub link_six : (code_of (view book) p.object ≡ segment_code → ⊥) → Told b area (verdict_on b area c (link_segment d1 o d)) WrongKind
    link_six s = rw (sym lent) (told (at_six ∙ must_failed _ 6 _ (no_segment book area c t d1 o by p e s)) by.ready)

    module _ (s : code_of (view book) p.object ≡ segment_code) where
      forbidden : forbids ((world_of (view book) area).obj d).mask segment ≡ forbids_at (view book) k segment_code
      unfolding kind_code
      forbidden = holder_forbids book area c t d by k g segment

      fixed_is : ((world_of (view book) area).obj o).fixed ≡ eqb (fixed_of (view book) p.object) 1
      fixed_is = ap (λ (v : Obj). v.fixed) (object_is book area c t d1 o by p e) ∙ object_fixed (view book) area p.object s

      named : (world_of (view book) area).linked d o ≡ (world_of (view book) area).linked (id_of (view book) k) (id_of (view book) p.object)
      named = ap₂ (world_of (view book) area).linked (sym (holder_named book area c t d by k g)) (sym (object_named book area c t d1 o by p e))

      is_new : not ((world_of (view book) area).linked d o) ≡ is_none (link_between (view book) k p.object)
      is_new =
          found_cases (link_between (view book) k p.object)
          (λ m v. ap not (named ∙ link_linked (view book) area k p.object m v) ∙ sym (ap is_none v))
          (λ v. ap not (named ∙ link_unlinked (view book) area k p.object (placed_by_caller book area c t by) (holder_there book area c t d by k g) (object_there book area c t d1 o by p e) v)
          ∙ sym (ap is_none v))

      fitting : fits (world_of (view book) area) d ((world_of (view book) area).obj o).quota ≡ leb (quota_of (view book) p.object) (spare_at (view book) k)
      fitting =
          holder_fits book area c t d by k g ((world_of (view book) area).obj o).quota
          ∙ ap (λ (q : ℕ). leb q (spare_at (view book) k)) (its_quota book area c t d1 o by p e)

      -- the tests from 7 on, of the rows
      from_seven : verdict_on book area c (link_segment d1 o d)
          ≡ must_hold (writing (label_of (view book) t) (label_of (view book) k) ++ (flow (label_of (view book) p.object) (clearance_of (view book) t) ∷ []))
          (from_eight (forbids_at (view book) k segment_code) (eqb (fixed_of (view book) p.object) 1) (is_none (link_between (view book) k p.object))
          (leb (quota_of (view book) p.object) (spare_at (view book) k)) o d)
      from_seven =
          at_six
          ∙ must_passed _ 6 _ (segment_here book area c t d1 o by p e s)
          ∙ (λ i. must_hold (writing (caller_label book area c t by i) (holder_label book area c t d by k g i)
          ++ (flow (its_label book area c t d1 o by p e i) (caller_clearance book area c t by i) ∷ []))
          (from_eight (forbidden i) (fixed_is i) (is_new i) (fitting i) o d))

      to_link : verdict_on book area c (link_segment d1 o d) ≡ grant 0 [] (link d o) → ToLink book area c d1 o d k p.object
      to_link v =
          record {
            granted = v;
            container_row_lem = holder_found book area c t d by k g;
            object_row = object_found book area c t d1 o by p e;
          }

      -- what is answered of them is what the call comes to
      pub link_judged : (j : Result (ℕ × ℕ) Refusal) → j ≡ linkable (view book) t k p.object → LinkJudged b area c d1 o d j
      link_judged j f =
          let go : ℕ × ℕ → Type 0 = λ x. ToLink book area c d1 o d x.0 x.1 in
          let v = verdict_on book area c (link_segment d1 o d) in
          rw (sym lent)
          (subst (Means book area v go) (sym f)
          (means_both book area by.ready go v (writing (label_of (view book) t) (label_of (view book) k)) _ _ refl _ _ from_seven
          (λ e7. means_tested book area by.ready go v _ MaskForbids 8 _ _ refl e7
          (λ g8 e8. means_tested book area by.ready go v _ QuotaFixed 9 _ _ refl e8
          (λ g9 e9. means_tested book area by.ready go v _ AlreadyLinked 10 _ _ refl e9
          (λ g10 e10. means_tested book area by.ready go v _ NoSpare 13 _ _ refl e10
          (λ g13 e13. (by.ready, to_link e13))))))))

-- what its judging needs at each way out
pub ruleset ways_out = (link_five, nowhere_five, link_six, link_judged)

-- ---- doing it

module _ (b area : List ℕ) (c d1 o d k r : ℕ) (ready : Ready b area) (go : ToLink b area c d1 o d k r) where
  -- a link can be added there
  pub can_link : Linking b k r
  can_link =
      record {
        going = record { whole = book_long b area ready.areas; numbers = ready.number };
        container_low = row_low (view b) d k go.container_row_lem;
        object_low = row_low (view b) o r go.object_row;
      }

  links : enact_view (link d o) (view b) area ≡ linked_in k r (view b)
  unfolding enact_view linked_in
  links = rw (go.container_row_lem, go.object_row)

  same_area : area ≡ enact_area (link d o) (view b) area
  unfolding enact_area
  same_area = refl

  -- linked there, the call is done
  pub link_done : (b' : List ℕ) → length b' ≡ length b → view b' ≡ linked_in k r (view b) → Done b area c (link_segment d1 o d) (Ok 0) b' area
  link_done b' long m =
      done_granted b area c (link_segment d1 o d) ready b' long 0 [] (link d o) area go.granted (m ∙ sym links) same_area
