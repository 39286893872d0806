-- Call 8: the verdict at each way out of its judging.
use Rattle.std.specs.Prelude.{ℕ, ◌≡◌, List, [], length, Ok, Err, Result}
use Rattle.std.proofs.Math.Path.{refl}
use Rattle.std.proofs.Common.{ap, ap₂, ◌∙◌, sym}
use Rattle.rules.specs.Kernel.{grant, must, must_hold, judge, entry, writing, unreference, cut, good_arguments}
use Rattle.tables.specs.Layout.{view}
use Rattle.book.specs.Book.{label_of, world_of}
use Rattle.book.specs.Cut.{cut_at, Cutting}
use Rattle.book.specs.Enact.{enact_view, enact_area}
use Rattle.calls.specs.declared.Refusal.{Refusal}
use Rattle.calls.specs.Outcome.{verdict_on, Ready, Done}
use Rattle.calls.specs.Conditions.{passed, tested}
use Rattle.book.specs.declared.find.Entry.{Entry}
use Rattle.calls.specs.Begun.{Caller}
use Rattle.calls.specs.Lookup.{open_entry}
use Rattle.calls.specs.Unreference.{ToCut, CutJudged}
use Rattle.calls.specs.Laws.Begun.{caller_judged, caller_label}
use Rattle.calls.specs.Laws.Conditions.{pass_on, fail_told}
use Rattle.calls.specs.Laws.Entry.{no_entry_told, is_entry, link_there, link_from_lem, link_to_lem, container_label}
use Rattle.calls.specs.Laws.Prelude.{must_passed, book_long, area_long, book_sound, done_granted}
use Rattle.std.specs.Result.{IsErr, IsErrAnd}
use Rattle.calls.specs.Laws.Leave.{told_on}

module _ (b area : List ℕ) (c t d o : ℕ) (book : List ℕ) (lent : book ≡ b) (by : Caller book area c t) where
  judged : verdict_on book area c (unreference d o)
      ≡ must (entry (world_of (view book) area) ((world_of (view book) area).obj c) d o) 5
      (must_hold (writing ((world_of (view book) area).obj c).label ((world_of (view book) area).obj d).label) (grant 0 [] (cut d o)))
  unfolding judge good_arguments
  judged = caller_judged book area c t by (unreference d o) refl

  -- no entry: 5
  pub cut_five : (f : Refusal) → open_entry (view book) t d o ≡ Err f → (r : Result ℕ Refusal) → IsErr r × IsErrAnd r (λ e. e ≡ f) → CutJudged b area c d o r
  cut_five f e r h = rw (sym lent) (told_on _ r h (no_entry_told book area c t d o by _ _ judged f e))

  module _ (p : Entry) (e : open_entry (view book) t d o ≡ Ok p) where
    from_seven : verdict_on book area c (unreference d o)
        ≡ must_hold (writing (label_of (view book) t) (label_of (view book) p.container)) (grant 0 [] (cut d o))
    from_seven =
        judged ∙ (must_passed _ 5 _ (is_entry book area c t d o by p e)
        ∙ ap₂ (λ x y. must_hold (writing x y) (grant 0 [] (cut d o))) (caller_label book area c t by) (container_label book area c t d o by p e))

    -- not writable: 7
    pub cut_seven : (f : Refusal) → tested (writing (label_of (view book) t) (label_of (view book) p.container)) ≡ Err f
        → (r : Result ℕ Refusal) → IsErr r × IsErrAnd r (λ e. e ≡ f) → CutJudged b area c d o r
    cut_seven f g r h = rw (sym lent) (told_on _ r h (fail_told book area _ _ _ f from_seven g by.ready))

    -- granted
    pub to_cut : tested (writing (label_of (view book) t) (label_of (view book) p.container)) ≡ passed → CutJudged b area c d o (Ok p.link)
    to_cut g =
        rw (sym lent) (
          by.ready,
          record {
            granted = from_seven ∙ pass_on _ _ g;
            link_on = link_there book area c t d o by p e;
            from_id = link_from_lem book area c t d o by p e;
            to_id = link_to_lem book area c t d o by p e;
          },
        )

-- what its judging needs at each way out but the granted one
pub ruleset ways_out = (cut_five, cut_seven)

-- ---- doing it

module _ (b area : List ℕ) (c d o l : ℕ) (ready : Ready b area) (go : ToCut b area c d o l) where
  -- the book can be cut there
  pub can_cut : Cutting b area l
  can_cut =
      record {
        entry = record { sized = book_long b area ready.areas; area_sized = area_long b area ready.areas; sound = book_sound b area ready.areas; on = go.link_on };
        numbers = ready.number;
      }

  this_cut : cut_at (view b) l ≡ cut d o
  this_cut = ap₂ cut go.from_id go.to_id

  -- cut there, the call is done
  pub cut_done : (b' area' : List ℕ) → length b' ≡ length b → view b' ≡ enact_view (cut_at (view b) l) (view b) area
      → area' ≡ enact_area (cut_at (view b) l) (view b) area → Done b area c (unreference d o) (Ok 0) b' area'
  cut_done b' area' long m n =
      done_granted b area c (unreference d o) ready b' long 0 [] (cut d o) area' go.granted
      (m ∙ ap (λ h. enact_view h (view b) area) this_cut)
      (n ∙ ap (λ h. enact_area h (view b) area) this_cut)
