-- W2 at work on the areas: a book as the kernel before it could leave one, with segment 8 linked in container 7, which forbids segments (examples' Masks). NoneForbidden,
-- OldLinksSound and MasksHold are applied to it in turn. That there are such areas is what running shows (docs/TESTING.md); no theorem of this file says it.
use Rattle.std.specs.Prelude.{ℕ, true, false, ◌≡◌, List, [], length, leb}
use Rattle.std.proofs.Common.{sym, subst, ◌∙◌, leb-true}
use Rattle.std.proofs.Math.Path.{ap}
use Rattle.rules.specs.Kernel.{World, link, apply, link_segment, read, last_number, call, after, answer_of}
use Rattle.rules.specs.Fair.{Linked}
use Rattle.rules.specs.Masks.{forbidden_in}
use Rattle.tables.specs.Layout.{view, size}
use Rattle.book.specs.Enact.{enact_view}
use Rattle.book.specs.Test.{areas_b}
use Rattle.examples.specs.Masks.{morning, old, linking}
use Rattle.flytewood.specs.Called.{Called}
use Rattle.histories.specs.Areas.{world, After}
use Rattle.histories.proofs.Laws.Spelled.{spelled, ruled_on}
use Rattle.histories.proofs.Theorems.{masks_hold, none_forbidden, old_links_sound}

-- From Start to the morning's end the segment does not stand there.
pub not_yet : (b area : List ℕ) → After morning b area → forbidden_in (world b area) 7 8 ≡ false
not_yet b area a = none_forbidden morning b area a 7 8

module _ (b area : List ℕ) (a : After morning b area) (b' : List ℕ) (long : length b' ≡ size) (made : view b' ≡ enact_view (link 7 8) (view b) area) where
  kept : (areas_b b' area ≡ true) × (world b' area ≡ apply (link 7 8) (world b area))
  kept =
      let p = spelled morning b area a in
      old_links_sound b area p.good 7 8
      (subst (λ (w : World). Linked w 7 8) (sym p.spells) linking.fair)
      (leb-true _ last_number (ap (λ (w : World). leb w.next last_number) p.spells ∙ linking.going))
      b' long made

  -- it passes the test,
  pub passes : areas_b b' area ≡ true
  passes = kept.0

  pub spells_old : world b' area ≡ old
  unfolding old
  spells_old = kept.1 ∙ ap (apply (link 7 8)) (spelled morning b area a).spells

  -- the segment stands in the container that forbids it,
  pub stands : forbidden_in (world b' area) 7 8 ≡ true
  stands = ap (λ (w : World). forbidden_in w 7 8) spells_old ∙ linking.stands

  -- and stands there still after a call that reads it; MasksHold leads from there back to where it stood before.
  module _ (answer value : ℕ) (b'' area'' part : List ℕ) (d : Called b' area 6 (read 7 8 0 0 0) [] answer value b'' area'' part) where
    pub goes_on_standing : (answer ≡ 0) × (forbidden_in (world b'' area'') 7 8 ≡ true)
    goes_on_standing =
        let r = ruled_on b' area passes 6 (read 7 8 0 0 0) [] answer value b'' area'' part d in (
          r.answer_is ∙ ap (λ (w : World). answer_of (call w 6 (read 7 8 0 0 0))) spells_old ∙ linking.reads,
          ap (λ (w : World). forbidden_in w 7 8) (r.world_is ∙ ap (λ (w : World). after w 6 (read 7 8 0 0 0)) spells_old) ∙ linking.stays,
        )

    pub stood_before : forbidden_in (world b' area) 7 8 ≡ true
    stood_before = masks_hold b' area passes 6 (read 7 8 0 0 0) [] answer value b'' area'' part d 7 8 goes_on_standing.1

  -- And one more link into that container, of the same segment, answers 8.
  pub further : (answer value : ℕ) (b'' area'' : List ℕ) → Called b' area 6 (link_segment 5 8 7) [] answer value b'' area'' [] → answer ≡ 8
  further answer value b'' area'' d =
      (ruled_on b' area passes 6 (link_segment 5 8 7) [] answer value b'' area'' [] d).answer_is
      ∙ ap (λ (w : World). answer_of (call w 6 (link_segment 5 8 7))) spells_old
      ∙ linking.further
