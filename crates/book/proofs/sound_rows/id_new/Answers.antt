use Prim.Native.Nat.{ℕ, ◌+◌}
use mathlib.Core.Bool.{not}
use mathlib.Core.Path.{◌≡◌, sym, ◌∙◌, ap, ap₂, subst}
use borrow.Author.Tests.{eqb-true}
use Rattle.tables.specs.Layout.{view}
use Rattle.book.specs.Book.{id_of, has_id}
use Rattle.book.specs.Test.{every, new_b}
use Rattle.book.specs.Marks.{mark_place, mark_at, Marked}
use Rattle.book.specs.Laws.Marks.{marked_again, marked_more, unmarked_new}
use Rattle.book.proofs.sound_rows.id_new.Goals as goal

pub returns-then-not-has_mark : goal.returns-then-not-has_mark
returns-then-not-has_mark c =
    let v = view c.args.b.now in
    let at_mark = c.mark_of-place in
    let place : at_mark.result ≡ mark_place (id_of v c.args.r) = at_mark.ensures.0 ∙ ap mark_place c.requires.0 in
    let off = sym c.has_mark.ensures ∙ c.if-not-has_mark.true in (
      sym (unmarked_new v c.args.r c.args.marks.now c.requires.1 at_mark.result place off),
      subst (Marked v (c.args.r + 1)) (sym c.set_mark.ensures)
          (marked_more v c.args.r c.args.marks.now c.requires.1 at_mark.result place at_mark.ensures.1),
    )

pub returns : goal.returns
unfolding new_b
returns c =
    let v = view c.args.b.now in
    let at_mark = c.mark_of-place in
    let place : at_mark.result ≡ mark_place (id_of v c.args.r) = at_mark.ensures.0 ∙ ap mark_place c.requires.0 in
    let on = eqb-true (mark_at c.args.marks.now at_mark.result) 1 (sym c.has_mark.ensures ∙ c.if-not-has_mark.false) in
    (c.id_absent.ensures ∙ ap₂ (λ (n id : ℕ). every n (λ r. not (has_id v id r))) c.from.ensures c.requires.0, marked_again v c.args.r c.args.marks.now c.requires.1 at_mark.result place on)
