use native.Mathlib.Omega.{arith}
use mathlib.Core.Path.{◌≡◌, ◌∙◌}
use Rattle.tables.specs.Layout.{view}
use Rattle.book.specs.Book.{mark_of}
use Rattle.book.specs.Laws.Tally.{tallied_free, tallied_more, link_from_low, link_to_low, link_quota}
use Rattle.book.proofs.sound_links.add_link.Goals as goal

pub returns-then-mark-eq0 : goal.returns-then-mark-eq0
returns-then-mark-eq0 c = tallied_free _ _ _ _ c.requires.3 (omega arith)

pub row_of-from-requires : goal.row_of-from-requires
row_of-from-requires c =
    let (low, rows, link, so_far) = c.requires in
    let on : mark_of (view c.args.b.now) c.args.l ≡ 0 → ⊥ = λ z. c.if-mark-eq0.false (c.get-mark.ensures ∙ z) in
    (c.if-mark-eq0.false, omega (arith, link_from_low (view c.args.b.now) c.args.l low link on, c.get-mark.ensures))

pub returns : goal.returns
returns c =
    let (low, rows, link, so_far) = c.requires in
    let v = view c.args.b.now in
    let on : mark_of v c.args.l ≡ 0 → ⊥ = λ z. c.if-mark-eq0.false (c.get-mark.ensures ∙ z) in
    tallied_more v c.args.l _ _ so_far _ _ _ (omega arith) (omega arith) c.get-2.ensures on
    (link_from_low v c.args.l low link on) (link_to_low v c.args.l low link on) (link_quota v c.args.l rows low link on)
