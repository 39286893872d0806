use mathlib.Core.Path.{◌≡◌, sym, ◌∙◌, ap}
use Prim.Native.Nat.{ℕ}
use lib.ListN.{get_or}
use Rattle.tables.specs.Layout.{view}
use Rattle.book.specs.Book.{to_of}
use Rattle.book.specs.Tally.{links_below}
use Rattle.book.specs.Laws.Tally.{link_to_low}
use Rattle.book.proofs.Laws.Once.{once_first, once_again}
use Rattle.book.proofs.sound_links.once.Goals as goal
use Rattle.book.proofs.sound_links.once.Goals.{After-from-to}

-- what the array has at the link's object
counted : (c : After-from-to) → get_or c.args.counts.now c.from-to.result 0 ≡ links_below (view c.args.b.now) c.args.l (to_of (view c.args.b.now) c.args.l)
counted c =
    let v = view c.args.b.now in
    let (low, link, below) = c.requires in
    ap (λ (x : ℕ). get_or c.args.counts.now x 0) (c.from-to.ensures ∙ c.get-2.ensures)
    ∙ below (to_of v c.args.l) (link_to_low v c.args.l low link (λ z. c.if-get-eq0.false (c.get.ensures ∙ z)))

pub returns-then-counts-to-eq0 : goal.returns-then-counts-to-eq0
returns-then-counts-to-eq0 c = sym (once_first (view c.args.b.now) c.args.l c.requires.0 (sym (counted (goal.at.returns-then-counts-to-eq0 c).After-from-to) ∙ c.if-counts-to-eq0.true))

pub returns : goal.returns
returns c =
    c.link_new.ensures
    ∙ sym (once_again (view c.args.b.now) c.args.l c.requires.0 (λ z. c.if-get-eq0.false (c.get.ensures ∙ z)) (λ z. c.if-counts-to-eq0.false (counted (goal.at.returns c).After-from-to ∙ z)))
