use Rattle.std.proofs.Common.{rules, refl, ◌∙◌, get_or}
use borrow.Author.Tests.{tests}
use Rattle.tables.specs.Layout.{view, row_count}
use Rattle.book.specs.Test.{tie_b}
use Rattle.book.specs.Laws.Tests.{every_all, every_same}
use Rattle.book.specs.Laws.Tally.{tie_end}
use Rattle.book.proofs.sound_links.ties_ok.Goals as goal

pub returns : goal.returns
returns c =
    let v = view c.args.b.now in
    let n = c.args.counts.now in
    let u = c.args.charges.now in
    every_all row_count (λ r. tie_b v r (get_or n r 0) (get_or u r 0)) _ _ _ c.all.ensures.ran refl (λ x b q k. search (rules, tests))
    ∙ every_same row_count _ _ (tie_end v n u c.requires)
