use mathlib.Core.Path.{refl}
use Rattle.std.proofs.Common.{eqb, rules, tests}
use Rattle.std.proofs.lemmas.Iterator.{YieldsList-from_range}
use Rattle.tables.specs.Layout.{view, link_count}
use Rattle.book.specs.Book.{mark_of}
use Rattle.book.specs.Enact.{free_link}
use Rattle.book.specs.Laws.First.{found_first}
use Rattle.book.proofs.make.free_link.Goals as goal

pub returns : goal.returns
unfolding free_link
returns c =
    found_first _ _ (λ i. eqb (mark_of (view c.args.b.now) i) 0) _ _ (λ x b q k. search (rules, tests)) link_count _ _
    (YieldsList-from_range 0 link_count link_count refl refl) c.find.ensures.ran
