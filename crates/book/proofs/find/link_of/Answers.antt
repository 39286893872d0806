use mathlib.Core.Path.{refl}
use Rattle.std.proofs.Common.{rules, tests}
use Rattle.std.proofs.lemmas.Iterator.{YieldsList-from_range}
use Rattle.tables.specs.Layout.{view, link_count}
use Rattle.book.specs.Find.{leads, link_between}
use Rattle.book.specs.Laws.First.{found_first}
use Rattle.book.proofs.find.link_of.Goals as goal

pub returns : goal.returns
unfolding link_between
returns c =
    found_first _ _ (leads (view c.args.b.now) c.args.c c.args.o) _ _ (λ x b q k. search (rules, tests)) link_count _ _
    (YieldsList-from_range 0 link_count link_count refl refl) c.find.ensures.ran
