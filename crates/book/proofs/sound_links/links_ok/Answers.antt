use native.Mathlib.Omega.{arith}
use mathlib.Core.Path.{refl}
use Rattle.tables.specs.Layout.{view}
use Rattle.book.specs.Book.{root_of}
use Rattle.book.proofs.Laws.Once.{links_are}
use Rattle.book.proofs.sound_links.links_ok.Goals as goal

pub returns-then-ties_ok : goal.returns-then-ties_ok
returns-then-ties_ok c =
    let e = links_are (view c.args.b.now) c.root.result c.root.ensures in
    grind (arith, e)

pub returns-else-ties_ok : goal.returns-else-ties_ok
returns-else-ties_ok c =
    let e = links_are (view c.args.b.now) (root_of (view c.args.b.now)) refl in
    grind (arith, e)
