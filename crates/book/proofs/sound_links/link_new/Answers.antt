use Rattle.std.proofs.Common.{rules, not, refl}
use borrow.Author.Tests.{tests}
use Rattle.tables.specs.Layout.{view}
use Rattle.book.specs.Test.{same_b}
use Rattle.book.specs.Laws.Tests.{every_all}
use Rattle.book.proofs.sound_links.link_new.Goals as goal

pub returns : goal.returns
returns c = every_all c.args.l (λ m. not (same_b (view c.args.b.now) c.args.l m)) _ _ _ c.all.ensures.ran refl (λ x b q k. search (rules, tests))
