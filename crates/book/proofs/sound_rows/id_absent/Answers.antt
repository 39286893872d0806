use Rattle.std.proofs.Common.{rules, not, refl}
use borrow.Author.Tests.{tests}
use Rattle.tables.specs.Layout.{view}
use Rattle.book.specs.Book.{has_id}
use Rattle.book.specs.Laws.Tests.{every_all}
use Rattle.book.proofs.sound_rows.id_absent.Goals as goal

pub returns : goal.returns
returns c = every_all c.args.n (λ r. not (has_id (view c.args.b.now) c.args.id r)) _ _ _ c.all.ensures.ran refl (λ x b q k. search (rules, tests))
