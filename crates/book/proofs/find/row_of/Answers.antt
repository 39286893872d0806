use Prim.Native.Nat.{◌-◌}
use Rattle.std.proofs.Common.{rules, tests}
use Rattle.tables.specs.Layout.{view, row_count}
use Rattle.book.specs.Book.{has_id, row_of}
use Rattle.book.specs.Laws.First.{found_first, up_to}
use Rattle.book.proofs.find.row_of.Goals as goal

pub returns : goal.returns
unfolding row_of
returns c =
    found_first _ _ (has_id (view c.args.b.now) c.args.id) _ _ (λ x b q k. search (rules, tests)) row_count _ _
    (up_to (row_count - 1) _ c.new.ensures.start c.new.ensures.end c.new.ensures.exhausted) c.find.ensures.ran
