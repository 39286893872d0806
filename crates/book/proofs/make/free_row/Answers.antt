use Prim.Native.Nat.{◌-◌}
use Rattle.std.proofs.Common.{eqb, rules, tests}
use Rattle.tables.specs.Layout.{view, row_count}
use Rattle.book.specs.Book.{code_of}
use Rattle.book.specs.Enact.{free_row}
use Rattle.book.specs.Laws.First.{found_first, up_to}
use Rattle.book.proofs.make.free_row.Goals as goal

pub returns : goal.returns
unfolding free_row
returns c =
    found_first _ _ (λ i. eqb (code_of (view c.args.b.now) i) 0) _ _ (λ x b q k. search (rules, tests)) row_count _ _
    (up_to (row_count - 1) _ c.new.ensures.start c.new.ensures.end c.new.ensures.exhausted) c.find.ensures.ran
