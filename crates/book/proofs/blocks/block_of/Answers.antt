use Prim.Native.Nat.{◌-◌}
use Rattle.std.proofs.Common.{rules, tests}
use Rattle.tables.specs.Layout.{view, block_count}
use Rattle.book.specs.Book.{is_block}
use Rattle.book.specs.Laws.First.{found_first, up_to}
use Rattle.book.proofs.blocks.block_of.Goals as goal

pub returns : goal.returns
returns c =
    found_first _ _ (is_block (view c.args.b.now) c.args.r c.args.k) _ _ (λ x b q k. search (rules, tests)) block_count _ _
    (up_to (block_count - 1) _ c.new.ensures.start c.new.ensures.end c.new.ensures.exhausted) c.find.ensures.ran
