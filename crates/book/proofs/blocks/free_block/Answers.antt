use mathlib.Core.Path.{refl}
use Rattle.std.proofs.Common.{eqb, rules, tests, sym, ◌∙◌}
use Rattle.std.proofs.lemmas.Iterator.{YieldsList-from_range}
use Rattle.tables.specs.Layout.{view, block_count}
use Rattle.book.specs.Book.{owner_of}
use Rattle.book.specs.Enact.{free_block}
use Rattle.book.specs.Laws.First.{found_first, first_low}
use Rattle.book.proofs.blocks.free_block.Goals as goal

pub returns-in_err-x : goal.returns-in_err-x
unfolding free_block
returns-in_err-x c =
    let e =
    found_first _ _ (λ i. eqb (owner_of (view c.args.b.now) i) 0) _ _ (λ x b q k. search (rules, tests)) block_count _ _
    (YieldsList-from_range 0 block_count block_count refl refl) c.find.ensures.ran in
    search (rules, e)

pub overflow_cast-result : goal.overflow_cast-result
overflow_cast-result c =
    let e =
    found_first _ _ (λ i. eqb (owner_of (view c.args.b.now) i) 0) _ _ (λ x b q k. search (rules, tests)) block_count _ _
    (YieldsList-from_range 0 block_count block_count refl refl) c.find.ensures.ran in
    let l = first_low block_count (λ i. eqb (owner_of (view c.args.b.now) i) 0) c.in_ok-x.x (sym e ∙ c.in_ok-x.was) in
    search (rules, l)

pub returns : goal.returns
unfolding free_block
returns c =
    let e =
    found_first _ _ (λ i. eqb (owner_of (view c.args.b.now) i) 0) _ _ (λ x b q k. search (rules, tests)) block_count _ _
    (YieldsList-from_range 0 block_count block_count refl refl) c.find.ensures.ran in
    search (rules, e)
