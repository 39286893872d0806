use Rattle.std.proofs.Common.{rules, sym, ◌∙◌}
use Rattle.calls.specs.Laws.CreateCategory.{both_taken}
use Rattle.calls.proofs.create_category.judge.Goals as goal

pub returns : goal.returns
returns c =
    let p = c.in_ok-book.ensures in
    both_taken _ _ _ _ _ p.0 p.1 _ (search rules) _ (sym c.ok_or.ensures.value ∙ c.in_ok-owned.was) _ (search rules) _ (sym c.ok_or-2.ensures.value ∙ c.in_ok-clear.was)
