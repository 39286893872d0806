use Rattle.std.proofs.Common.{rules, refl}
use Rattle.calls.specs.Laws.Relabel.{relabel_valued}
use Rattle.calls.proofs.create_category.create_category.Goals as goal

pub returns : goal.returns
returns c =
    let p = c.in-Ok.ensures in
    relabel_valued _ _ _ _ _ _ _ _ _ p.0 p.1 _ (search rules) _ _ refl refl _ (search rules) (search rules)
