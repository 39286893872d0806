use mathlib.Core.Path.{◌∙◌, ap}
use mathlib.Core.List.{List}
use mathlib.Core.Bool.{Bool}
use Rattle.tables.specs.Layout.{view}
use Rattle.book.specs.Cut.{rows_freed}
use Rattle.book.specs.Laws.Sweeps.{rows_swept_lem}
use Rattle.book.proofs.cut.sweep_rows.Goals as goal

pub returns : goal.returns
returns c =
    let v = view c.args.b.now in
    c.drop_rows.ensures ∙ ap (λ (h : List Bool). rows_freed h v) c.mark_held.ensures ∙ rows_swept_lem v
