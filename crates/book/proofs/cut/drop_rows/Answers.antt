use Prim.Native.Nat.{ℕ, ◌+◌}
use native.Mathlib.Omega.{arith}
use mathlib.Core.Path.{ap}
use mathlib.Core.Bool.{false}
use lib.ListN.{get_or}
use Rattle.tables.specs.Layout.{view, kind_t}
use Rattle.tables.specs.Layout.Laws.{tab_of_long}
use Rattle.book.specs.Laws.Sweeps.{RowsTo, rows_start, rows_more, rows_end}
use Rattle.book.proofs.cut.drop_rows.Goals as goal
use Rattle.book.proofs.cut.drop_rows.Goals.{After-drop_row}

-- what is left once row r is dropped too
more : (c : After-drop_row) → RowsTo c.args.held.now (view c.args.b.now) (c.loop-r.r + 1) (view c.drop_row.new.b)
more c =
    rows_more _ _ _ _ _ c.loop-r.invariant (tab_of_long c.args.b.now kind_t) (omega arith) _ _ c.root-top.ensures (ap (λ (i : ℕ). get_or c.args.held.now i false) c.from.ensures) c.drop_row.ensures

pub loop-r-init : goal.loop-r-init
loop-r-init c = rows_start _ _

pub loop-r-preserved : goal.loop-r-preserved
loop-r-preserved c = more (goal.at.loop-r-preserved c).After-drop_row

pub returns-2 : goal.returns-2
returns-2 c = rows_end _ _ _ _ (more (goal.at.returns-2 c).After-drop_row) (tab_of_long c.args.b.now kind_t) (omega arith)
