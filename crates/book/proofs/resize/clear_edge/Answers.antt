use Prim.Native.Nat.{ℕ, ◌+◌, ◌*◌, ◌%◌}
use mathlib.Core.Path.{sym, ◌∙◌, ap₂}
use Rattle.rules.specs.Kernel.{block_size}
use Rattle.tables.specs.Layout.{view}
use Rattle.book.specs.Resize.{cleared}
use Rattle.book.specs.Laws.Cleared.{edge_at, edge_nothing}
use Rattle.book.proofs.resize.clear_edge.Goals as goal

pub returns-in_default : goal.returns-in_default
returns-in_default c =
    let a = c.args in
    sym (edge_nothing a.r a.lo a.hi (view a.b.now) a.area.now (sym c.block_of.ensures ∙ c.in_default.is))

pub returns : goal.returns
returns c =
    let a = c.args in
    let x = c.in-Some in
    c.clear_run.ensures
    ∙ ap₂ (λ (p y : ℕ). cleared (block_size * p + a.lo % block_size) (block_size * p + y) a.area.now) c.from-base.ensures c.edge_end.ensures
    ∙ sym (edge_at a.r a.lo a.hi (view a.b.now) a.area.now x.x (sym c.block_of.ensures ∙ x.is))
