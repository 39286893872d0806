use Prim.Native.Nat.{ℕ, ◌+◌}
use mathlib.Core.Path.{sym, ◌∙◌, ap}
use Rattle.tables.specs.Layout.{view, owner_t, index_t, put_t}
use Rattle.book.specs.Laws.Cleared.{added_at, added_nothing}
use Rattle.book.proofs.resize.add_block.Goals as goal

pub returns-in_default : goal.returns-in_default
returns-in_default c =
    let a = c.args in
    let n = added_nothing a.r a.k (view a.b.now) a.area.now (sym c.free_block.ensures ∙ c.in_default.is) in
    (sym n.0, sym n.1)

pub returns : goal.returns
returns c =
    let a = c.args in
    let x = c.in-Some in
    let d = added_at a.r a.k (view a.b.now) a.area.now x.fresh (sym c.free_block.ensures ∙ x.is) in
    (c.put-2.ensures ∙ ap (put_t index_t x.fresh a.k) (c.put.ensures ∙ ap (λ (n : ℕ). put_t owner_t x.fresh (n + 1) (view a.b.now)) c.from.ensures) ∙ sym d.0, c.clear_block.ensures ∙ sym d.1)
