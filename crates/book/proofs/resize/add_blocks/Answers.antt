use Prim.Native.Nat.{◌-◌, ◌+◌}
use native.Mathlib.Omega.{arith}
use mathlib.Core.Path.{refl, sym, ◌∙◌, ap, ap₂}
use Rattle.tables.specs.Layout.{view}
use Rattle.book.specs.Enact.{blocks_added}
use Rattle.book.specs.Resize.{frees_cleared}
use Rattle.book.specs.Laws.Cleared.{adds_more, adds_end, frees_more, frees_end}
use Rattle.book.proofs.resize.add_blocks.Goals as goal

pub loop-i-init : goal.loop-i-init
loop-i-init c = (refl, refl)

pub loop-i-preserved : goal.loop-i-preserved
loop-i-preserved c =
    let a = c.args in
    let l = c.loop-i in
    let d = c.add_block.ensures in
    let left = a.to - (l.i + 1) in (
      ap (blocks_added a.r (l.i + 1) left) d.0 ∙ sym (adds_more a.r l.i a.to (view l.b) (omega arith)) ∙ l.invariant.0,
      ap₂ (frees_cleared a.r (l.i + 1) left) d.0 d.1 ∙ sym (frees_more a.r l.i a.to (view l.b) l.area (omega arith)) ∙ l.invariant.1,
    )

pub returns : goal.returns
returns c =
    let a = c.args in
    let l = c.loop-i in (
      sym (adds_end a.r l.i a.to (view l.b) (omega arith)) ∙ l.invariant.0,
      sym (frees_end a.r l.i a.to (view l.b) l.area (omega arith)) ∙ l.invariant.1,
    )
