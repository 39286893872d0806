use Prim.Native.Nat.{ℕ}
use native.Mathlib.Omega.{arith}
use mathlib.Core.Path.{◌≡◌, sym, ◌∙◌, ap, subst}
use Rattle.tables.specs.Layout.{view, row_count}
use Rattle.book.specs.Seen.{offset_of, two_bytes, Offsets}
use Rattle.book.proofs.Laws.Seen.{offset_none, offset_more, offset_all, offsets_none, offsets_more}
use Rattle.book.proofs.sound_blocks.place.Goals as goal

pub loop-r-init : goal.loop-r-init
loop-r-init c =
    let v = view c.args.b.now in
    (sym (offset_none v), omega arith, offsets_none v c.args.offsets.now c.requires)

pub loop-r-preserved : goal.loop-r-preserved
loop-r-preserved c =
    let v = view c.args.b.now in
    let turn = c.loop-r in (
      omega (arith, offset_more v turn.r, turn.invariant.0, c.needed-sum.ensures.0),
      omega (arith, turn.invariant.1, c.needed-sum.ensures.1),
      offsets_more v turn.r turn.offsets turn.invariant.2 c.loop-r-test.true (two_bytes turn.sum) (ap two_bytes turn.invariant.0),
    )

pub returns : goal.returns
returns c =
    let v = view c.args.b.now in
    let turn = c.loop-r in
    let e : turn.r ≡ row_count = omega arith in
    (turn.invariant.0 ∙ ap (offset_of v) e ∙ offset_all v, subst (λ (x : ℕ). Offsets v x turn.offsets) e turn.invariant.2)
