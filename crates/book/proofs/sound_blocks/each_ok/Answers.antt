use native.Mathlib.Omega.{arith}
use mathlib.Core.Bool.{true}
use mathlib.Core.Path.{◌≡◌, refl, sym, ◌∙◌}
use Rattle.tables.specs.Layout.{view, block_count}
use Rattle.book.specs.Test.{every, block_b}
use Rattle.book.specs.Laws.Tests.{every_more}
use Rattle.book.proofs.Laws.Seen.{seen_none, used_none, used_more, blocks_fail, blocks_end}
use Rattle.book.proofs.sound_blocks.each_ok.Goals as goal

pub loop-i-init : goal.loop-i-init
unfolding every
loop-i-init c =
    let v = view c.args.b.now in
    (sym (used_none v), omega arith, refl, seen_none v c.args.seen.now c.requires.3)

pub returns-then-not-block_ok : goal.returns-then-not-block_ok
returns-then-not-block_ok c =
    sym (blocks_fail (view c.args.b.now) c.loop-i.i
    c.loop-i-test.true (sym c.block_ok.ensures.0 ∙ c.if-not-block_ok.true))

pub loop-i-preserved : goal.loop-i-preserved
loop-i-preserved c =
    let v = view c.args.b.now in
    let turn = c.loop-i in
    let good : c.block_ok.result ≡ true = c.if-not-block_ok.false in (
      omega (arith, used_more v turn.i, turn.invariant.0, c.used-sum.ensures.0),
      omega (arith, turn.invariant.1, c.used-sum.ensures.1),
      every_more turn.i (block_b v)
          turn.invariant.2 (sym c.block_ok.ensures.0 ∙ good),
      c.block_ok.ensures.1 good,
    )

pub returns : goal.returns
returns c =
    let turn = c.loop-i in
    let e : turn.i ≡ block_count = omega arith in
    blocks_end (view c.args.b.now) turn.i turn.sum c.args.asked e turn.invariant.2 turn.invariant.0 c.requires.0
