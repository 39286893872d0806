use mathlib.Core.Path.{◌≡◌, sym, ◌∙◌}
use native.Mathlib.Omega.{arith}
use Prim.Native.Nat.{◌+◌, ◌*◌}
use Rattle.labels.specs.Core.Bytes.{write_more, write_end}
use Rattle.labels.proofs.bytes.put_words.Goals as goal

pub loop-i-preserved : goal.loop-i-preserved
loop-i-preserved c =
    let l = c.loop-i in
    let place : c.args.from + (l.i + 1) * 8 ≡ c.args.from + l.i * 8 + 8 = omega arith in (
      omega arith,
      rw (c.put.ensures.0, place) (l.invariant.1 ∙ write_more l.out _ _ l.i (omega arith) (omega arith)),
    )

pub returns : goal.returns
returns c = let l = c.loop-i in sym (l.invariant.1 ∙ write_end l.out _ _ l.i (omega arith))
