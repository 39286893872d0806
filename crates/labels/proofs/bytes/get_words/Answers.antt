use mathlib.Core.Path.{◌≡◌, sym, ◌∙◌}
use native.Mathlib.Omega.{arith}
use Prim.Native.Nat.{◌+◌, ◌*◌}
use lib.ListN.{length-set}
use Rattle.labels.specs.Core.Bytes.{read_more, read_end}
use Rattle.labels.proofs.bytes.get_words.Goals as goal

pub loop-i-preserved : goal.loop-i-preserved
loop-i-preserved c =
    let l = c.loop-i in
    let place : c.args.from + (l.i + 1) * 8 ≡ c.args.from + l.i * 8 + 8 = omega arith in (
      simp length-set l.invariant.0,
      rw (c.get.ensures, place) (l.invariant.1 ∙ read_more _ _ l.words l.i _ (omega arith) l.invariant.0),
    )

pub returns : goal.returns
returns c = let l = c.loop-i in sym (l.invariant.1 ∙ read_end _ _ l.words l.i _ (omega arith) l.invariant.0)
