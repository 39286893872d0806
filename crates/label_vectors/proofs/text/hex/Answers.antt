use Rattle.std.proofs.Common.{◌≡◌, ◌+◌, ◌*◌, sym, ◌∙◌, arith, length-set}
use Rattle.label_vectors.specs.Text.Laws.{hex_length, hex_more, hex_end}
use Rattle.label_vectors.proofs.text.hex.Goals as goal

pub loop-i-preserved : goal.loop-i-preserved
loop-i-preserved c =
    let l = c.loop-i in
    let place : c.args.at + (l.i + 1) * 2 ≡ c.args.at + l.i * 2 + 1 + 1 = omega arith in (
      simp length-set (omega arith),
      rw (c.digit.ensures, c.digit-in-loop-i.ensures, place) (l.invariant.1 ∙ hex_more l.out _ _ l.i (omega arith) (omega arith)),
    )

pub returns : goal.returns
returns c = let l = c.loop-i in (rw (hex_length _) (omega arith), sym (l.invariant.1 ∙ hex_end l.out _ _ l.i (omega arith)))
