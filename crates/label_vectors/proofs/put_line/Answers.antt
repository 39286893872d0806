use Rattle.std.proofs.Common.{arith}
use Rattle.label_vectors.specs.Line.Laws.{line_put}
use Rattle.label_vectors.proofs.put_line.Goals as goal

pub returns : goal.returns
returns c =
    let a = c.args in
    line_put a.out.now a.at a.index a.case.now _ _ _ _ _ _ _ _ (omega arith) c.decimal-indexed.ensures c.copy-spaced.ensures
    c.put_answer-answered.ensures c.copy.ensures
