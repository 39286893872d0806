use Rattle.std.proofs.Common.{◌≡◌, ◌+◌, ◌-◌, ◌*◌, sym, ◌∙◌, arith, take, drop}
use Rattle.label_vectors.specs.Line.Laws.{line_length, lines_more, lines_end}
use Rattle.label_vectors.proofs.put_lines.Goals as goal

pub loop-i-preserved : goal.loop-i-preserved
loop-i-preserved c =
    let l = c.loop-i in
    let a = c.args in
    let p = c.put_line-at in
    let part : (l.i * 204 + 204) - l.i * 204 ≡ 204 = omega arith in
    let index : a.first + (l.i + 1) ≡ a.first + l.i + 1 = omega arith in
    let start : (l.i + 1) * 204 ≡ l.i * 204 + 204 = omega arith in
    let (e, f) =
    lines_more (a.first + l.i) (l.i * 204) a.cases.now l.out l.at (a.count - (l.i + 1)) (a.count - l.i) _ _ p.result (omega arith) (rw part) (omega arith) p.ensures in
    let h = line_length (a.first + l.i) (take (l.i * 204 + 204 - l.i * 204) (drop (l.i * 204) a.cases.now)) in
    (omega arith, omega arith, rw (index, start) (l.invariant.2 ∙ e), rw (index, start) (l.invariant.3 ∙ f))

pub returns : goal.returns
returns c =
    let l = c.loop-i in
    let (e, f) = lines_end (c.args.first + l.i) (l.i * 204) c.args.cases.now l.out l.at (c.args.count - l.i) (omega arith) in
    (sym (l.invariant.2 ∙ e), sym (l.invariant.3 ∙ f))
