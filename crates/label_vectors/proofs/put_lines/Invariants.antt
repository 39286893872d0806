use Rattle.std.proofs.Common.{length, drop, ◌-◌, ◌≡◌, ◌+◌, ◌*◌, ◌≤◌}
use Rattle.label_vectors.specs.Text.{put}
use Rattle.label_vectors.specs.Line.{lines_text}
use Rattle.label_vectors.proofs.put_lines.Given as goal

abbrev pub invariant-loop-i : goal.invariant-loop-i
invariant-loop-i l =
    (length l.out ≡ length l.fn.out) × (l.at ≤ l.i * 152)
    × (length (lines_text l.count l.first l.cases) ≡ l.at + length (lines_text (l.count - l.i) (l.first + l.i) (drop (l.i * 204) l.cases)))
    × (put l.fn.out 0 (lines_text l.count l.first l.cases) ≡ put l.out l.at (lines_text (l.count - l.i) (l.first + l.i) (drop (l.i * 204) l.cases)))
