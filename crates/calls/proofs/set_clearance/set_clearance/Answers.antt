use Rattle.std.specs.Prelude.{refl}
use Rattle.std.proofs.Common.{arith}
use Rattle.calls.specs.Laws.Relabel.{relabel_done}
use Rattle.calls.proofs.set_clearance.set_clearance.Goals as goal

pub returns : goal.returns
returns c =
    let m = c.in-Ok.ensures in
    let same = c.array_in_mut-book.ensures.value in
    relabel_done _ _ _ _ _ _ _ _ _ m.0 m.1 _ _ (rw same at c.label_of-mine.ensures) refl
    _ (omega arith) (rw same at c.take_labels.ensures)
