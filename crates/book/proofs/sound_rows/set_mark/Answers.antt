use Rattle.book.specs.Laws.Marks.{mark_set_lem}
use Rattle.book.proofs.sound_rows.set_mark.Goals as goal

pub returns : goal.returns
returns c = mark_set_lem c.args.marks.now c.args.place
