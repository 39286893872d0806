use mathlib.Core.Path.{sym, ◌∙◌}
use Rattle.tables.specs.Layout.{view}
use Rattle.book.specs.Laws.CutLinks.{entry_linked, still_ended, still_blocked, whole_cut}
use Rattle.book.proofs.cut.cut_link.Goals as goal

pub turn_off-requires : goal.turn_off-requires
turn_off-requires c =
    let a = c.args in
    entry_linked a.b.now a.area.now a.l c.requires

pub sweep_rows-requires : goal.sweep_rows-requires
sweep_rows-requires c =
    let a = c.args in
    let off = c.turn_off in
    still_ended a.b.now a.area.now a.l c.requires off.new.b off.ensures.unlinked (off.array_long ∙ sym c.told-b)

pub sweep_blocks-requires : goal.sweep_blocks-requires
sweep_blocks-requires c =
    let a = c.args in
    let off = c.turn_off in
    let rows = c.sweep_rows in
    still_blocked a.b.now a.area.now a.l c.requires off.new.b off.ensures.unlinked rows.new.b rows.ensures (rows.array_long ∙ sym c.told-b)

pub returns : goal.returns
returns c =
    let a = c.args in
    let off = c.turn_off in
    let rows = c.sweep_rows in
    let blocks = c.sweep_blocks in
    whole_cut a.b.now a.area.now a.l c.requires off.new.b off.ensures.unlinked rows.new.b rows.ensures
    (view blocks.new.b) blocks.ensures.0 blocks.new.area blocks.ensures.1
