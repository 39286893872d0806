use native.Mathlib.Omega.{arith}
use mathlib.Core.Path.{◌∙◌}
use Rattle.tables.specs.Layout.{view}
use Rattle.book.specs.Laws.CutLinks.{cut_next, cut_enacts, cut_enacts_area}
use Rattle.book.proofs.cut.cut_entry.Goals as goal

pub move_on-requires : goal.move_on-requires
move_on-requires c =
    let a = c.args in
    let link = c.cut_link in
    omega (arith, c.requires.numbers, cut_next (view a.b.now) a.l a.area.now (view link.new.b) link.new.area link.ensures)

pub returns : goal.returns
returns c =
    let a = c.args in
    let link = c.cut_link in
    record {
      b_after = c.move_on.ensures ∙ cut_enacts (view a.b.now) a.l a.area.now (view link.new.b) link.new.area link.ensures;
      area_after = cut_enacts_area (view a.b.now) a.l a.area.now (view link.new.b) link.new.area link.ensures;
    }
