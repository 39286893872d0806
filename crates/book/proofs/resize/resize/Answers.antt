use native.Mathlib.Omega.{arith}
use mathlib.Core.Path.{◌∙◌}
use Rattle.tables.specs.Layout.{view}
use Rattle.book.specs.Laws.Tie.{code_live}
use Rattle.book.specs.Laws.WorldSound.{placed}
use Rattle.book.specs.Laws.Shapes.{view_shape}
use Rattle.book.specs.Laws.Cleared.{resize_made}
use Rattle.book.specs.Laws.Resize.{resized_area_lem}
use Rattle.book.proofs.resize.resize.Goals as goal

pub returns : goal.returns
returns c =
    let a = c.args in
    let (code, short, sound) = c.requires in
    let v = view a.b.now in
    let g = c.get-old in
    let m = c.blocks_of-blocks in
    let k = c.blocks_of in
    let w = c.clear_between in
    let d = c.drop_blocks in
    let e = c.add_blocks in
    let p = c.put in
    let (book, area) = resize_made a.r a.n v (view d.new.b) (view e.new.b) (view p.new.b) a.area.now w.new.area d.new.area e.new.area
    g.result k.result m.result g.ensures m.ensures.0 k.ensures.0 w.ensures d.ensures.0 d.ensures.1 e.ensures.0 e.ensures.1 p.ensures in
    let live = code_live v a.r 3 (omega (arith, c.ranges.r)) code (omega arith) in
    (book, area ∙ resized_area_lem v (view_shape a.b.now) (placed v sound) a.r live code a.area.now c.told-area a.n)
