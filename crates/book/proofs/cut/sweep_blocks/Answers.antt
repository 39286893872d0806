use Prim.Native.Nat.{◌+◌}
use native.Mathlib.Omega.{arith}
use Rattle.tables.specs.Layout.{view, owner_t}
use Rattle.tables.specs.Layout.Laws.{tab_of_long}
use Rattle.book.specs.Laws.Sweeps.{BlocksTo, blocks_start, blocks_more, blocks_end, blocks_blocked}
use Rattle.book.proofs.cut.sweep_blocks.Goals as goal
use Rattle.book.proofs.cut.sweep_blocks.Goals.{After-drop_block}

-- what is left once block i is dropped too
more : (c : After-drop_block) → BlocksTo (view c.args.b.now) c.args.area.now (c.loop-i.i + 1) (view c.drop_block.new.b) c.drop_block.new.area
more c =
    let b = c.args.b.now in
    let block = c.drop_block in
    blocks_more (view b) c.args.area.now c.loop-i.i (view c.loop-i.b) c.loop-i.area c.loop-i.invariant.1 (tab_of_long b owner_t) (omega arith)
    (view block.new.b) block.new.area block.ensures.0 block.ensures.1

pub loop-i-init : goal.loop-i-init
loop-i-init c = (c.told-b, blocks_start (view c.args.b.now) c.args.area.now c.told-area)

pub drop_block-requires : goal.drop_block-requires
drop_block-requires c =
    let a = c.args in
    blocks_blocked a.b.now c.loop-i.b a.area.now c.loop-i.area c.loop-i.i c.requires c.loop-i.invariant.0 c.loop-i.invariant.1

pub loop-i-preserved : goal.loop-i-preserved
loop-i-preserved c = (c.drop_block.array_long, more (goal.at.loop-i-preserved c).After-drop_block)

pub returns-2 : goal.returns-2
returns-2 c =
    let a = c.args in
    let block = c.drop_block in
    blocks_end (view a.b.now) a.area.now (c.loop-i.i + 1) (view block.new.b) block.new.area (more (goal.at.returns-2 c).After-drop_block) (tab_of_long a.b.now owner_t) (omega arith)
