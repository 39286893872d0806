use Prim.Native.Nat.{ℕ, ◌+◌}
use native.Mathlib.Omega.{arith}
use mathlib.Core.Path.{◌≡◌, ◌∙◌, ap, ap₂}
use Rattle.tables.specs.Layout.{view, block_count, owner_t}
use Rattle.tables.specs.Layout.Laws.{tab_of_long}
use Rattle.book.specs.Resize.{block_dropped, block_wiped, dropped_to, wiped_to}
use Rattle.book.specs.Laws.Cleared.{dropped_none, dropped_more, dropped_all, wiped_none, wiped_more}
use Rattle.book.proofs.resize.drop_blocks.Goals as goal
use Rattle.book.proofs.resize.drop_blocks.Goals.{After-drop_block}

-- what is left once block x is dropped too
more : (c : After-drop_block) → (view c.drop_block.new.b ≡ dropped_to (c.loop-x.x + 1) c.args.r c.args.k (view c.args.b.now))
    × (c.drop_block.new.area ≡ wiped_to (c.loop-x.x + 1) c.args.r c.args.k (view c.args.b.now) c.args.area.now)
more c =
    let a = c.args in
    let l = c.loop-x in
    let d = c.drop_block.ensures in
    let v = view a.b.now in (
      d.0 ∙ ap (block_dropped a.r a.k l.x) l.invariant.0 ∙ dropped_more a.r a.k v (tab_of_long a.b.now owner_t) l.x (omega arith),
      d.1 ∙ ap₂ (block_wiped a.r a.k l.x) l.invariant.0 l.invariant.1 ∙ wiped_more a.r a.k v a.area.now l.x (omega arith) (tab_of_long a.b.now owner_t),
    )

pub loop-x-init : goal.loop-x-init
loop-x-init c =
    let a = c.args in
    let v = view a.b.now in
    (dropped_none a.r a.k v (tab_of_long a.b.now owner_t), wiped_none a.r a.k v a.area.now c.told-area)

pub loop-x-preserved : goal.loop-x-preserved
loop-x-preserved c = more (goal.at.loop-x-preserved c).After-drop_block

pub returns-2 : goal.returns-2
returns-2 c =
    let a = c.args in
    let v = view a.b.now in
    let m = more (goal.at.returns-2 c).After-drop_block in
    let e : c.loop-x.x + 1 ≡ block_count = omega arith in
    (m.0 ∙ ap (λ (i : ℕ). dropped_to i a.r a.k v) e ∙ dropped_all a.r a.k v (tab_of_long a.b.now owner_t), m.1 ∙ ap (λ (i : ℕ). wiped_to i a.r a.k v a.area.now) e)
