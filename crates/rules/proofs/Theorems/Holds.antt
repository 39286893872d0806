-- Theorem 3: what the tree of a container holds is within its quota, the quota falls along every link, and every live object is reached from the root.
use Rattle.std.specs.Prelude.{ℕ, zero, suc, ◌/◌, ◌%◌, ◌<◌, ◌≤◌, true, ◌↔◌, ◌≡◌}
use native.Mathlib.Omega.{arith}
use Rattle.std.proofs.Common.{sym, subst, eqb-true}
use Rattle.quotas.specs.Any.{any_found}
use Rattle.quotas.specs.Sum.{Σ, when, sum_mono, when_le, when_true}
use Rattle.quotas.specs.Tree as Rows
use Rattle.quotas.specs.Under.{in_tree_lem, way_tree, held_in_tree}
use Rattle.quotas.specs.Reach.{reached}
use Rattle.rules.specs.Kernel.{is_live, is_container, World, History, world_after, hold_of, under, below, root_quota}
use Rattle.rules.specs.Sound.{Sound}
use Rattle.rules.specs.Histories.{WellStarted}
use Rattle.rules.specs.Trees.{here, down, Reaches, in_tree}
use Rattle.rules.proofs.Laws.Kinds.{container_live}
use Rattle.rules.proofs.Laws.Falls.{falls}
use Rattle.rules.proofs.Laws.Below.{under_step, below_self, below_down}
use Rattle.rules.proofs.Laws.View.{view_of, link_count, view_fitting, under_way}
use Rattle.rules.proofs.Theorems.StaysSound.{history_sound}

-- ---- ways

module _ (w : World) where
  under_reaches : (d k o : ℕ) → under w d k o ≡ true → Reaches w d o
  under_reaches d zero o h = unfold under in (subst (Reaches w d) (sym (eqb-true o d h)) here)
  under_reaches d (suc k) o h = let (e, l, t) = under_step w d k o h in down e o (under_reaches d k e t) l

  pub tree_reaches : (d o : ℕ) → in_tree w d o ≡ true → Reaches w d o
  unfolding below
  tree_reaches d o h = let (k, l, t) = any_found root_quota (λ k. under w d k o) h in under_reaches d k o t

  view_reaches : {k d o : ℕ} → Rows.Way (view_of w) (link_count w) k d o → Reaches w d o
  view_reaches (Rows.here c) = here
  view_reaches (Rows.step l m on y) = down (l / w.next) (l % w.next) (view_reaches y) on

module _ (w : World) (s : Sound w) where
  pub reaches_tree : {d o : ℕ} → Reaches w d o → in_tree w d o ≡ true
  reaches_tree {d} here = below_self w d
  reaches_tree {d} (down e o y l) = below_down w s d e o l (reaches_tree y)

-- ---- the theorem, in every sound world

module _ (w : World) (s : Sound w) where
  -- What lies in the tree of d is what a way down the links from d leads to.
  pub in_tree_ways : (d o : ℕ) → (in_tree w d o ≡ true) ↔ Reaches w d o
  in_tree_ways d o = (tree_reaches w d o, reaches_tree w s)

  -- The objects in the tree of a container, each counted once, hold no more than the container's quota.
  pub tree_holds : (d : ℕ) → is_container (w.obj d).kind ≡ true → Σ w.next (λ o. when (in_tree w d o) (hold_of w o)) ≤ (w.obj d).quota
  unfolding below
  tree_holds d k =
      let v = view_of w in
      let fit = view_fitting w s in
      let m = link_count w in
      omega (
        arith,
        held_in_tree v w.next m w.root fit d (s.ids d (container_live (w.obj d).kind k)).1 k,
        sum_mono w.next (λ o. when (in_tree w d o) (hold_of w o)) (λ o. when (in_tree_lem v m d o) (hold_of w o))
            (λ o l. when_le (in_tree w d o) (hold_of w o) (when (in_tree_lem v m d o) (hold_of w o)) (λ h.
            let (j, i, t) = any_found root_quota (λ j. under w d j o) h in
            let e = when_true (in_tree_lem v m d o) (hold_of w o) (way_tree v w.next m w.root fit d (under_way w s d j o t)) in
            omega arith)),
      )

  -- The quota falls along every link.
  pub link_falls : (d o : ℕ) → w.linked d o ≡ true → (w.obj o).quota < (w.obj d).quota
  link_falls = falls w s

  -- Every live object is reached from the root, and nothing else is.
  pub live_reached : (o : ℕ) → (is_live (w.obj o).kind ≡ true) ↔ Reaches w w.root o
  live_reached o = (
    λ k.
        let (j, y) = reached (view_of w) w.next (link_count w) w.root (view_fitting w s) o (s.ids o k).1 k in
        view_reaches w y,
    alive,
  )
    where
      alive : {p : ℕ} → Reaches w w.root p → is_live (w.obj p).kind ≡ true
      alive here = container_live (w.obj w.root).kind s.tree.root_container
      alive (down e p y l) = s.tree.held e p l

-- ---- the same after every history

module _ (h : History) (g : WellStarted h) where
  -- What the objects in a container's tree hold, each counted once, is within the container's quota.
  pub history_tree_holds : (d : ℕ) → is_container ((world_after h).obj d).kind ≡ true
      → Σ (world_after h).next (λ o. when (in_tree (world_after h) d o) (hold_of (world_after h) o)) ≤ ((world_after h).obj d).quota
  history_tree_holds = tree_holds (world_after h) (history_sound h g)

  -- The quota falls along every link.
  pub history_link_falls : (d o : ℕ) → (world_after h).linked d o ≡ true → ((world_after h).obj o).quota < ((world_after h).obj d).quota
  history_link_falls = link_falls (world_after h) (history_sound h g)

  -- The live objects are those that the root reaches.
  pub history_live_reached : (o : ℕ) → (is_live ((world_after h).obj o).kind ≡ true) ↔ Reaches (world_after h) (world_after h).root o
  history_live_reached = live_reached (world_after h) (history_sound h g)
