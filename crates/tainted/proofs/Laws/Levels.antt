-- What the comparisons say of the level in v, where nobody holds star.
use Rattle.std.specs.Prelude.{ℕ, ◌≤◌, true, ◌≡◌}
use Rattle.std.proofs.Common.{arith}
use mathlib.Core.List.{[]}
use Rattle.labels.specs.declared.Label.{Label}
use Rattle.labels.specs.declared.Rule.TheVariants.{FloorFlows}
use Rattle.labels.specs.Core.{at, flows, may_read, compare_b, unread}
use Rattle.labels.proofs.Core.Compare.{flows_means, reads_means, floor_flows_means, high_other, floor_join, join_left}
use Rattle.rules.specs.Kernel.{holds, all_hold, flow, reading, writing, floor_flow}
use Rattle.rules.proofs.Laws.Must.{all_head, all_tail}

-- ---- a condition that holds, as the comparison that it is

module _ (x y : Label) where
  pub flow_holds : holds (flow x y) ≡ true → flows x y ≡ true
  unfolding holds flow
  flow_holds h = h

  pub reading_holds : all_hold (reading x y) ≡ true → may_read x y ≡ true
  unfolding holds reading
  reading_holds h = all_head _ [] h

  pub writing_reading : all_hold (writing x y) ≡ true → all_hold (reading x y) ≡ true
  unfolding writing
  writing_reading h = all_tail (flow x y) (reading x y) h

  pub writing_flow : all_hold (writing x y) ≡ true → holds (flow x y) ≡ true
  unfolding writing
  writing_flow h = all_head (flow x y) (reading x y) h

  pub floor_holds : (z : Label) → holds (floor_flow x y z) ≡ true → compare_b FloorFlows x y z ≡ true
  unfolding holds floor_flow
  floor_holds z h = h

-- ---- levels

module _ (v : ℕ) where
  pub flows_at : (x y : Label) → flows x y ≡ true → at x v ≤ at y v
  flows_at x y e = (flows_means x y unread).0 e v

  module _ (t : Label) (some : 1 ≤ at t v) where
    -- what t reads is not above it
    pub reads_at : (o : Label) → may_read t o ≡ true → at o v ≤ at t v
    reads_at o e = rw (high_other (at t v) (λ z. omega arith)) at ((reads_means t o).0 e v)

    -- what t writes is at its level
    pub writes_at : (o : Label) → all_hold (writing t o) ≡ true → at o v ≡ at t v
    writes_at o e =
        omega (arith, flows_at t o (flow_holds t o (writing_flow t o e)), reads_at o (reading_holds t o (writing_reading t o e)))

    -- what t becomes by a gate is not below it
    pub floor_at : (g l : Label) → 1 ≤ at g v → compare_b FloorFlows t g l ≡ true → at t v ≤ at l v
    floor_at g l q e =
        let m = rw (floor_join (at t v) (at g v) (λ z. omega arith) (λ z. omega arith)) at ((floor_flows_means t g l).0 e v) in
        omega (arith, join_left (at t v) (at g v), m)
