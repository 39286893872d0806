-- In a sound world the quota falls along every link, from the root's down; so containers form a tree, and no quota is above the root's.
use Rattle.std.specs.Prelude.{ℕ, zero, suc, ◌+◌, ◌<◌, ◌≤◌, true, ◌≡◌}
use Rattle.std.proofs.Math.Decide.{ℕ_discrete}
use Rattle.std.proofs.Common.{arith, ap}
use Rattle.quotas.specs.Sum.{Σ, sum_term}
use Rattle.rules.specs.Kernel.{is_live, World, root_quota}
use Rattle.rules.specs.Sound.{Sound}
use Rattle.rules.proofs.Laws.Kinds.{container_live}
use Rattle.rules.proofs.Laws.Usage.{use_container, charge_le, holder_below}

module _ (w : World) (s : Sound w) where
  -- The quota of an object is less than that of a container it is linked in.
  pub falls : (d o : ℕ) → w.linked d o ≡ true → (w.obj o).quota < (w.obj d).quota
  falls d o l =
      let k = s.tree.holder d o l in
      omega (arith, s.uses d (container_live (w.obj d).kind k), use_container w d k, charge_le w s d o l)

  -- up the links the quota rises, and none is above the sum of all: so the way ends at the root
  climb : (fuel o : ℕ) → is_live (w.obj o).kind ≡ true → Σ w.next (λ p. (w.obj p).quota) ≤ (w.obj o).quota + fuel → (w.obj o).quota ≤ root_quota
  climb zero o h f = elim (ℕ_discrete o w.root) [
    | yes e ↦ omega (arith, s.tree.root_quota_lem, ap (λ (p : ℕ). (w.obj p).quota) e)
    | no n ↦ (let (d, l) = s.has_link o h n in
        absurd (omega (arith, falls d o l, sum_term w.next (λ p. (w.obj p).quota) d (holder_below w s d o l))))
  ]
  climb (suc fuel) o h f = elim (ℕ_discrete o w.root) [
    | yes e ↦ omega (arith, s.tree.root_quota_lem, ap (λ (p : ℕ). (w.obj p).quota) e)
    | no n ↦ (let (d, l) = s.has_link o h n in
        omega (arith, falls d o l, climb fuel d (container_live (w.obj d).kind (s.tree.holder d o l)) (omega (arith, falls d o l))))
  ]

  -- No object has more than the root's quota.
  pub quota_most : (o : ℕ) → is_live (w.obj o).kind ≡ true → (w.obj o).quota ≤ root_quota
  quota_most o h = climb (Σ w.next (λ p. (w.obj p).quota)) o h (omega arith)
