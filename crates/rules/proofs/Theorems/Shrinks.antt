-- Theorem 6: only a caller that may write an object can make its spare smaller.
use Rattle.std.specs.Prelude.{ℕ, ◌<◌, ◌≤◌, true, ◌≡◌}
use Rattle.std.proofs.Common.{arith}
use Rattle.labels.specs.Core.{may_write}
use Rattle.rules.specs.Kernel.{World, is_live, is_thread, is_container, Call, spare_of, after, History, next, world_after}
use Rattle.rules.specs.Sound.{Sound}
use Rattle.rules.specs.Histories.{first_world, WellStarted}
use Rattle.rules.specs.Ledger.{reckoned, writer}
use Rattle.rules.proofs.Laws.Bools.{and_r, bool_cases}
use Rattle.rules.proofs.Laws.Kinds.{container_live}
use Rattle.rules.proofs.Laws.Calm.{Calm, calm_call}
use Rattle.rules.proofs.Theorems.StaysSound.{history_sound}
use Rattle.rules.proofs.Theorems.Reckoned.{reckoned_is_spare}

-- a calm object has no less to spare
pub calm_spare : (w u : World) (o : ℕ) → Calm w u o → spare_of w o ≤ spare_of u o
unfolding spare_of
calm_spare w u o k = omega arith

module _ (w : World) (s : Sound w) (c : ℕ) (x : Call) (o : ℕ) (live : is_live (w.obj o).kind ≡ true) (live-after : is_live ((after w c x).obj o).kind ≡ true) where
  by_writer : (Calm w (after w c x) o → ⊥) → writer w c o ≡ true
  by_writer f = bool_cases (writer w c o) (λ t. t) (λ n. absurd (f (calm_call w s o c x live n live-after)))

  -- If a call leaves an object with less to spare than it had, the caller is a live thread whose label may write the object.
  pub shrinks_by : spare_of (after w c x) o < spare_of w o → writer w c o ≡ true
  shrinks_by h = by_writer (λ k. omega (arith, calm_spare w (after w c x) o k))

  pub shrinks_by_writer : spare_of (after w c x) o < spare_of w o → may_write (w.obj c).label (w.obj o).label ≡ true
  unfolding writer
  shrinks_by_writer h = and_r (is_thread (w.obj c).kind) (may_write (w.obj c).label (w.obj o).label) (shrinks_by h)

  -- The same of its quota.
  pub quota_shrinks_by : ((after w c x).obj o).quota < (w.obj o).quota → writer w c o ≡ true
  quota_shrinks_by h = by_writer (λ k. omega (arith, k.quota))

-- The spare that the history tells of a container shrinks only by a call of a live thread whose label may write that container.
pub reckoned_shrinks_by : (h : History) → WellStarted h → (c : ℕ) (x : Call) (d : ℕ) → is_container ((world_after h).obj d).kind ≡ true
    → is_live ((world_after (next h c x)).obj d).kind ≡ true → reckoned (next h c x) d < reckoned h d → writer (world_after h) c d ≡ true
unfolding world_after first_world
reckoned_shrinks_by h s c x d is still less =
    let w = world_after h in
    let live = container_live (w.obj d).kind is in
    by_writer w (history_sound h s) c x d live still
    (λ k. omega (arith, calm_spare w (after w c x) d k, reckoned_is_spare h s d is, reckoned_is_spare (next h c x) s d (rw k.kind is)))
