-- Theorem 9: room that a job was granted cannot be used by its neighbours. A neighbour is any caller but the threads whose labels may write the job's
-- container, or the segment that holds its list.
use Rattle.std.specs.Prelude.{ℕ, ◌≤◌, ◌<◌, true, false, cond, ◌≡◌, refl}
use Rattle.std.proofs.Common.{arith, ◌∙◌, ap, subst, le-leb}
use Rattle.rules.specs.Kernel.{World, is_live, is_segment, is_container, units, spare_of, Call, resize, call, after, answer_of, History, world_after}
use Rattle.rules.specs.Histories.{first_world, WellStarted}
use Rattle.rules.specs.Ledger.{reckoned, spends, draws, needs, refused_earlier, Meanwhile, nothing_yet, another}
use Rattle.rules.proofs.Laws.Kinds.{segment_live, container_live}
use Rattle.rules.proofs.Laws.Lines.{each_call}
use Rattle.rules.proofs.Laws.Calm.{Calm, live_before, calm_call}
use Rattle.rules.proofs.Theorems.Refusals.{change_next}
use Rattle.rules.proofs.Theorems.StaysSound.{history_sound}
use Rattle.rules.proofs.Theorems.Reckoned.{reckoned_is_spare}
use Rattle.rules.proofs.Theorems.Exactly.{decided, decided_resize}
use Rattle.rules.proofs.Theorems.Shrinks.{calm_spare}

-- ---- one call

module _ (w : World) (c : ℕ) (x : Call) where
  next_rises : w.next ≤ (after w c x).next
  next_rises = each_call w c x (λ l u. w.next ≤ u.next) (omega arith) (λ l h b. omega (arith, change_next h w))

  lived_before : (o : ℕ) → o < w.next → is_live ((after w c x).obj o).kind ≡ true → is_live (w.obj o).kind ≡ true
  lived_before o n = each_call w c x (λ l u. is_live (u.obj o).kind ≡ true → is_live (w.obj o).kind ≡ true) (λ a. a) (λ l h b. live_before h w o n)

-- ---- all calls in between

record Since (o : ℕ) (h k : History) : Type 0 where
  well : WellStarted k
  old : o < (world_after k).next
  calm : is_live ((world_after k).obj o).kind ≡ true → Calm (world_after h) (world_after k) o

since : (o : ℕ) (h : History) → WellStarted h → o < (world_after h).next → {k : History} → Meanwhile o h k → Since o h k
unfolding world_after first_world
since o h s n nothing_yet = record { well = s; old = n; calm = λ l. record { kind = refl; quota = omega arith; uses = omega arith } }
since o h s n (another {k = k} c x m outside) =
    let r = since o h s n m in
    let w = world_after k in
    record {
      well = r.well;
      old = omega (arith, r.old, next_rises w c x);
      calm = λ l.
          let live = lived_before w c x o r.old l in
          let a = r.calm live in
          let b = calm_call w (history_sound k r.well) o c x live outside l in
          record { kind = b.kind ∙ a.kind; quota = omega (arith, a.quota, b.quota); uses = omega (arith, a.uses, b.uses) };
    }

module _ (h : History) (started_well : WellStarted h) (o : ℕ) (live : is_live ((world_after h).obj o).kind ≡ true) (k : History) (neighbours : Meanwhile o h k) where
  calm_since : is_live ((world_after k).obj o).kind ≡ true → Calm (world_after h) (world_after k) o
  calm_since = (since o h started_well ((history_sound h started_well).ids o live).1 neighbours).calm

  -- Whatever neighbours call, a container or segment that is still there has at least the spare it had.
  pub spare_is_kept : is_live ((world_after k).obj o).kind ≡ true → spare_of (world_after h) o ≤ spare_of (world_after k) o
  spare_is_kept l = calm_spare (world_after h) (world_after k) o (calm_since l)

  -- And at least the quota it had.
  pub quota_is_kept : is_live ((world_after k).obj o).kind ≡ true → ((world_after h).obj o).quota ≤ ((world_after k).obj o).quota
  quota_is_kept l = (calm_since l).quota

-- ---- the grant is kept

module _ (h : History) (started_well : WellStarted h) (k : History) (c : ℕ) where
  -- A container has n units to spare by the history of grants and charges. Then any calls of neighbours come. Then a create, a link or a move of at most n
  -- units out of it, into an object or back to where it is linked, by any caller, that passes all earlier checks: it is granted.
  pub room_is_kept : (d n : ℕ) → is_container ((world_after h).obj d).kind ≡ true → n ≤ reckoned h d → Meanwhile d h k
      → (x : Call) → spends (world_after k) x ≡ true → draws (world_after k) x ≡ d → needs (world_after k) x ≤ n
      → refused_earlier (answer_of (call (world_after k) c x)) ≡ false → answer_of (call (world_after k) c x) ≡ 0
  room_is_kept d n is room neighbours x spending from most passed =
      let u = world_after k in
      let g = decided u c x spending passed in
      let still = container_live (u.obj d).kind (subst (λ (i : ℕ). is_container (u.obj i).kind ≡ true) from (g.is_container_lem spending)) in
      let kept = spare_is_kept h started_well d (container_live ((world_after h).obj d).kind is) k neighbours still in
      g.answer ∙ ap (λ b. cond b 0 13) (le-leb (needs u x) (spare_of u (draws u x)) (rw from (omega (arith, reckoned_is_spare h started_well d is))))

  -- The quota of a segment allows a list of n bytes. Then any calls of neighbours come. Then a resize to n bytes, by any caller, that passes all earlier checks:
  -- it is granted, and the list can take its last entry.
  pub growth_is_kept : (s n : ℕ) → is_segment ((world_after h).obj s).kind ≡ true → units n ≤ ((world_after h).obj s).quota → Meanwhile s h k
      → (d : ℕ) → refused_earlier (answer_of (call (world_after k) c (resize d s n))) ≡ false → answer_of (call (world_after k) c (resize d s n)) ≡ 0
  growth_is_kept s n is room neighbours d passed =
      let u = world_after k in
      let (still, answer) = decided_resize u c d s n passed in
      let kept = quota_is_kept h started_well s (segment_live ((world_after h).obj s).kind is) k neighbours (segment_live (u.obj s).kind still) in
      answer ∙ ap (λ b. cond b 0 13) (le-leb (units n) (u.obj s).quota (omega arith))
