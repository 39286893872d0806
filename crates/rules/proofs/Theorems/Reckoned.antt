-- Theorem 4: the spare of a container, reckoned from the history as RULES 3.8 says, is its spare.
use Rattle.std.specs.Prelude.{ℕ, ◌+◌, ◌≤◌, true, ◌≡◌}
use Rattle.std.proofs.Common.{arith}
use Rattle.quotas.specs.Sum.{Σ, when, sum_cong, when_cong}
use Rattle.rules.specs.Kernel.{Call, Change, is_container, charged, spare_of, History, beginning, next, world_after}
use Rattle.rules.specs.Histories.{first_world, WellStarted}
use Rattle.rules.specs.Ledger.{Line, line_of, granted, charge, reckoned, BackWasThere}
use Rattle.rules.proofs.Laws.Kinds.{container_live}
use Rattle.rules.proofs.Laws.Usage.{use_container}
use Rattle.rules.proofs.Laws.Booked.{Booked, keeps, relabels, fixes, rewrites, cuts, makes, ties, moves, takes}
use Rattle.rules.proofs.Laws.Lines.{each_call}
use Rattle.rules.proofs.Laws.Told.{Told, told_beginning, told_call}
use Rattle.rules.proofs.Theorems.StaysSound.{history_sound}

-- After any calls from a start, the ledger tells every live object's quota and every link's charge.
pub told : (h : History) → WellStarted h → Told (world_after h) (granted h) (charge h)
unfolding world_after first_world granted charge
told (beginning w) s = told_beginning w
told (next h c x) s = told_call (world_after h) (history_sound h s) (granted h) (charge h) (told h s) c x

-- so the charges of what is linked in d add up to what d is charged with
charges_told : (h : History) → WellStarted h → (d : ℕ) → Σ (world_after h).next (λ o. when ((world_after h).linked d o) (charge h d o)) ≡ charged (world_after h) d
unfolding charged
charges_told h s d =
    let w = world_after h in
    sum_cong w.next (λ o. when (w.linked d o) (charge h d o)) (λ o. when (w.linked d o) (w.obj o).quota)
    (λ o l. when_cong (w.linked d o) (charge h d o) (w.obj o).quota ((told h s).charges d o))

-- After any calls from a start, the spare of a container reckoned from the history is its spare.
pub reckoned_is_spare : (h : History) → WellStarted h → (d : ℕ) → is_container ((world_after h).obj d).kind ≡ true → reckoned h d ≡ spare_of (world_after h) d
unfolding reckoned spare_of
reckoned_is_spare h s d k =
    let w = world_after h in
    omega (arith, (told h s).quotas d (container_live (w.obj d).kind k), use_container w d k, charges_told h s d)

-- ---- no subtraction of the ledger is cut off at 0

-- The reckoned spare of a container, what the objects linked in it take, and 1 for itself, make up what it was granted.
pub reckoned_adds_up : (h : History) → WellStarted h → (d : ℕ) → is_container ((world_after h).obj d).kind ≡ true
    → reckoned h d + (1 + Σ (world_after h).next (λ o. when ((world_after h).linked d o) (charge h d o))) ≡ granted h d
unfolding reckoned
reckoned_adds_up h s d k =
    let w = world_after h in
    let live = container_live (w.obj d).kind k in
    omega (arith, (told h s).quotas d live, use_container w d k, (history_sound h s).uses d live, charges_told h s d)

-- Units that a call takes back had been granted to the object, and charged where they go back to.
pub back_was_there : (h : History) → WellStarted h → (c : ℕ) (x : Call) → BackWasThere h (line_of (world_after h) c x)
back_was_there h s c x = each_call (world_after h) c x (λ l u. BackWasThere h l) tt there
  where
    there : (l : Line) (g : Change) → Booked (world_after h) c l g → BackWasThere h l
    there l g keeps = tt
    there l g (relabels o a b) = tt
    there l g (fixes o) = tt
    there l g (rewrites o b m) = tt
    there l g (cuts d o) = tt
    there l g (makes d y m a) = tt
    there l g (ties d o m i a) = tt
    there l g (moves d o n m i f) = tt
    there l g (takes d o n m m2 i f r) =
        let t = told h s in
        let q : n ≤ ((world_after h).obj o).quota = unfold spare_of in (omega arith) in
        (omega (arith, t.quotas o ((history_sound h s).tree.held d o i)), omega (arith, t.charges d o i))
