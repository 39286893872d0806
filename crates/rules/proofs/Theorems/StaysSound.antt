-- Theorem 2: the world is sound after a start and after every call, so after every history.
use Rattle.std.specs.Prelude.{ℕ, Bool, true, false, cond, ◌≡◌, refl, leb}
use Rattle.std.proofs.Common.{sym, subst, leb-false}
use Rattle.rules.specs.Kernel.{World, Call, keep, apply, number_of, Verdict, refused, grant, call, leaves, after, startable, start, last_number, History, beginning, next, world_after}
use Rattle.rules.specs.Sound.{Sound}
use Rattle.rules.specs.Histories.{first_world, WellStarted}
use Rattle.rules.proofs.Laws.Bools.{bool_cases}
use Rattle.rules.proofs.Laws.Must.{passed}
use Rattle.rules.proofs.Laws.Grants.{grants_fair}
use Rattle.rules.proofs.Laws.Keep.{keep_sound}
use Rattle.rules.proofs.Laws.StartSound.{start_sound}
use Rattle.rules.proofs.Theorems.Refusals.{ended, ended_world}

-- Every call of every caller, granted or refused, leaves a sound world sound.
pub stays_sound : (w : World) → Sound w → (c : ℕ) (x : Call) → Sound (after w c x)
unfolding after leaves
stays_sound w s c x =
    bool_cases (leb w.next last_number) (λ n. judged n (call w c x) refl)
    (λ n. subst Sound (sym (ended_world w c x ((ended w c x).1 (leb-false w.next last_number n)))) s)
  where
    one_of : (b : Bool) → leb w.next last_number ≡ true → Sound (cond b w (apply keep w))
    one_of true n = s
    one_of false n = keep_sound w s n keep tt

    judged : leb w.next last_number ≡ true → (r : Verdict) → call w c x ≡ r → Sound (leaves r w)
    judged n (refused f) e = one_of (leb (number_of f) 2) n
    judged n (grant v b h) e =
        let p = passed w c x v b h e in
        keep_sound w s n h (grants_fair w s c p.caller x p.arguments v b h p.judged)

-- Every start leaves a sound world.
pub start_is_sound : (f : ℕ) → startable f ≡ true → Sound (start f)
start_is_sound f g = start_sound f g

-- The world after any history is sound.
pub history_sound : (h : History) → WellStarted h → Sound (world_after h)
unfolding world_after first_world
history_sound (beginning w) g = g
history_sound (next h c x) g = stays_sound (world_after h) (history_sound h g) c x
