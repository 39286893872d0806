-- A call, granted or not, by its line in the ledger and the world after it.
use Rattle.std.specs.Prelude.{ℕ, true, false, ◌≡◌}
use Rattle.std.proofs.Math.Decide.{ℕ_discrete}
use Rattle.std.proofs.Common.{eq-eqb, ne_eqb}
use Rattle.rules.specs.Kernel.{World, is_thread, Call, Change, keep, apply, answer_of, value_of, output_of, call, after}
use Rattle.rules.specs.Ledger.{Line, nothing_written, line_if, line_of}
use Rattle.rules.proofs.Laws.Bools.{not_both}
use Rattle.rules.proofs.Laws.Must.{passed}
use Rattle.rules.proofs.Laws.Booked.{Booked, keeps, booked}
use Rattle.rules.proofs.Theorems.Refusals.{granted, refused_world, ended_world}

module _ (w : World) (c : ℕ) (x : Call) where
  line_granted : answer_of (call w c x) ≡ 0 → line_of w c x ≡ line_if w.next x
  unfolding line_of
  line_granted e = rw (eq-eqb (answer_of (call w c x)) 0 e)

  line_refused : (answer_of (call w c x) ≡ 0 → ⊥) → line_of w c x ≡ nothing_written
  unfolding line_of
  line_refused n = rw (ne_eqb (answer_of (call w c x)) 0 n)

  -- either nothing happens, or a number is taken, or a thread is granted what is booked
  call_cases : (P : Line → World → Type 0) → P nothing_written w → P nothing_written (apply keep w)
      → ((h : Change) → is_thread (w.obj c).kind ≡ true → Booked w c (line_if w.next x) h → P (line_if w.next x) (apply h w)) → P (line_of w c x) (after w c x)
  call_cases P none one some = elim (ℕ_discrete (answer_of (call w c x)) 0) [
    | yes a ↦
        (let g = granted w c x a in
        let v = value_of (call w c x) in
        let b = output_of (call w c x) in
        rw (line_granted a, g.world) (some g.change (passed w c x v b g.change g.verdict).caller (booked w c v b g.change x g.verdict)))
    | no n ↦
        elim (ℕ_discrete (answer_of (call w c x)) 2) [
          | yes a ↦ rw (line_refused n, ended_world w c x a) none
          | no m ↦ rw (line_refused n, refused_world w c x n m) one
        ]
  ]

  -- either nothing happens, or what is booked
  pub each_call : (P : Line → World → Type 0) → P nothing_written w → ((l : Line) (h : Change) → Booked w c l h → P l (apply h w)) → P (line_of w c x) (after w c x)
  each_call P none some = call_cases P none (some nothing_written keep keeps) (λ h t. some (line_if w.next x) h)

  -- a caller that is no thread is refused
  pub no_thread : (P : World → Type 0) → is_thread (w.obj c).kind ≡ false → P w → P (apply keep w) → P (after w c x)
  no_thread P n none one = call_cases (λ l u. P u) none one (λ h t b. not_both (is_thread (w.obj c).kind) t n)
