-- Kinds and their codes, and the tests of kinds: each is of one kind, so they exclude each other.
use Rattle.std.specs.Prelude.{ℕ, zero, suc, ◌<◌, ◌≤◌, true, false, ◌≡◌, eqb}
use Rattle.std.proofs.Common.{arith, sym, ◌∙◌, ap, subst, eqb-true, ne_eqb}
use Rattle.std.proofs.Math.Path.{refl}
use Rattle.rules.specs.Kernel.{thread_code, gate_code, segment_code, container_code, max_code, Kind, absent, thread, gate, segment, container, kind_code, kind_from, is_live, is_thread, is_gate}
use Rattle.rules.specs.Kernel.{is_segment, is_container, has_clearance, nothing}
use Rattle.rules.proofs.Laws.Bools.{or_cases}

-- A kind is that of its code, and so of each code there is one kind.
pub kind_from_lem : (k : Kind) → kind_from (kind_code k) ≡ k
unfolding kind_from kind_code
kind_from_lem absent = refl
kind_from_lem thread = refl
kind_from_lem gate = refl
kind_from_lem segment = refl
kind_from_lem container = refl

-- Up to the last code each is its kind's, and above it none is.
pub kind_most : (k : Kind) → kind_code k ≤ max_code
unfolding kind_code
kind_most absent = omega arith
kind_most thread = omega arith
kind_most gate = omega arith
kind_most segment = omega arith
kind_most container = omega arith

pub code_from : (n : ℕ) → n ≤ max_code → kind_code (kind_from n) ≡ n
unfolding kind_from kind_code
code_from zero h = refl
code_from (suc zero) h = refl
code_from (suc (suc zero)) h = refl
code_from (suc (suc (suc zero))) h = refl
code_from (suc (suc (suc (suc zero)))) h = refl
code_from (suc (suc (suc (suc (suc n))))) h = absurd (omega arith)

pub code_other : (n : ℕ) → max_code < n → kind_from n ≡ absent
unfolding kind_from
code_other n h = rw (ne_eqb n thread_code (λ e. omega arith), ne_eqb n gate_code (λ e. omega arith), ne_eqb n segment_code (λ e. omega arith), ne_eqb n container_code (λ e. omega arith))

kind_by : (k : Kind) (n : ℕ) → eqb (kind_code k) n ≡ true → k ≡ kind_from n
kind_by k n h = sym (kind_from_lem k) ∙ ap kind_from (eqb-true (kind_code k) n h)

pub is_thread_lem : (k : Kind) → is_thread k ≡ true → k ≡ thread
unfolding is_thread kind_from
is_thread_lem k h = kind_by k thread_code h

pub is_gate_lem : (k : Kind) → is_gate k ≡ true → k ≡ gate
unfolding is_gate kind_from
is_gate_lem k h = kind_by k gate_code h

pub is_segment_lem : (k : Kind) → is_segment k ≡ true → k ≡ segment
unfolding is_segment kind_from
is_segment_lem k h = kind_by k segment_code h

pub is_container_lem : (k : Kind) → is_container k ≡ true → k ≡ container
unfolding is_container kind_from
is_container_lem k h = kind_by k container_code h

module _ (k : Kind) where
  -- what holds of a kind holds of what is of that kind
  at_thread : (P : Kind → Type 0) → P thread → is_thread k ≡ true → P k
  at_thread P p h = subst P (sym (is_thread_lem k h)) p

  at_gate : (P : Kind → Type 0) → P gate → is_gate k ≡ true → P k
  at_gate P p h = subst P (sym (is_gate_lem k h)) p

  at_segment : (P : Kind → Type 0) → P segment → is_segment k ≡ true → P k
  at_segment P p h = subst P (sym (is_segment_lem k h)) p

  at_container : (P : Kind → Type 0) → P container → is_container k ≡ true → P k
  at_container P p h = subst P (sym (is_container_lem k h)) p

  at_cleared : (P : Kind → Type 0) → P thread → P gate → has_clearance k ≡ true → P k
  unfolding has_clearance
  at_cleared P p q h = or_cases (is_thread k) (is_gate k) h (at_thread P p) (at_gate P q)

  pub thread_live : is_thread k ≡ true → is_live k ≡ true
  unfolding is_live kind_code
  thread_live = at_thread (λ j. is_live j ≡ true) refl

  pub segment_live : is_segment k ≡ true → is_live k ≡ true
  unfolding is_live kind_code
  segment_live = at_segment (λ j. is_live j ≡ true) refl

  pub container_live : is_container k ≡ true → is_live k ≡ true
  unfolding is_live kind_code
  container_live = at_container (λ j. is_live j ≡ true) refl

  pub cleared_live : has_clearance k ≡ true → is_live k ≡ true
  unfolding is_live kind_code
  cleared_live = at_cleared (λ j. is_live j ≡ true) refl refl

  pub thread_cleared : is_thread k ≡ true → has_clearance k ≡ true
  unfolding has_clearance is_thread is_gate kind_code
  thread_cleared = at_thread (λ j. has_clearance j ≡ true) refl

  pub gate_cleared : is_gate k ≡ true → has_clearance k ≡ true
  unfolding has_clearance is_thread is_gate kind_code
  gate_cleared = at_gate (λ j. has_clearance j ≡ true) refl

  pub segment_no_container : is_segment k ≡ true → is_container k ≡ false
  unfolding is_container kind_code
  segment_no_container = at_segment (λ j. is_container j ≡ false) refl

  pub container_no_segment : is_container k ≡ true → is_segment k ≡ false
  unfolding is_segment kind_code
  container_no_segment = at_container (λ j. is_segment j ≡ false) refl

  pub cleared_no_segment : has_clearance k ≡ true → is_segment k ≡ false
  unfolding is_segment kind_code
  cleared_no_segment = at_cleared (λ j. is_segment j ≡ false) refl refl

  pub cleared_no_container : has_clearance k ≡ true → is_container k ≡ false
  unfolding is_container kind_code
  cleared_no_container = at_cleared (λ j. is_container j ≡ false) refl refl

  pub thread_no_segment : is_thread k ≡ true → is_segment k ≡ false
  unfolding is_segment kind_code
  thread_no_segment = at_thread (λ j. is_segment j ≡ false) refl

  pub thread_no_container : is_thread k ≡ true → is_container k ≡ false
  unfolding is_container kind_code
  thread_no_container = at_thread (λ j. is_container j ≡ false) refl

  pub segment_no_thread : is_segment k ≡ true → is_thread k ≡ false
  unfolding is_thread kind_code
  segment_no_thread = at_segment (λ j. is_thread j ≡ false) refl

  pub container_no_thread : is_container k ≡ true → is_thread k ≡ false
  unfolding is_thread kind_code
  container_no_thread = at_container (λ j. is_thread j ≡ false) refl

-- an id that no object has
pub nothing_dead : is_live nothing.kind ≡ false
unfolding is_live kind_code nothing
nothing_dead = refl

pub nothing_no_container : is_container nothing.kind ≡ false
unfolding is_container kind_code nothing
nothing_no_container = refl

pub nothing_uncleared : has_clearance nothing.kind ≡ false
unfolding has_clearance is_thread is_gate kind_code nothing
nothing_uncleared = refl
