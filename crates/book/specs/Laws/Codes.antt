-- Codes of kinds and kinds: what a row's code says of the kind of its object.
use Rattle.std.specs.Prelude.{ℕ, ◌≤◌, Bool, not, ◌||◌, ◌≡◌, eqb, leb}
use Rattle.std.proofs.Common.{arith, ◌∙◌, ap, ap₂, eqb-true, eq-eqb, ne_eqb, le-leb, leb-true, leb-false}
use Rattle.std.proofs.Math.Path.{sym}
use Rattle.std.proofs.lemmas.Bool.{eqb-false}
use Rattle.rules.specs.Kernel.{thread_code, gate_code, segment_code, container_code, max_code, Kind, kind_code, is_live, is_thread, is_gate, is_segment, is_container, has_clearance}
use Rattle.rules.proofs.Laws.Bools.{bool_cases, same_by, or_cases, or_i_l, or_i_r}
use Rattle.rules.proofs.Laws.Kinds.{code_from, code_other}
use Rattle.book.specs.Book.{kind_from, is_thread_or_gate}

-- a test of a code other than 0
code_is : (n c : ℕ) → 1 ≤ c → c ≤ max_code → eqb (kind_code (kind_from n)) c ≡ eqb n c
code_is n c a b =
    bool_cases (leb n max_code)
    (λ t. ap (λ (x : ℕ). eqb x c) (code_from n (leb-true n max_code t)))
    (λ t. let h = leb-false n max_code t in
    ap (λ (k : Kind). eqb (kind_code k) c) (code_other n h) ∙ unfold kind_code in (ne_eqb 0 c (λ e. omega arith)) ∙ sym (ne_eqb n c (λ e. omega arith)))

-- Each kind has its code.
pub thread_from : (n : ℕ) → is_thread (kind_from n) ≡ eqb n thread_code
unfolding is_thread
thread_from n = code_is n thread_code (omega arith) (omega arith)

pub gate_from : (n : ℕ) → is_gate (kind_from n) ≡ eqb n gate_code
unfolding is_gate
gate_from n = code_is n gate_code (omega arith) (omega arith)

pub segment_from : (n : ℕ) → is_segment (kind_from n) ≡ eqb n segment_code
unfolding is_segment
segment_from n = code_is n segment_code (omega arith) (omega arith)

pub container_from : (n : ℕ) → is_container (kind_from n) ≡ eqb n container_code
unfolding is_container
container_from n = code_is n container_code (omega arith) (omega arith)

-- A row in use has a live kind.
pub live_from : (n : ℕ) → n ≤ max_code → is_live (kind_from n) ≡ not (eqb n 0)
unfolding is_live
live_from n h = ap (λ (x : ℕ). not (eqb x 0)) (code_from n h)

-- Threads and gates are the codes up to a gate's.
pub cleared_from : (n : ℕ) → (n ≡ 0 → ⊥) → has_clearance (kind_from n) ≡ is_thread_or_gate n
unfolding has_clearance
cleared_from n ne =
    ap₂ (λ (a b : Bool). a || b) (thread_from n) (gate_from n)
    ∙ same_by (eqb n thread_code || eqb n gate_code) (is_thread_or_gate n)
    (λ h. or_cases (eqb n thread_code) (eqb n gate_code) h
    (λ t. le-leb n gate_code (let e = eqb-true n thread_code t in omega arith))
    (λ t. le-leb n gate_code (let e = eqb-true n gate_code t in omega arith)))
    (λ h. let m = leb-true n gate_code h in
    bool_cases (eqb n thread_code) (λ t. or_i_l (eqb n thread_code) (eqb n gate_code) t)
    (λ t. let z = eqb-false n thread_code t in or_i_r (eqb n thread_code) (eqb n gate_code) (eq-eqb n gate_code (omega arith))))
