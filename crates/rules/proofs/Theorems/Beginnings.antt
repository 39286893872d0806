-- A history may begin with any sound world, whose quotas, links and bytes it then takes for its history so far. Start is one such beginning, and this is what it begins with.
use Rattle.std.specs.Prelude.{ℕ, zero, suc, ◌+◌, ◌≤◌, Bool, true, false, cond, ◌&&◌, ◌||◌, ◌≡◌, refl, List, [], ◌∷◌, get_or, replicate, eqb}
use Rattle.std.proofs.Common.{arith, ◌∙◌, ap, eqb-true, eq-eqb, ne_eqb}
use Rattle.labels.specs.Core.{plain, level1, level2}
use Rattle.rules.specs.Kernel.{kind_code, is_live, Obj, text_size, root_quota, start, started, put, container_of, thread_of, nothing}
use Rattle.rules.specs.Issued.{live_below, issued}
use Rattle.rules.specs.Ledger.{granted, charge}
use Rattle.rules.specs.Written.{last_written}
use Rattle.rules.proofs.Laws.Bools.{and_r, bool_cases}

-- the root, the first thread, or nothing
abbrev one : Bool → Bool → Obj
one a b = cond a (container_of (plain level1) (replicate text_size 0) 0 root_quota) (cond b (thread_of (plain level1) (plain level2) (replicate text_size 0)) nothing)

quota_of_lem : (a b : Bool) → (one a b).quota ≡ cond a root_quota (cond b 1 0)
unfolding container_of thread_of nothing
quota_of_lem true b = refl
quota_of_lem false true = refl
quota_of_lem false false = refl

no_bytes : (a b : Bool) (i : ℕ) → cond (is_live (one a b).kind) (get_or (one a b).bytes i 0) 0 ≡ 0
unfolding container_of thread_of nothing is_live kind_code
no_bytes true b i = refl
no_bytes false true i = refl
no_bytes false false i = refl

live_of : (a b : Bool) → is_live (one a b).kind ≡ (a || b)
unfolding container_of thread_of nothing is_live kind_code
live_of true b = refl
live_of false true = refl
live_of false false = refl

-- The root was granted 256 units, its thread 1, and nothing else any.
pub start_granted : (f p : ℕ) → granted (started f) p ≡ cond (eqb p f) root_quota (cond (eqb p (f + 1)) 1 0)
unfolding granted start put
start_granted f p = quota_of_lem (eqb p f) (eqb p (f + 1))

-- The thread's unit is charged in the root, and nothing else anywhere.
pub start_charge : (f e p : ℕ) → charge (started f) e p ≡ cond (eqb e f && eqb p (f + 1)) 1 0
unfolding charge start put
start_charge f e p = bool_cases (eqb e f && eqb p (f + 1))
    (λ t.
    let q = eqb-true p (f + 1) (and_r (eqb e f) (eqb p (f + 1)) t) in
    rw t (quota_of_lem (eqb p f) (eqb p (f + 1)) ∙ rw (ne_eqb p f (λ r. omega arith), eq-eqb p (f + 1) q)))
    (λ t. rw t)

-- Nothing was written.
pub start_written : (f s i : ℕ) → last_written (started f) s i ≡ 0
unfolding last_written start put
start_written f s i = no_bytes (eqb s f) (eqb s (f + 1)) i

-- Two ids were issued, the root's and the thread's.
live_at : (f p : ℕ) → is_live ((start f).obj p).kind ≡ (eqb p f || eqb p (f + 1))
unfolding start put
live_at f p = live_of (eqb p f) (eqb p (f + 1))

none_below : (f n : ℕ) → n ≤ f → live_below (start f) n ≡ []
unfolding live_below
none_below f zero l = refl
none_below f (suc n) l = rw (live_at f n, ne_eqb n f (λ e. omega arith), ne_eqb n (f + 1) (λ e. omega arith)) (none_below f n (omega arith))

one_more : (f n : ℕ) (os : List ℕ) → (eqb n f || eqb n (f + 1)) ≡ true → live_below (start f) n ≡ os → live_below (start f) (suc n) ≡ n ∷ os
unfolding live_below
one_more f n os t e = rw (live_at f n ∙ t) (ap (λ (l : List ℕ). n ∷ l) e)

pub start_issued : (f : ℕ) → issued (started f) ≡ (f + 1) ∷ f ∷ []
unfolding issued start
start_issued f =
    ap (live_below (start f)) (let e : f + 2 ≡ suc (f + 1) = omega arith in e)
    ∙ one_more f (f + 1) (f ∷ []) (rw (eq-eqb (f + 1) (f + 1) refl, ne_eqb (f + 1) f (λ e. omega arith)))
    (ap (live_below (start f)) (let e : f + 1 ≡ suc f = omega arith in e) ∙ one_more f f [] (rw (eq-eqb f f refl)) (none_below f f (omega arith)))
