-- Laws of tests: their parts, and tests of every index below n.
use Rattle.std.specs.Prelude.{ℕ, zero, suc, ◌+◌, ◌<◌, Bool, true, false, not, cond, ◌&&◌, ◌⊎◌, ◌≡◌, refl, leb}
use Rattle.std.proofs.Common.{eq-or-lt_of_le, add-one, arith, ⊎_elim, inl, inr, sym, ◌∙◌, ap, ap₂, leb-true, leb-false}
use Rattle.std.specs.Fn.{Called}
use Rattle.std.specs.Iterator.{ChecksAll}
use Rattle.std.specs.declared.ops.Range.{Range}
use Rattle.std.specs.List.{list_all, range_with_len}
use Rattle.std.proofs.iter.Yields.{nat_range_steps}
use Rattle.std.proofs.lemmas.Iterator.{YieldsList-from_range}
use Rattle.std.proofs.lemmas.Iterator.Search.{all_from_yields_List}
use native.Mathlib.Numerals.{unary_clauses}
use denote.Param.Members.{Mut}
use Rattle.book.specs.Test.{every}

-- ---- parts of a test

pub no_true : false ≡ true → ⊥
no_true e = let z : ◌≡◌ {A = ℕ} 0 1 = cc in omega arith

pub and_l : (a b : Bool) → (a && b) ≡ true → a ≡ true
and_l true b e = refl
and_l false b e = e

pub and_r : (a b : Bool) → (a && b) ≡ true → b ≡ true
and_r true b e = e
and_r false true e = refl
and_r false false e = e

-- A test that fails makes the two fail.
pub and_fails : (a b : Bool) → b ≡ false → (a && b) ≡ false
and_fails true b e = e
and_fails false b e = refl

-- A test that is asked only where another fails.
pub unless : (t x : Bool) → cond t true x ≡ true → t ≡ false → x ≡ true
unless true x h e = absurd (no_true (sym e))
unless false x h e = h

pub unless_by : (t x : Bool) → (t ≡ false → x ≡ true) → cond t true x ≡ true
unless_by true x h = refl
unless_by false x h = h refl

-- A test that is asked only where another holds.
pub only : (t x : Bool) → cond t x true ≡ true → t ≡ true → x ≡ true
only true x h e = h
only false x h e = absurd (no_true e)

pub only_by : (t x : Bool) → (t ≡ true → x ≡ true) → cond t x true ≡ true
only_by true x h = h refl
only_by false x h = refl

pub not_by : (t : Bool) → (t ≡ true → ⊥) → not t ≡ true
not_by true h = absurd (h refl)
not_by false h = refl

pub not_of : (t : Bool) → not t ≡ true → t ≡ true → ⊥
not_of true h e = no_true h
not_of false h e = no_true e

-- ---- numbers

-- Of two numbers that differ one is less.
pub apart : (x y : ℕ) → (x ≡ y → ⊥) → (x < y) ⊎ (y < x)
apart x y ne = go (leb x y) refl
  where
    go : (b : Bool) → leb x y ≡ b → (x < y) ⊎ (y < x)
    go true e = ⊎_elim {C = (x < y) ⊎ (y < x)} (λ q. absurd (ne q)) (λ l. inl l) (eq-or-lt_of_le {n = x} {m = y} (leb-true x y e))
    go false e = inr (leb-false x y e)

-- ---- every index below n

-- One index more, as a loop counts.
pub every_more : (n : ℕ) (t : ℕ → Bool) → every n t ≡ true → t n ≡ true → every (n + 1) t ≡ true
unfolding every
every_more n t h e = rw (add-one, e) h

-- An index that fails.
pub every_fails : (n : ℕ) (t : ℕ → Bool) (i : ℕ) → i < n → t i ≡ false → every n t ≡ false
unfolding every
every_fails zero t i l e = absurd (omega arith)
every_fails (suc n) t i l e =
    ⊎_elim
    (λ q. let z : t n ≡ false = sym (ap t q) ∙ e in rw z)
    (λ k. and_fails (t n) (every n t) (every_fails n t i k e))
    (eq-or-lt_of_le {n = i} {m = n} (omega arith))

pub every_of : (n : ℕ) (t : ℕ → Bool) → every n t ≡ true → (i : ℕ) → i < n → t i ≡ true
unfolding every
every_of zero t h i l = absurd (omega arith)
every_of (suc n) t h i l =
    ⊎_elim
    (λ q. ap t q ∙ and_l (t n) (every n t) h)
    (λ k. every_of n t (and_r (t n) (every n t) h) i k)
    (eq-or-lt_of_le {n = i} {m = n} (omega arith))

pub every_by : (n : ℕ) (t : ℕ → Bool) → ((i : ℕ) → i < n → t i ≡ true) → every n t ≡ true
unfolding every
every_by zero t h = refl
every_by (suc n) t h = rw (h n (omega arith)) (every_by n t (λ i l. h i (omega arith)))

-- Two tests that agree below n.
pub every_same : (n : ℕ) (t u : ℕ → Bool) → ((i : ℕ) → i < n → t i ≡ u i) → every n t ≡ every n u
unfolding every
every_same zero t u h = refl
every_same (suc n) t u h = ap₂ (λ (x y : Bool). x && y) (h n (omega arith)) (every_same n t u (λ i l. h i (omega arith)))

-- ---- every index of a range, as `all` asks

-- two tests in the other order
and_swap : (a b c : Bool) → (a && (b && c)) ≡ (b && (a && c))
and_swap true true c = refl
and_swap true false c = refl
and_swap false true c = refl
and_swap false false c = refl

-- A range is asked of from its first index on, `every` from the last one down.
last_too : (a n : ℕ) (t : ℕ → Bool) → list_all t (range_with_len a (suc n)) ≡ (t (a + n) && list_all t (range_with_len a n))
last_too a zero t = simp unary_clauses
last_too a (suc n) t =
    ap (λ (x : Bool). t a && x) (last_too (a + 1) n t) ∙ and_swap (t a) (t (a + 1 + n)) (list_all t (range_with_len (a + 1) n))
    ∙ ap (λ (x : ℕ). t x && (t a && list_all t (range_with_len (a + 1) n))) (omega arith)

listed : (n : ℕ) (t : ℕ → Bool) → list_all t (range_with_len 0 n) ≡ every n t
unfolding every
listed zero t = refl
listed (suc n) t = last_too 0 n t ∙ ap₂ (λ (x : ℕ) (y : Bool). t x && y) (omega arith) (listed n t)

-- What `(0..n).all(f)` answers, where f asks the test t.
pub every_all : {F : Type 0} {g : Mut F (ℕ × Unit {0}) Bool} {s : Range ℕ} (n : ℕ) (t : ℕ → Bool) (u : Range ℕ) (f : F) (r : Bool)
    → ChecksAll nat_range_steps g s f r u → s ≡ record { start = 0; end = n } → ((x : ℕ) (b : Bool) (q : F) → Called g f (x, tt) b q → (q ≡ f) × (b ≡ t x)) → r ≡ every n t
every_all n t u f r ran e asks = all_from_yields_List t u f r ran (YieldsList-from_range 0 n n e (omega arith)) asks ∙ listed n t
