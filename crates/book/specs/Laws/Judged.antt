-- What the functions that test a book go by: each test said of what they have read.
use Rattle.std.specs.Prelude.{ℕ, zero, suc, ◌+◌, Bool, true, false, not, cond, ◌&&◌, ◌≡◌, refl, ltb, leb}
use Rattle.std.proofs.Common.{arith, sym, ◌∙◌, ap, ap₂, le-ltb, lt-ltb, leb-true, leb-false}
use Rattle.labels.specs.declared.Label.{Label}
use Rattle.labels.specs.Core.{flows, well_formed}
use Rattle.quotas.specs.Any.{any, either}
use Rattle.tables.specs.Layout.{View}
use Rattle.book.specs.Book.{next_of, code_of, label_of, clearance_of, is_thread_or_gate}
use Rattle.book.specs.Test.{every, clear_b, label_b}

-- ---- tests

-- Less is at least one more.
pub less_is : (x y : ℕ) → ltb x y ≡ leb (1 + x) y
less_is x y = go (leb (1 + x) y) refl
  where
    go : (b : Bool) → leb (1 + x) y ≡ b → ltb x y ≡ leb (1 + x) y
    go true e = lt-ltb x y (omega (arith, leb-true (1 + x) y e)) ∙ sym e
    go false e = le-ltb x y (omega (arith, leb-false (1 + x) y e)) ∙ sym e

-- Some index passes unless every one fails.
pub any_every : (n : ℕ) (t : ℕ → Bool) → any n t ≡ not (every n (λ i. not (t i)))
unfolding any every either
any_every zero t = refl
any_every (suc n) t = go (t n) (any_every n t)
  where
    go : (b : Bool) → any n t ≡ not (every n (λ i. not (t i))) → either b (any n t) ≡ not (not b && every n (λ i. not (t i)))
    go true h = refl
    go false h = h

-- ---- labels, as they were read

pub clear_read : (v : View) (r n : ℕ) (l c : Label) → n ≡ next_of v → l ≡ label_of v r → c ≡ clearance_of v r
    → (t : Bool) → well_formed n false c ≡ t → clear_b v r ≡ (t && flows l c)
unfolding clear_b
clear_read v r n l c en el ec t et =
    ap₂ (λ (x y : Label). well_formed (next_of v) false y && flows x y) (sym el) (sym ec)
    ∙ ap (λ (x : ℕ). well_formed x false c && flows l c) (sym en)
    ∙ ap (λ (x : Bool). x && flows l c) et

pub label_read : (v : View) (r k n : ℕ) (s : Bool) (l : Label) → k ≡ code_of v r → s ≡ is_thread_or_gate k → n ≡ next_of v → l ≡ label_of v r
    → (t : Bool) → well_formed n s l ≡ t → label_b v r ≡ (t && cond s (clear_b v r) true)
unfolding label_b
label_read v r k n s l ek es en el t et =
    ap (λ (x : Label). well_formed (next_of v) (is_thread_or_gate (code_of v r)) x && cond (is_thread_or_gate (code_of v r)) (clear_b v r) true) (sym el)
    ∙ ap (λ (x : Bool). well_formed (next_of v) x l && cond x (clear_b v r) true) (sym (es ∙ ap is_thread_or_gate ek))
    ∙ ap (λ (x : ℕ). well_formed x s l && cond s (clear_b v r) true) (sym en)
    ∙ ap (λ (x : Bool). x && cond s (clear_b v r) true) et
