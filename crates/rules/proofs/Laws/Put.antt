-- A table with one object put at an id, and a table of links with one more.
use Rattle.std.specs.Prelude.{ℕ, Bool, cond, ◌&&◌, ◌||◌, ◌≡◌}
use Rattle.std.proofs.Math.Bool.{true, false}
use Rattle.std.proofs.Math.Path.{refl}
use Rattle.std.proofs.Common.{sym, subst}
use Rattle.std.proofs.Math.Dec.{eqb}
use borrow.Author.Tests.{eqb-true, eqb-false, eq-eqb, ne_eqb}
use Rattle.rules.specs.Kernel.{Obj, put, link_in}
use Rattle.rules.proofs.Laws.Bools.{and_l, and_r, or_cases, or_i_r}

pub put_same : (i : ℕ) (x : Obj) (f : ℕ → Obj) (j : ℕ) → j ≡ i → put i x f j ≡ x
unfolding put
put_same i x f j e = rw (eq-eqb j i e)

pub put_other : (i : ℕ) (x : Obj) (f : ℕ → Obj) (j : ℕ) → (j ≡ i → ⊥) → put i x f j ≡ f j
unfolding put
put_other i x f j n = rw (ne_eqb j i n)

-- a property of what stands at j
pub put_at : (P : Obj → Type 0) (i : ℕ) (x : Obj) (f : ℕ → Obj) (j : ℕ) → (j ≡ i → P x) → ((j ≡ i → ⊥) → P (f j)) → P (put i x f j)
unfolding put
put_at P i x f j h k = go (eqb j i) refl
  where
    go : (b : Bool) → eqb j i ≡ b → P (cond b x (f j))
    go true e = h (eqb-true j i e)
    go false e = k (eqb-false j i e)

-- a property of every id and what stands there
pub put_each : (P : ℕ → Obj → Type 0) (i : ℕ) (x : Obj) (f : ℕ → Obj) → P i x → ((j : ℕ) → P j (f j)) → (j : ℕ) → P j (put i x f j)
put_each P i x f p q j = put_at (P j) i x f j (λ e. subst (λ (k : ℕ). P k x) (sym e) p) (λ n. q j)

-- the same of one object in each of two tables
pub put_at_both : (P : Obj → Obj → Type 0) (i : ℕ) (x y : Obj) (f g : ℕ → Obj) (j : ℕ)
    → (j ≡ i → P x y) → ((j ≡ i → ⊥) → P (f j) (g j)) → P (put i x f j) (put i y g j)
unfolding put
put_at_both P i x y f g j h k = go (eqb j i) refl
  where
    go : (b : Bool) → eqb j i ≡ b → P (cond b x (f j)) (cond b y (g j))
    go true e = h (eqb-true j i e)
    go false e = k (eqb-false j i e)

module _ (d o : ℕ) (f : ℕ → ℕ → Bool) where
  pub link_new : link_in d o f d o ≡ true
  unfolding link_in
  link_new = rw (eq-eqb d d refl, eq-eqb o o refl)

  pub link_old : (e p : ℕ) → f e p ≡ true → link_in d o f e p ≡ true
  unfolding link_in
  link_old e p l = or_i_r (eqb e d && eqb p o) (f e p) l

  -- any other pair is linked as before
  pub link_other : (e p : ℕ) → (e ≡ d → p ≡ o → ⊥) → link_in d o f e p ≡ f e p
  unfolding link_in
  link_other e p n = go (eqb e d) (eqb p o) refl refl
    where
      go : (a b : Bool) → eqb e d ≡ a → eqb p o ≡ b → ((a && b) || f e p) ≡ f e p
      go true true x y = absurd (n (eqb-true e d x) (eqb-true p o y))
      go true false x y = refl
      go false b x y = refl

  pub link_cases : {C : Type 0} (e p : ℕ) → link_in d o f e p ≡ true → (e ≡ d → p ≡ o → C) → (f e p ≡ true → C) → C
  unfolding link_in
  link_cases e p h new old =
      or_cases (eqb e d && eqb p o) (f e p) h (λ q. new (eqb-true e d (and_l (eqb e d) (eqb p o) q)) (eqb-true p o (and_r (eqb e d) (eqb p o) q))) old
