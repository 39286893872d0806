-- Sums of a function over the indices below n.
use Rattle.std.specs.Prelude.{◌≡◌, refl, Bool, true, false, not, cond, ℕ, zero, suc, ◌+◌, ◌*◌, ◌<◌, ◌≤◌, eqb}
use Rattle.std.proofs.Common.{sym, ap, subst, ◌∙◌, ⊎_elim, not-suc-le-zero, eq-or-lt_of_le, le_of_suc-le-suc, add-one, arith, eq-eqb, ne_eqb}

-- f 0 + f 1 + … + f (n - 1)
unfoldable pub Σ : ℕ → (ℕ → ℕ) → ℕ
Σ zero f = 0
Σ (suc n) f = Σ n f + f n

-- x where t, else 0
unfoldable pub when : Bool → ℕ → ℕ
when true x = x
when false x = 0

module _ {P : ℕ → Type 0} where
  pub below_suc : (n : ℕ) → ((i : ℕ) → i < suc n → P i) → (i : ℕ) → i < n → P i
  below_suc n h i l = h i (omega arith)

pub sum_cong : (n : ℕ) (f g : ℕ → ℕ) → ((i : ℕ) → i < n → f i ≡ g i) → Σ n f ≡ Σ n g
unfolding Σ
sum_cong zero f g h = refl
sum_cong (suc n) f g h = omega (arith, sum_cong n f g (below_suc n h), h n (omega arith))

pub sum_mono : (n : ℕ) (f g : ℕ → ℕ) → ((i : ℕ) → i < n → f i ≤ g i) → Σ n f ≤ Σ n g
unfolding Σ
sum_mono zero f g h = omega arith
sum_mono (suc n) f g h = omega (arith, sum_mono n f g (below_suc n h), h n (omega arith))

pub sum_add : (n : ℕ) (f g : ℕ → ℕ) → Σ n (λ i. f i + g i) ≡ Σ n f + Σ n g
unfolding Σ
sum_add zero f g = refl
sum_add (suc n) f g = omega (arith, sum_add n f g)

pub sum_none : (n : ℕ) (f : ℕ → ℕ) → ((i : ℕ) → i < n → f i ≡ 0) → Σ n f ≡ 0
unfolding Σ
sum_none zero f h = refl
sum_none (suc n) f h = omega (arith, sum_none n f (below_suc n h), h n (omega arith))

pub sum_swap : (n m : ℕ) (f : ℕ → ℕ → ℕ) → Σ n (λ i. Σ m (λ j. f i j)) ≡ Σ m (λ j. Σ n (λ i. f i j))
unfolding Σ
sum_swap zero m f = sym (sum_none m (λ j. 0) (λ i l. refl))
sum_swap (suc n) m f = omega (arith, sum_swap n m f, sum_add m (λ j. Σ n (λ i. f i j)) (λ j. f n j))

-- a term is no more than the sum
pub sum_term : (n : ℕ) (f : ℕ → ℕ) (j : ℕ) → j < n → f j ≤ Σ n f
unfolding Σ
sum_term zero f j l = absurd (not-suc-le-zero l)
sum_term (suc n) f j l = ⊎_elim (λ e. subst (λ (k : ℕ). f k ≤ Σ n f + f n) (sym e) (omega arith)) (λ k. omega (arith, sum_term n f j k)) (eq-or-lt_of_le (le_of_suc-le-suc l))

-- a term that is not the sum's only one
pub sum_lt : (n : ℕ) (f g : ℕ → ℕ) (j : ℕ) → j < n → ((i : ℕ) → i < n → f i ≤ g i) → f j < g j → Σ n f < Σ n g
unfolding Σ
sum_lt zero f g j l h s = absurd (not-suc-le-zero l)
sum_lt (suc n) f g j l h s =
    ⊎_elim
    (λ e. omega (arith, sum_mono n f g (below_suc n h), subst (λ (k : ℕ). f k < g k) e s))
    (λ k. omega (arith, sum_lt n f g j k (below_suc n h) s, h n (omega arith)))
    (eq-or-lt_of_le (le_of_suc-le-suc l))

-- only the index j counts
pub sum_only : (n : ℕ) (f : ℕ → ℕ) (j : ℕ) → j < n → ((i : ℕ) → i < n → (i ≡ j → ⊥) → f i ≡ 0) → Σ n f ≡ f j
unfolding Σ
sum_only zero f j l h = absurd (not-suc-le-zero l)
sum_only (suc n) f j l h =
    ⊎_elim
    (λ e. omega (arith, sum_none n f (λ i k. h i (omega arith) (λ q. omega arith)), ap f e))
    (λ k. omega (arith, sum_only n f j k (λ i p. h i (omega arith)), h n (omega arith) (λ q. omega arith)))
    (eq-or-lt_of_le (le_of_suc-le-suc l))

pub when_true : (t : Bool) (x : ℕ) → t ≡ true → when t x ≡ x
unfolding when
when_true true x e = refl
when_true false x e = let z : ◌≡◌ {A = ℕ} 0 1 = cc in omega arith

pub when_false : (t : Bool) (x : ℕ) → t ≡ false → when t x ≡ 0
unfolding when
when_false true x e = let z : ◌≡◌ {A = ℕ} 0 1 = cc in omega arith
when_false false x e = refl

pub when_le : (t : Bool) (x y : ℕ) → (t ≡ true → x ≤ y) → when t x ≤ y
unfolding when
when_le true x y h = h refl
when_le false x y h = omega arith

-- what is picked out by an index is what stands there
pub sum_point : (n : ℕ) (f : ℕ → ℕ) (j : ℕ) → j < n → Σ n (λ i. when (eqb i j) (f i)) ≡ f j
sum_point n f j l =
    sum_only n (λ i. when (eqb i j) (f i)) j l (λ i k h. when_false (eqb i j) (f i) (ne_eqb i j h))
    ∙ when_true (eqb j j) (f j) (eq-eqb j j refl)

-- fewer than n of n: one is free
pub free_one : (n : ℕ) (t : ℕ → Bool) → Σ n (λ i. when (t i) 1) < n → (i : ℕ) × (i < n) × (t i ≡ false)
unfolding Σ when
free_one zero t h = absurd (not-suc-le-zero h)
free_one (suc n) t h = go (λ l. free_one n t l) (t n) refl
  where
    go : (Σ n (λ i. when (t i) 1) < n → (i : ℕ) × (i < n) × (t i ≡ false)) → (b : Bool) → t n ≡ b → (i : ℕ) × (i < suc n) × (t i ≡ false)
    go rec false e = (n, omega arith, e)
    go rec true e =
        let (i, l, q) = rec (omega (arith, when_true (t n) 1 e)) in
        (i, omega arith, q)

pub when_cong : (t : Bool) (x y : ℕ) → (t ≡ true → x ≡ y) → when t x ≡ when t y
unfolding when
when_cong true x y h = h refl
when_cong false x y h = refl

pub when_none : (t : Bool) (x : ℕ) → (t ≡ true → x ≡ 0) → when t x ≡ 0
unfolding when
when_none true x h = h refl
when_none false x h = refl

pub when_add : (t : Bool) (x y : ℕ) → when t (x + y) ≡ when t x + when t y
unfolding when
when_add true x y = refl
when_add false x y = refl

pub when_swap : (s t : Bool) (x : ℕ) → when s (when t x) ≡ when t (when s x)
unfolding when
when_swap true t x = refl
when_swap false true x = refl
when_swap false false x = refl

-- a test splits a number
pub when_split : (t : Bool) (x : ℕ) → x ≡ when t x + when (not t) x
unfolding when
when_split true x = omega arith
when_split false x = omega arith

pub sum_when : (n : ℕ) (t : Bool) (f : ℕ → ℕ) → Σ n (λ i. when t (f i)) ≡ when t (Σ n f)
unfolding when
sum_when n true f = refl
sum_when n false f = sum_none n (λ i. 0) (λ i l. refl)

scale : (b : Bool) (y : ℕ) → when b y ≡ when b 1 * y
unfolding when
scale true y = omega arith
scale false y = omega arith

-- the same number at each index that is counted
pub sum_const : (n : ℕ) (t : ℕ → Bool) (x : ℕ) → Σ n (λ i. when (t i) x) ≡ Σ n (λ i. when (t i) 1) * x
unfolding Σ
sum_const zero t x = omega arith
sum_const (suc n) t x = omega (arith, sum_const n t x, scale (t n) x)

-- a count above 0 has a witness
pub found : (n : ℕ) (t : ℕ → Bool) → 0 < Σ n (λ i. when (t i) 1) → (i : ℕ) × (i < n) × (t i ≡ true)
unfolding Σ when
found zero t h = absurd (not-suc-le-zero h)
found (suc n) t h = go (λ l. found n t l) (t n) refl
  where
    go : (0 < Σ n (λ i. when (t i) 1) → (i : ℕ) × (i < n) × (t i ≡ true)) → (b : Bool) → t n ≡ b → (i : ℕ) × (i < suc n) × (t i ≡ true)
    go rec true e = (n, omega arith, e)
    go rec false e =
        let (i, l, q) = rec (omega (arith, when_false (t n) 1 e)) in
        (i, omega arith, q)

scale2 : (a b : Bool) (y : ℕ) → when a (when b y) ≡ when a (when b 1) * y
unfolding when
scale2 true true y = omega arith
scale2 true false y = omega arith
scale2 false b y = omega arith

-- the same number at each index that two tests count
pub sum_const2 : (n : ℕ) (s t : ℕ → Bool) (x : ℕ) → Σ n (λ i. when (s i) (when (t i) x)) ≡ Σ n (λ i. when (s i) (when (t i) 1)) * x
unfolding Σ
sum_const2 zero s t x = omega arith
sum_const2 (suc n) s t x = omega (arith, sum_const2 n s t x, scale2 (s n) (t n) x)

-- one number, at one index
pub sum_pick : (n j x : ℕ) → j < n → Σ n (λ i. when (eqb j i) x) ≡ x
sum_pick n j x l =
    sum_only n (λ i. when (eqb j i) x) j l (λ i k h. when_false (eqb j i) x (ne_eqb j i (λ e. h (sym e))))
    ∙ when_true (eqb j j) x (eq-eqb j j refl)

-- a sum above 0 has a term above 0
pub sum_pos : (n : ℕ) (f : ℕ → ℕ) → 0 < Σ n f → (i : ℕ) × (i < n) × (0 < f i)
unfolding Σ
sum_pos zero f h = absurd (not-suc-le-zero h)
sum_pos (suc n) f h = go (λ l. sum_pos n f l) (f n) refl
  where
    go : (0 < Σ n f → (i : ℕ) × (i < n) × (0 < f i)) → (x : ℕ) → f n ≡ x → (i : ℕ) × (i < suc n) × (0 < f i)
    go rec (suc x) e = (n, omega arith, omega arith)
    go rec zero e =
        let (i, l, q) = rec (omega arith) in
        (i, omega arith, q)

pub when_pos : (t : Bool) (x : ℕ) → 0 < when t x → (t ≡ true) × (0 < x)
unfolding when
when_pos true x h = (refl, h)
when_pos false x h = absurd (not-suc-le-zero h)

-- two sums that differ at one index
pub sum_change : (n : ℕ) (f g : ℕ → ℕ) (j : ℕ) → j < n → ((i : ℕ) → i < n → (i ≡ j → ⊥) → g i ≡ f i) → Σ n g + f j ≡ Σ n f + g j
unfolding Σ
sum_change zero f g j l h = absurd (not-suc-le-zero l)
sum_change (suc n) f g j l h =
    ⊎_elim
    (λ e. omega (arith, sum_cong n g f (λ i k. h i (omega arith) (λ q. omega arith)), ap f e, ap g e))
    (λ k. omega (arith, sum_change n f g j k (λ i p. h i (omega arith)), h n (omega arith) (λ q. omega arith)))
    (eq-or-lt_of_le (le_of_suc-le-suc l))

-- one index more, as a loop counts
pub sum_more : (n : ℕ) (f : ℕ → ℕ) → Σ (n + 1) f ≡ Σ n f + f n
unfolding Σ
sum_more n f = rw (add-one n)

-- f with x at o
unfoldable pub put : (ℕ → ℕ) → ℕ → ℕ → ℕ → ℕ
put f o x i = cond (eqb i o) x (f i)

pub put_here : (f : ℕ → ℕ) (o x i : ℕ) → i ≡ o → put f o x i ≡ x
unfolding put
put_here f o x i e = rw (eq-eqb i o e)

pub put_else : (f : ℕ → ℕ) (o x i : ℕ) → (i ≡ o → ⊥) → put f o x i ≡ f i
unfolding put
put_else f o x i ne = rw (ne_eqb i o ne)
