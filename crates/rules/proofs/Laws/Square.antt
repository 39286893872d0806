-- A square of n by n, counted row by row: place l is in row l / n and column l % n.
use Rattle.std.specs.Prelude.{ℕ, zero, suc, ◌+◌, ◌*◌, ◌/◌, ◌%◌, ◌<◌, ◌≤◌, ◌≡◌}
use Rattle.std.proofs.Common.{add-suc, add-zero, suc-mul, zero-mul, mod-eq_of_lt, mul-le-mul_right, arith, ◌∙◌, ap, ap₂}
use Rattle.std.proofs.Math.Nat.{mul-add-div_right, mul-add-mod_self_right, div-eq_of_lt}
use Rattle.quotas.specs.Sum.{Σ, sum_cong}

module _ (n i j : ℕ) (col : j < n) where
  pub row_of : (i * n + j) / n ≡ i
  row_of = mul-add-div_right (omega arith) i j ∙ ap (λ (k : ℕ). i + k) (div-eq_of_lt col) ∙ omega arith

  pub column_of : (i * n + j) % n ≡ j
  column_of = mul-add-mod_self_right i n j ∙ mod-eq_of_lt col

  pub place_below : i < n → i * n + j < n * n
  place_below l = let z : suc i * n ≤ n * n = mul-le-mul_right n l in let e = suc-mul i n in omega arith

-- a sum in two parts
pub sum_plus : (a b : ℕ) (f : ℕ → ℕ) → Σ (a + b) f ≡ Σ a f + Σ b (λ j. f (a + j))
unfolding Σ
sum_plus a zero f = ap (λ (k : ℕ). Σ k f) (add-zero a) ∙ omega arith
sum_plus a (suc b) f = ap (λ (k : ℕ). Σ k f) (add-suc a b) ∙ omega (arith, sum_plus a b f)

sum_rows : (n k : ℕ) (f : ℕ → ℕ → ℕ) → Σ (k * n) (λ l. f (l / n) (l % n)) ≡ Σ k (λ i. Σ n (λ j. f i j))
unfolding Σ
sum_rows n zero f = ap (λ (m : ℕ). Σ m (λ l. f (l / n) (l % n))) (zero-mul n)
sum_rows n (suc k) f =
    ap (λ (m : ℕ). Σ m (λ l. f (l / n) (l % n))) (suc-mul k n)
    ∙ sum_plus (k * n) n (λ l. f (l / n) (l % n))
    ∙ ap₂ (λ (a b : ℕ). a + b) (sum_rows n k f)
    (sum_cong n (λ j. f ((k * n + j) / n) ((k * n + j) % n)) (λ j. f k j) (λ j l. ap₂ f (row_of n k j l) (column_of n k j l)))

-- A sum over the places is a sum over rows and columns.
pub sum_square : (n : ℕ) (f : ℕ → ℕ → ℕ) → Σ (n * n) (λ l. f (l / n) (l % n)) ≡ Σ n (λ i. Σ n (λ j. f i j))
sum_square n f = sum_rows n n f
