-- What one pass over the links leaves in two arrays: for each row, how many links lead to it and the quotas of all that is linked in it.
use Rattle.std.specs.Prelude.{ℕ, ◌*◌, ◌<◌, ◌≤◌, Bool, ◌&&◌, List, ◌≡◌, length, get_or, eqb}
use Rattle.quotas.specs.Sum.{Σ, when}
use Rattle.rules.specs.Kernel.{root_quota}
use Rattle.tables.specs.Layout.{View, row_count, link_count}
use Rattle.book.specs.Book.{from_of, to_of, quota_of, live_link}
use Rattle.book.specs.Sound.{links_to}
use Rattle.book.specs.Test.{every, link_b, once_b}

-- of the links below n, how many lead to row r
unfoldable pub links_below : View → ℕ → ℕ → ℕ
links_below v n r = Σ n (λ l. when (live_link v l) (when (eqb (to_of v l) r) 1))

-- of the links below n, the quotas of all that is linked in the container at row c
unfoldable pub charged_below : View → ℕ → ℕ → ℕ
charged_below v n c = Σ n (λ l. when (live_link v l) (when (eqb (from_of v l) c) (quota_of v (to_of v l))))

-- what the pass tests: every link leads from a container to an object, and none occurs twice
unfoldable pub tally_b : View → Bool
tally_b v = every link_count (link_b v) && every link_count (once_b v (links_to v))

-- the arrays hold these, and so little that no sum of them overflows
pub record Tallied (v : View) (n : ℕ) (counts charges : List ℕ) : Type 0 where
  pub counts_long : length counts ≡ row_count
  pub charges_long : length charges ≡ row_count
  pub links : (r : ℕ) → r < row_count → get_or counts r 0 ≡ links_below v n r
  pub charged : (r : ℕ) → r < row_count → get_or charges r 0 ≡ charged_below v n r
  pub links_most : (r : ℕ) → r < row_count → get_or counts r 0 ≤ n
  pub charged_most : (r : ℕ) → r < row_count → get_or charges r 0 ≤ n * root_quota
