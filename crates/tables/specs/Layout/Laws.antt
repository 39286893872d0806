-- What a read and a write of one number are to the tables, each law stated once over table, place, width and count.
use Rattle.std.specs.Prelude.{◌≡◌, refl, ◌⊎◌, ℕ, zero, suc, ◌+◌, ◌*◌, ◌^◌, ◌<◌, ◌≤◌, length, get_or, eqb}
use Rattle.std.proofs.Common.{sym, ap₂, ◌∙◌, subst, inl, inr, ⊎_elim, suc-mul, mul-le-mul_right, zero-mul, eq-or-lt_of_le, add-zero, zero-add, suc-add, add-suc, arith, ext_get_or, eq-eqb, ne_eqb}
use Rattle.std.proofs.Math.Path.{ap}
use Rattle.std.proofs.Math.Bool.{cond}
use mathlib.Core.List.{List, [], ◌∷◌}
use Rattle.std.proofs.Math.ListN.{set, get_or-eq_default}
use Rattle.labels.specs.Le.{le_at, le_set}
use Rattle.labels.specs.Le.Laws.{le_set_low, le_set_high, le_at_agree, le_at_same}
use Rattle.tables.specs.Layout.{tables, table_count, w_of, n_of, base, size, nums, tab, View, from_tabs, tabs, tab_of, view, put_t, Slot}

-- c has b's bytes from lo up to hi
abbrev pub Agree : List ℕ → List ℕ → ℕ → ℕ → Type 0
Agree c b lo hi = (k : ℕ) → lo ≤ k → k < hi → get_or c k 0 ≡ get_or b k 0

-- ---- numbers in a row

-- they depend on their own bytes alone
pub nums_agree : (w n : ℕ) (c b : List ℕ) (from : ℕ) → Agree c b from (from + n * w) → nums w n c from ≡ nums w n b from
unfolding nums
nums_agree w zero c b from h = refl
nums_agree w (suc n) c b from h =
    ap₂ (λ (x : ℕ) (y : List ℕ). x ∷ y)
    (le_at_agree w c b from (λ k l u. h k l (omega (arith, suc-mul n w))))
    (nums_agree w n c b (from + w) (λ k l u. h k (omega arith) (omega (arith, suc-mul n w))))

-- where only the bytes of number i differ, only number i does
pub nums_same : (w n : ℕ) (c b : List ℕ) (from i : ℕ) → i < n → Agree c b from (from + i * w) → Agree c b (from + i * w + w) (from + n * w)
    → nums w n c from ≡ set (nums w n b from) i (le_at w c (from + i * w))
unfolding nums
nums_same w zero c b from i h lo hi = absurd (omega arith)
nums_same w (suc n) c b from zero h lo hi =
    ap₂ (λ (x : ℕ) (y : List ℕ). x ∷ y)
    (ap (le_at w c) (omega (arith, zero-mul w)))
    (nums_agree w n c b (from + w) (λ k l u. hi k (omega (arith, zero-mul w)) (omega (arith, suc-mul n w))))
nums_same w (suc n) c b from (suc i) h lo hi =
    ap₂ (λ (x : ℕ) (y : List ℕ). x ∷ y)
    (le_at_agree w c b from (λ k l u. lo k l (omega (arith, suc-mul i w))))
    (nums_same w n c b (from + w) i (omega arith) (λ k l u. lo k (omega arith) (omega (arith, suc-mul i w))) (λ k l u. hi k (omega (arith, suc-mul i w)) (omega (arith, suc-mul n w)))
    ∙ ap (λ (x : ℕ). set (nums w n b (from + w)) i (le_at w c x)) (omega (arith, suc-mul i w)))

-- number i
pub nums_at : (w n : ℕ) (b : List ℕ) (from i : ℕ) → i < n → get_or (nums w n b from) i 0 ≡ le_at w b (from + i * w)
unfolding nums
nums_at w zero b from i h = absurd (omega arith)
nums_at w (suc n) b from zero h = ap (le_at w b) (omega (arith, zero-mul w))
nums_at w (suc n) b from (suc i) h = nums_at w n b (from + w) i (omega arith) ∙ ap (le_at w b) (omega (arith, suc-mul i w))

pub nums_length : (w n : ℕ) (b : List ℕ) (from : ℕ) → length (nums w n b from) ≡ n
unfolding nums
nums_length w zero b from = refl
nums_length w (suc n) b from = ap suc (nums_length w n b (from + w))

-- ---- the tables of the bytes

-- two numbers are equal, or one is below the other
pub three : (s t : ℕ) → (s ≡ t) ⊎ ((s < t) ⊎ (t < s))
three zero zero = inl refl
three zero (suc t) = inr (inl (omega arith))
three (suc s) zero = inr (inr (omega arith))
three (suc s) (suc t) =
    ⊎_elim (λ e. inl (ap suc e)) (λ o. ⊎_elim (λ q. inr (inl (omega arith))) (λ q. inr (inr (omega arith))) o) (three s t)

pub side : (k m : ℕ) → (k < m) ⊎ (m ≤ k)
side k m = ⊎_elim (λ e. inr (omega arith)) (λ o. ⊎_elim (λ q. inl q) (λ q. inr (omega arith)) o) (three k m)

-- tables do not overlap
pub base_le : (t s : ℕ) → t < s → base t + n_of t * w_of t ≤ base s
base_le t zero h = absurd (omega arith)
base_le t (suc s) h =
    ⊎_elim (λ e. subst (λ (x : ℕ). base t + n_of t * w_of t ≤ base (suc x)) e (omega arith)) (λ l. omega (arith, base_le t s l))
    (eq-or-lt_of_le {n = t} {m = s} (omega arith))

-- number i of n lies within the table
pub within : (i n w : ℕ) → i < n → i * w + w ≤ n * w
within i n w h = omega (arith, mul-le-mul_right {m = suc i} {n = n} w h, suc-mul i w)

pub tab_at : (t i : ℕ) (b : List ℕ) → i < n_of t → get_or (tab b t) i 0 ≡ le_at (w_of t) b (base t + i * w_of t)
unfolding tab
tab_at t i b h = nums_at (w_of t) (n_of t) b (base t) i h

pub tab_length : (t : ℕ) (b : List ℕ) → length (tab b t) ≡ n_of t
unfolding tab
tab_length t b = nums_length (w_of t) (n_of t) b (base t)

-- ---- a book as a function of the table's number

-- f i, f (i + 1), .., n of them
abbrev pub tabulate : {A : Type 0} → (ℕ → A) → ℕ → ℕ → List A
tabulate f i zero = []
tabulate f i (suc n) = f i ∷ tabulate f (suc i) n

get_d_from : {A : Type 0} (f : ℕ → A) (n i t : ℕ) (d : A) → t < n → get_or (tabulate f i n) t d ≡ f (i + t)
get_d_from f zero i t d h = absurd (omega arith)
get_d_from f (suc n) i zero d h = ap f (sym (add-zero i))
get_d_from f (suc n) i (suc t) d h = get_d_from f n (suc i) t d (omega arith) ∙ ap f (suc-add i t ∙ sym (add-suc i t))

-- what stands at t of a list that is f 0, f 1, .. written out
pub get_d_tabulate : {A : Type 0} (f : ℕ → A) (n t : ℕ) (d : A) → t < n → get_or (tabulate f 0 n) t d ≡ f t
get_d_tabulate f n t d h = get_d_from f n 0 t d h ∙ ap f (zero-add t)

-- the offsets of docs/BOOK.md, and the length
pub offsets : tabulate base 0 table_count
    ≡ 0 ∷ 8 ∷ 16 ∷ 2064 ∷ 2320 ∷ 2576 ∷ 2832 ∷ 3344 ∷ 3856 ∷ 5904
    ∷ 6160 ∷ 22544 ∷ 22800 ∷ 39184 ∷ 47376 ∷ 55568 ∷ 56078 ∷ 56588 ∷ 57100 ∷ []
offsets = refl

pub size_is : size ≡ 57356
size_is = refl

pub tab_of_from : (f : ℕ → List ℕ) (t : ℕ) → t < table_count → tab_of (from_tabs f) t ≡ f t
tab_of_from f t h = get_d_tabulate f table_count t [] h

-- books are equal by their tables
pub tabs_same : (f g : ℕ → List ℕ) → ((t : ℕ) → t < table_count → f t ≡ g t) → from_tabs f ≡ from_tabs g
tabs_same f g h =
    ap (λ (l : List (List ℕ)). from_tabs (λ t. get_or l t []))
    (ext_get_or [] (tabulate f 0 table_count) (tabulate g 0 table_count) refl
    (λ t q. get_d_tabulate f table_count t [] q ∙ h t q ∙ sym (get_d_tabulate g table_count t [] q)))

pub tab_of_is : (b : List ℕ) (t : ℕ) → t < table_count → tab_of (view b) t ≡ tab b t
unfolding view
tab_of_is b t h = tab_of_from (tab b) t h

-- ---- a number written

module _ (t i v : ℕ) (b : List ℕ) (h : i < n_of t) (l : v < 256 ^ w_of t) (f : base t + n_of t * w_of t ≤ length b) where
  put_same : tab (le_set (w_of t) b (base t + i * w_of t) v) t ≡ set (tab b t) i v
  unfolding tab
  put_same =
      nums_same (w_of t) (n_of t) (le_set (w_of t) b (base t + i * w_of t) v) b (base t) i h
      (λ k lo hi. le_set_low (w_of t) b (base t + i * w_of t) v k hi)
      (λ k lo hi. le_set_high (w_of t) b (base t + i * w_of t) v k lo)
      ∙ ap (λ (x : ℕ). set (nums (w_of t) (n_of t) b (base t)) i x)
      (le_at_same (w_of t) b (base t + i * w_of t) v (omega (arith, within i (n_of t) (w_of t) h)) l)

  put_below : (s : ℕ) → s < t → tab (le_set (w_of t) b (base t + i * w_of t) v) s ≡ tab b s
  unfolding tab
  put_below s q =
      nums_agree (w_of s) (n_of s) (le_set (w_of t) b (base t + i * w_of t) v) b (base s)
      (λ k lo hi. le_set_low (w_of t) b (base t + i * w_of t) v k (omega (arith, base_le s t q)))

  put_above : (s : ℕ) → t < s → tab (le_set (w_of t) b (base t + i * w_of t) v) s ≡ tab b s
  unfolding tab
  put_above s q =
      nums_agree (w_of s) (n_of s) (le_set (w_of t) b (base t + i * w_of t) v) b (base s)
      (λ k lo hi. le_set_high (w_of t) b (base t + i * w_of t) v k (omega (arith, base_le t s q, within i (n_of t) (w_of t) h)))

  -- as table s sees it
  pub tab_put : (s : ℕ) → tab (le_set (w_of t) b (base t + i * w_of t) v) s ≡ cond (eqb s t) (set (tab b s) i v) (tab b s)
  tab_put s =
      ⊎_elim
      (λ e. rw (eq-eqb s t e) (subst (λ (x : ℕ). tab (le_set (w_of t) b (base t + i * w_of t) v) x ≡ set (tab b x) i v) (sym e) put_same))
      (λ o. ⊎_elim
      (λ q. rw (ne_eqb s t (λ e. omega arith)) (put_below s q))
      (λ q. rw (ne_eqb s t (λ e. omega arith)) (put_above s q))
      o)
      (three s t)

  -- as the whole book sees it
  pub view_put : view (le_set (w_of t) b (base t + i * w_of t) v) ≡ put_t t i v (view b)
  unfolding view
  view_put =
      tabs_same (tab (le_set (w_of t) b (base t + i * w_of t) v)) (λ s. cond (eqb s t) (set (tab_of (view b) s) i v) (tab_of (view b) s))
      (λ s q. tab_put s ∙ ap (λ (x : List ℕ). cond (eqb s t) (set x i v) x) (sym (tab_of_is b s q)))

-- ---- a slot

-- where a number begins is within the book, and so are its bytes
pub place_room : (t w i : ℕ) → t < table_count → w_of t ≡ w → i ≤ n_of t → base t + i * w ≤ size
place_room t w i h e l =
    subst (λ (x : ℕ). base t + i * x ≤ size) e (omega (arith, mul-le-mul_right {m = i} {n = n_of t} (w_of t) l, base_le t table_count h))

pub place_reach : (t w i : ℕ) → t < table_count → w_of t ≡ w → i < n_of t → base t + i * w + w ≤ size
place_reach t w i h e l =
    subst (λ (x : ℕ). base t + i * x + x ≤ size) e (omega (arith, within i (n_of t) (w_of t) l, base_le t table_count h))

-- what is written at its place, and what is read there
pub slot_put : (b : List ℕ) (t w i v from : ℕ) → Slot b t w i → v < 256 ^ w → from ≡ base t + i * w → view (le_set w b from v) ≡ put_t t i v (view b)
slot_put b t w i v from s l e =
    ap (λ (x : ℕ). view (le_set w b x v)) e
    ∙ subst (λ (x : ℕ). view (le_set x b (base t + i * x) v) ≡ put_t t i v (view b)) s.wide
    (view_put t i v b s.place (subst (λ (x : ℕ). v < 256 ^ x) (sym s.wide) l) (omega (arith, base_le t table_count s.table, s.whole)))

pub slot_get : (b : List ℕ) (t w i from : ℕ) → Slot b t w i → from ≡ base t + i * w → le_at w b from ≡ get_or (tab_of (view b) t) i 0
slot_get b t w i from s e =
    ap (le_at w b) e
    ∙ subst (λ (x : ℕ). le_at x b (base t + i * x) ≡ get_or (tab_of (view b) t) i 0) s.wide
    (sym (tab_at t i b s.place) ∙ ap (λ (x : List ℕ). get_or x i 0) (sym (tab_of_is b t s.table)))

-- ---- the tables of a view

-- past the last table there is none, so it is enough to know the lengths of those below table_count
pub long_all : (k : View) → ((t : ℕ) → t < table_count → length (tab_of k t) ≡ n_of t) → (t : ℕ) → length (tab_of k t) ≡ n_of t
long_all k f t =
    ⊎_elim (f t)
    (λ h. ap length (get_or-eq_default (tabs k) [] {n = t} h) ∙ sym (ap (λ (x : ℕ × ℕ). x.1) (get_or-eq_default tables (0, 0) {n = t} h)))
    (side t table_count)

pub tab_of_long : (b : List ℕ) (t : ℕ) → length (tab_of (view b) t) ≡ n_of t
tab_of_long b = long_all (view b) (λ t h. ap length (tab_of_is b t h) ∙ tab_length t b)
