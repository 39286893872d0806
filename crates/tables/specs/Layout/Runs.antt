-- Numbers that stand in a row: written one by one, and read where they stand.
use Rattle.std.specs.Prelude.{◌≡◌, refl, Bool, true, false, cond, ℕ, suc, ◌+◌, ◌-◌, ◌*◌, ◌<◌, ◌≤◌, List, [], ◌∷◌, ◌++◌, length, get_or, set, take, drop, eqb}
use Rattle.std.proofs.Common.{sym, ap, ap₂, ◌∙◌, add-zero, add-suc, suc-add, mul-le-mul_right, add-mul, subst, add-one, arith, append_assoc, length-drop}
use Rattle.std.proofs.Common.{take-suc, take_at, drop_at, drop-set-lt, get_or-take, get_or-drop, ext_get_or, length-take-le}
use Rattle.std.proofs.lemmas.List.Edits.{sets, sets-eq}
use Rattle.std.proofs.lemmas.List.{take-set-le, drop-set-add}
use Rattle.labels.specs.Le.{le_at}
use Rattle.labels.specs.Core.{words_at, spelt}
use Rattle.labels.specs.Core.Bytes.{words_at_length}
use Rattle.labels.specs.Core.InPlace.{words_at_at, spelt_part}
use Rattle.tables.specs.Layout.{table_count, w_of, n_of, base, size, View, tab_of, view, put_t, run_t, Slot, Run}
use Rattle.tables.specs.Layout.Laws.{tabs_same, tab_of_from, tab_of_long, base_le, slot_get}

-- the table reaches as far as a run
pub run_long : (b : List ℕ) (t w i n : ℕ) → Run b t w i n → i + n ≤ length (tab_of (view b) t)
run_long b t w i n r = omega (arith, tab_of_long b t, r.place)

-- ---- a run written

sets_snoc : (xs : List ℕ) (x : ℕ) (l : List ℕ) (i : ℕ) → sets l i (xs ++ (x ∷ [])) ≡ set (sets l i xs) (i + length xs) x
sets_snoc [] x l i = ap (λ (n : ℕ). set l n x) (sym (add-zero i))
sets_snoc (a ∷ xs) x l i =
    sets_snoc xs x (set l i a) (suc i) ∙ ap (λ (n : ℕ). set (sets (set l i a) (suc i) xs) n x) (suc-add i (length xs) ∙ sym (add-suc i (length xs)))

sets_more : (l vs : List ℕ) (i j : ℕ) → j < length vs → set (sets l i (take j vs)) (i + j) (get_or vs j 0) ≡ sets l i (take (j + 1) vs)
sets_more l vs i j h =
    let n : length (take j vs) ≡ j = length-take-le j vs (omega arith) in
    sym
    (rw (add-one, take-suc vs j 0 h)
    (sets_snoc (take j vs) (get_or vs j 0) l i ∙ ap (λ (n : ℕ). set (sets l i (take j vs)) (i + n) (get_or vs j 0)) n))

pick_more : (y : Bool) (l vs : List ℕ) (i j : ℕ) → j < length vs
    → cond y (set (cond y (sets l i (take j vs)) l) (i + j) (get_or vs j 0)) (cond y (sets l i (take j vs)) l) ≡ cond y (sets l i (take (j + 1) vs)) l
pick_more true l vs i j h = sets_more l vs i j h
pick_more false l vs i j h = refl

-- one number more
pub run_more : (t i j : ℕ) (vs : List ℕ) (k : View) → j < length vs → put_t t (i + j) (get_or vs j 0) (run_t t i (take j vs) k) ≡ run_t t i (take (j + 1) vs) k
run_more t i j vs k h =
    tabs_same _ _
    (λ s q. ap (λ (x : List ℕ). cond (eqb s t) (set x (i + j) (get_or vs j 0)) x) (tab_of_from (λ u. cond (eqb u t) (sets (tab_of k u) i (take j vs)) (tab_of k u)) s q)
    ∙ pick_more (eqb s t) (tab_of k s) vs i j h)

none : (y : Bool) (l : List ℕ) → l ≡ cond y l l
none true l = refl
none false l = refl

-- no number changes nothing
pub run_none : (t i : ℕ) (k : View) → k ≡ run_t t i [] k
run_none t i k = tabs_same (tab_of k) (λ s. cond (eqb s t) (tab_of k s) (tab_of k s)) (λ s q. none (eqb s t) (tab_of k s))

-- as a walk puts them: v is the next, and the tables are b before it and c after it
pub run_step : (t i j v : ℕ) (vs : List ℕ) (k b c : View) → j < length vs → v ≡ get_or vs j 0 → b ≡ run_t t i (take j vs) k → c ≡ put_t t (i + j) v b
    → c ≡ run_t t i (take (j + 1) vs) k
run_step t i j v vs k b c h e f p = p ∙ ap₂ (λ (x : ℕ) (y : View). put_t t (i + j) x y) e f ∙ run_more t i j vs k h

-- ---- a run that was written

-- what was written is read
pub sets_read : (l : List ℕ) (i : ℕ) (vs : List ℕ) → i + length vs ≤ length l → take (length vs) (drop i (sets l i vs)) ≡ vs
sets_read l i vs h =
    let far : length (take i l) ≡ i = length-take-le i l (omega arith) in
    ap (λ (x : List ℕ). take (length vs) (drop i x)) (sets-eq vs l i h ∙ append_assoc (take i l) vs (drop (i + length vs) l))
    ∙ ap (take (length vs)) (drop_at (take i l) (vs ++ drop (i + length vs) l) i far)
    ∙ take_at vs (drop (i + length vs) l) (length vs) refl

set_before : (l : List ℕ) (i v j n : ℕ) → j + n ≤ i → take n (drop j (set l i v)) ≡ take n (drop j l)
set_before l i v j n h =
    let e : i ≡ j + (i - j) = omega arith in
    ap (λ (x : ℕ). take n (drop j (set l x v))) e ∙ ap (take n) (drop-set-add j l (i - j) v) ∙ take-set-le n (drop j l) (i - j) v (omega arith)

-- a run that ends before what was written, or starts behind it, stays
pub sets_before : (l : List ℕ) (i : ℕ) (vs : List ℕ) (j n : ℕ) → j + n ≤ i → take n (drop j (sets l i vs)) ≡ take n (drop j l)
sets_before l i [] j n h = refl
sets_before l i (v ∷ vs) j n h = sets_before (set l i v) (suc i) vs j n (omega arith) ∙ set_before l i v j n h

pub sets_behind : (l : List ℕ) (i : ℕ) (vs : List ℕ) (j : ℕ) → i + length vs ≤ j → drop j (sets l i vs) ≡ drop j l
sets_behind l i [] j h = refl
sets_behind l i (v ∷ vs) j h = sets_behind (set l i v) (suc i) vs j (omega arith) ∙ drop-set-lt j l i v (omega arith)

-- ---- a run where it stands

-- it lies within the book
pub run_room : (b : List ℕ) (t w i n : ℕ) → Run b t w i n → base t + i * w + n * w ≤ size
run_room b t w i n r =
    let reach : (i + n) * w_of t ≤ n_of t * w_of t = mul-le-mul_right {m = i + n} {n = n_of t} (w_of t) r.place in
    subst (λ (x : ℕ). base t + i * x + n * x ≤ size) r.wide (omega (arith, base_le t table_count r.table, reach, add-mul i n (w_of t)))

module _ (b : List ℕ) (t w i n : ℕ) (r : Run b t w i n) where
  run_length : length (take n (drop i (tab_of (view b) t))) ≡ n
  run_length = length-take-le n (drop i (tab_of (view b) t)) (simp length-drop (omega (arith, run_long b t w i n r)))

  -- number j of it
  run_at : (j : ℕ) → j < n → le_at w b (base t + i * w + j * w) ≡ get_or (take n (drop i (tab_of (view b) t))) j 0
  run_at j h =
      let l = tab_of (view b) t in
      let s : Slot b t w (i + j) = record { whole = r.whole; table = r.table; wide = r.wide; place = omega (arith, r.place) } in
      slot_get b t w (i + j) (base t + i * w + j * w) s (omega (arith, add-mul i j w))
      ∙ sym (get_or-take n (drop i l) j 0 h ∙ get_or-drop i l j 0)

-- of a table of bytes: its numbers are the book's bytes there
pub run_bytes : (b : List ℕ) (t i n : ℕ) → Run b t 1 i n → take n (drop (base t + i) b) ≡ take n (drop i (tab_of (view b) t))
unfolding le_at
run_bytes b t i n r =
    let part = take n (drop (base t + i) b) in
    let long : length part ≡ n = length-take-le n (drop (base t + i) b) (simp length-drop (omega (arith, run_room b t 1 i n r, r.whole))) in
    ext_get_or 0 part (take n (drop i (tab_of (view b) t))) (long ∙ sym (run_length b t 1 i n r)) (λ j q.
    let h : j < n = omega (arith, long) in
    let here : get_or part j 0 ≡ get_or b (base t + i + j) 0 = get_or-take n (drop (base t + i) b) j 0 h ∙ get_or-drop (base t + i) b j 0 in
    let m : base t + i * 1 + j * 1 ≡ base t + i + j = omega arith in
    here ∙ omega (arith, run_at b t 1 i n r j h, ap (λ (x : ℕ). get_or b x 0) m))

-- of a table of words: its numbers are the words that the book's bytes spell there
pub run_words : (b : List ℕ) (t i n : ℕ) → Run b t 8 i n → words_at n b (base t + i * 8) ≡ take n (drop i (tab_of (view b) t))
run_words b t i n r =
    let words = words_at n b (base t + i * 8) in
    let long : length words ≡ n = words_at_length n b (base t + i * 8) in
    ext_get_or 0 words (take n (drop i (tab_of (view b) t))) (long ∙ sym (run_length b t 8 i n r)) (λ j q.
    let h : j < n = omega (arith, long) in
    words_at_at n b (base t + i * 8) j h ∙ run_at b t 8 i n r j h)

-- ---- as a part of the bytes, cut out from `from` on

part_is : (b : List ℕ) (from n : ℕ) → take (from + n - from) (drop from b) ≡ take n (drop from b)
part_is b from n =
    let m : from + n - from ≡ n = omega arith in
    ap (λ (x : ℕ). take x (drop from b)) m

pub part_bytes : (b : List ℕ) (t i n from : ℕ) → Run b t 1 i n → from ≡ base t + i * 1
    → let part = take (from + n - from) (drop from b) in
    (part ≡ take n (drop i (tab_of (view b) t))) × (length part ≡ n)
part_bytes b t i n from r e =
    let m : from ≡ base t + i = omega arith in
    let whole = part_is b from n ∙ ap (λ (x : ℕ). take n (drop x b)) m ∙ run_bytes b t i n r in
    (whole, ap length whole ∙ run_length b t 1 i n r)

pub part_words : (b : List ℕ) (t i n from : ℕ) → Run b t 8 i n → from ≡ base t + i * 8
    → let part = take (from + n * 8 - from) (drop from b) in
    (spelt part ≡ take n (drop i (tab_of (view b) t))) × (length part ≡ n * 8)
part_words b t i n from r e =
    let fits : from + n * 8 ≤ length b = omega (arith, run_room b t 8 i n r, r.whole) in
    let whole = part_is b from (n * 8) in (
      ap spelt whole ∙ spelt_part n b from fits ∙ ap (words_at n b) e ∙ run_words b t i n r,
      ap length whole ∙ length-take-le (n * 8) (drop from b) (simp length-drop (omega arith)),
    )
