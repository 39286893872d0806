-- Runs of the data area that are written or set to zero, and blocks that are freed, as the loops do it.
use Rattle.std.specs.Prelude.{ℕ, suc, ◌+◌, ◌*◌, ◌-◌, ◌/◌, ◌%◌, ◌<◌, ◌≤◌, Bool, true, false, ◌≡◌, refl, length, get_or, set, replicate, eqb, leb, ltb, Some, None}
use Rattle.std.proofs.Math.Decide.{ℕ_discrete}
use Rattle.std.proofs.lemmas.List.{places}
use Rattle.std.proofs.lemmas.List.Edits.{sets, sets-eq}
use Rattle.std.proofs.lemmas.Slice.{overwrites}
use borrow.Rule.Slice.PartMut.{put_mid}
use Rattle.std.proofs.Common.{rules, add-one, ◌∙◌, ap₂, subst, length-set, ext_get_or, get_or-set_same, get_or-set_other}
use native.Mathlib.Omega.{arith}
use Rattle.std.proofs.Math.Bool.{cond}
use Rattle.std.proofs.Math.Path.{sym, ap}
use mathlib.Core.List.{List}
use Rattle.std.proofs.Math.ListN.{get_or-eq_default}
use borrow.Author.Tests.{le-leb, lt-ltb, le-ltb, ltb-true, ltb-false, leb-true, eq-eqb, ne_eqb}
use Rattle.quotas.specs.Any.{no_both, both, both_of, both_parts}
use Rattle.rules.specs.Kernel.{block_size}
use Rattle.rules.proofs.Laws.Bools.{bool_cases, not_i, same_by}
use Rattle.tables.specs.Layout.{View, block_count, len_t, owner_t, index_t, on_tab, put_t}
use Rattle.book.specs.Book.{len_of, owner_of, index_of, blocks_of, is_block, first, collect}
use Rattle.book.specs.Enact.{area_size, free_block, block_added, blocks_added, blocks_dropped, lengthened}
use Rattle.book.specs.Resize.{cleared, block_cleared, is_past, block_dropped, block_wiped, dropped_to, wiped_to, free_cleared, frees_cleared, edge_end, edge_cleared, between_cleared, resized_area}
use Rattle.book.specs.Laws.First.{first_low, on_at, on_nothing, collect_length, collect_at, collect_is, collect_cong}

-- by a test
pub if_true : {A : Type 0} (t : Bool) (x y : A) → t ≡ true → cond t x y ≡ x
if_true t x y e = rw e

pub if_false : {A : Type 0} (t : Bool) (x y : A) → t ≡ false → cond t x y ≡ y
if_false t x y e = rw e

-- a number and a test: the test alone where the number is the one, else false
pub one_off : (o n : ℕ) (t : Bool) → (o ≡ n → ⊥) → false ≡ both (eqb o n) t
unfolding both
one_off o n t ne = rw (ne_eqb o n ne)

pub one_on : (o n : ℕ) (t : Bool) → o ≡ n → t ≡ both (eqb o n) t
unfolding both
one_on o n t e = rw (eq-eqb o n e)

both_not : (a b : Bool) → (a ≡ true → b ≡ true → ⊥) → both a b ≡ false
both_not a b h = not_i (both a b) (λ t. h (both_parts a b t).0 (both_parts a b t).1)

both_no : (a b : Bool) → b ≡ false → both a b ≡ false
both_no a b e = both_not a b (λ p q. no_both b q e)

ltb_more : (x i : ℕ) → (x ≡ i → ⊥) → ltb x i ≡ ltb x (i + 1)
ltb_more x i ne =
    same_by (ltb x i) (ltb x (i + 1)) (λ t. lt-ltb x (i + 1) (let h = ltb-true x i t in omega arith))
    (λ t. lt-ltb x i (let h = ltb-true x (i + 1) t in omega arith))

-- ---- a run

module _ (from to : ℕ) (area : List ℕ) where
  pub cleared_length : length (cleared from to area) ≡ length area
  unfolding cleared
  cleared_length = collect_length (length area) _

  -- A byte of the run is 0,
  pub cleared_in : (j : ℕ) → j < length area → from ≤ j → j < to → get_or (cleared from to area) j 0 ≡ 0
  unfolding cleared
  cleared_in j l h k =
      collect_at (length area) (λ i. cond (both (leb from i) (ltb i to)) 0 (get_or area i 0)) j l
      ∙ if_true (both (leb from j) (ltb j to)) 0 (get_or area j 0) (both_of (leb from j) (ltb j to) (le-leb from j h) (lt-ltb j to k))

  -- any other stays.
  pub cleared_out : (j : ℕ) → (from ≤ j → j < to → ⊥) → get_or (cleared from to area) j 0 ≡ get_or area j 0
  unfolding cleared
  cleared_out j n = bool_cases (ltb j (length area))
      (λ t. collect_at (length area) (λ i. cond (both (leb from i) (ltb i to)) 0 (get_or area i 0)) j (ltb-true j (length area) t)
      ∙ if_false (both (leb from j) (ltb j to)) 0 (get_or area j 0) (both_not (leb from j) (ltb j to) (λ a b. n (leb-true from j a) (ltb-true j to b))))
      (λ t. let h = ltb-false j (length area) t in
      get_or-eq_default (cleared from to area) 0 (omega (arith, cleared_length)) ∙ sym (get_or-eq_default area 0 h))

  -- What has zeros in the run and is otherwise the same is that.
  pub cleared_is : (b : List ℕ) → length b ≡ length area → ((j : ℕ) → j < length area → from ≤ j → j < to → get_or b j 0 ≡ 0)
      → ((j : ℕ) → j < length area → (from ≤ j → j < to → ⊥) → get_or b j 0 ≡ get_or area j 0) → b ≡ cleared from to area
  cleared_is b e f g =
      ext_get_or 0 b (cleared from to area) (e ∙ sym cleared_length)
      (λ j k. let l : j < length area = omega arith in
      bool_cases (both (leb from j) (ltb j to))
      (λ t. let (a, c) = both_parts (leb from j) (ltb j to) t in
      let x = leb-true from j a in let y = ltb-true j to c in f j l x y ∙ sym (cleared_in j l x y))
      (λ t. let n : from ≤ j → j < to → ⊥ = λ a c. off j t a c in g j l n ∙ sym (cleared_out j n)))
    where
      off : (j : ℕ) → both (leb from j) (ltb j to) ≡ false → from ≤ j → j < to → ⊥
      off j t a c = no_both (both (leb from j) (ltb j to)) (both_of (leb from j) (ltb j to) (le-leb from j a) (lt-ltb j to c)) t

-- A run that bytes are written over is set.
pub written_run : (area bytes part : List ℕ) (place n : ℕ) → place + length bytes ≤ length area → part ≡ bytes → n ≡ length bytes → put_mid place n area part ≡ sets area place bytes
written_run area bytes part place n h e k = rw (sets-eq bytes area place h) (search (rules, overwrites))

-- A run that zeros are written over is cleared.
pub cleared_run : (from to : ℕ) (area zeros : List ℕ) → from ≤ to → to ≤ length area → zeros ≡ replicate (to - from) 0 → put_mid from (to - from) area zeros ≡ cleared from to area
cleared_run from to area zeros h k e =
    cleared_is from to area (put_mid from (to - from) area zeros) (search (rules, places))
    (λ j l a b. search (rules, places))
    (λ j l n. search (rules, places))

-- ---- a block

-- the bytes of block x
pub in_block : (x : ℕ) (area : List ℕ) (j : ℕ) → j < length area → j / block_size ≡ x → get_or (block_cleared x area) j 0 ≡ 0
in_block x area j l e = cleared_in (block_size * x) (block_size * x + block_size) area j l (omega arith) (omega arith)

pub off_block : (x : ℕ) (area : List ℕ) (j : ℕ) → (j / block_size ≡ x → ⊥) → get_or (block_cleared x area) j 0 ≡ get_or area j 0
off_block x area j ne = cleared_out (block_size * x) (block_size * x + block_size) area j (λ a b. ne (omega arith))

-- ---- blocks that go

module _ (r k : ℕ) (v : View) (long : length v.owner ≡ block_count) where
  owners : ℕ → List ℕ
  owners i = collect block_count (λ x. cond (both (ltb x i) (is_past v r k x)) 0 (owner_of v x))

  -- nothing is done yet
  pub dropped_none : v ≡ dropped_to 0 r k v
  unfolding dropped_to
  dropped_none =
      ap (λ (l : List ℕ). on_tab owner_t (λ x. l) v)
      (sym (collect_is block_count (λ x. cond (both (ltb x 0) (is_past v r k x)) 0 (owner_of v x)) v.owner long
      (λ x l. sym (if_false (both (ltb x 0) (is_past v r k x)) 0 (owner_of v x) (both_not (ltb x 0) (is_past v r k x) (λ a b. let z = ltb-true x 0 a in omega arith))))))

  -- all is done
  pub dropped_all : dropped_to block_count r k v ≡ blocks_dropped r k v
  unfolding dropped_to blocks_dropped
  dropped_all =
      ap (λ (l : List ℕ). on_tab owner_t (λ x. l) v)
      (collect_cong block_count (λ x. cond (both (ltb x block_count) (is_past v r k x)) 0 (owner_of v x)) (λ x. cond (is_past v r k x) 0 (owner_of v x))
      (λ x l. ap (λ (t : Bool). cond (both t (is_past v r k x)) 0 (owner_of v x)) (lt-ltb x block_count l) ∙ (unfold both in refl)))

  -- at place i nothing is done yet
  here : (i : ℕ) → i < block_count → is_past (dropped_to i r k v) r k i ≡ is_past v r k i
  unfolding dropped_to
  here i l =
      ap (λ (o : ℕ). both (eqb o (r + 1)) (leb k (index_of v i)))
      (collect_at block_count (λ x. cond (both (ltb x i) (is_past v r k x)) 0 (owner_of v x)) i l
      ∙ if_false (both (ltb i i) (is_past v r k i)) 0 (owner_of v i) (both_not (ltb i i) (is_past v r k i) (λ a b. let z = ltb-true i i a in omega arith)))

  owner_at : (i x : ℕ) → x < block_count → get_or (owners i) x 0 ≡ cond (both (ltb x i) (is_past v r k x)) 0 (owner_of v x)
  unfolding owners
  owner_at i x l = collect_at block_count (λ x. cond (both (ltb x i) (is_past v r k x)) 0 (owner_of v x)) x l

  owners_long : (i : ℕ) → length (owners i) ≡ block_count
  unfolding owners
  owners_long i = collect_length block_count _

  owner_more : (i x : ℕ) → x < block_count → (x ≡ i → ⊥) → get_or (owners i) x 0 ≡ get_or (owners (i + 1)) x 0
  owner_more i x l ne = owner_at i x l ∙ ap (λ (t : Bool). cond (both t (is_past v r k x)) 0 (owner_of v x)) (ltb_more x i ne) ∙ sym (owner_at (i + 1) x l)

  owners_set : (i : ℕ) → i < block_count → is_past v r k i ≡ true → set (owners i) i 0 ≡ owners (i + 1)
  owners_set i h t =
      ext_get_or 0 (set (owners i) i 0) (owners (i + 1)) (length-set (owners i) i 0 ∙ owners_long i ∙ sym (owners_long (i + 1)))
      (λ x q. let l : x < block_count = omega (arith, length-set (owners i) i 0, owners_long i) in elim (ℕ_discrete x i) [
        | yes e ↦ subst (λ (y : ℕ). get_or (set (owners i) i 0) y 0 ≡ get_or (owners (i + 1)) y 0) (sym e)
            (get_or-set_same (owners i) i 0 0 (omega (arith, owners_long i))
            ∙ sym (owner_at (i + 1) i h ∙ if_true (both (ltb i (i + 1)) (is_past v r k i)) 0 (owner_of v i) (both_of (ltb i (i + 1)) (is_past v r k i) (lt-ltb i (i + 1) (omega arith)) t)))
        | no ne ↦ get_or-set_other (owners i) i x 0 0 ne ∙ owner_more i x l ne
      ])

  owners_keep : (i : ℕ) → i < block_count → is_past v r k i ≡ false → owners i ≡ owners (i + 1)
  owners_keep i h t =
      ext_get_or 0 (owners i) (owners (i + 1)) (owners_long i ∙ sym (owners_long (i + 1)))
      (λ x q. let l : x < block_count = omega (arith, owners_long i) in elim (ℕ_discrete x i) [
        | yes e ↦ subst (λ (y : ℕ). get_or (owners i) y 0 ≡ get_or (owners (i + 1)) y 0) (sym e)
            (owner_at i i h ∙ stays i (ltb i i) t ∙ sym (owner_at (i + 1) i h ∙ stays i (ltb i (i + 1)) t))
        | no ne ↦ owner_more i x l ne
      ])
    where
      stays : (i : ℕ) (b : Bool) → is_past v r k i ≡ false → cond (both b (is_past v r k i)) 0 (owner_of v i) ≡ owner_of v i
      stays i b t = if_false (both b (is_past v r k i)) 0 (owner_of v i) (both_no b (is_past v r k i) t)

  -- one block more
  pub dropped_more : (i : ℕ) → i < block_count → block_dropped r k i (dropped_to i r k v) ≡ dropped_to (i + 1) r k v
  unfolding dropped_to owners
  dropped_more i l = bool_cases (is_past v r k i)
      (λ t. if_true (is_past (dropped_to i r k v) r k i) (put_t owner_t i 0 (dropped_to i r k v)) (dropped_to i r k v) (here i l ∙ t)
      ∙ ap (λ (o : List ℕ). on_tab owner_t (λ x. o) v) (owners_set i l t))
      (λ t. if_false (is_past (dropped_to i r k v) r k i) (put_t owner_t i 0 (dropped_to i r k v)) (dropped_to i r k v) (here i l ∙ t)
      ∙ ap (λ (o : List ℕ). on_tab owner_t (λ x. o) v) (owners_keep i l t))

-- ---- and their bytes

module _ (r k : ℕ) (v : View) (area : List ℕ) where
  pub wiped_length : (i : ℕ) → length (wiped_to i r k v area) ≡ area_size
  unfolding wiped_to
  wiped_length i = collect_length area_size _

  pub wiped_in : (i j : ℕ) → j < area_size → j / block_size < i → is_past v r k (j / block_size) ≡ true → get_or (wiped_to i r k v area) j 0 ≡ 0
  unfolding wiped_to
  wiped_in i j l h t =
      collect_at area_size (λ j. cond (both (ltb (j / block_size) i) (is_past v r k (j / block_size))) 0 (get_or area j 0)) j l
      ∙ if_true (both (ltb (j / block_size) i) (is_past v r k (j / block_size))) 0 (get_or area j 0)
      (both_of (ltb (j / block_size) i) (is_past v r k (j / block_size)) (lt-ltb (j / block_size) i h) t)

  pub wiped_out : (i j : ℕ) → j < area_size → (j / block_size < i → is_past v r k (j / block_size) ≡ true → ⊥) → get_or (wiped_to i r k v area) j 0 ≡ get_or area j 0
  unfolding wiped_to
  wiped_out i j l n =
      collect_at area_size (λ j. cond (both (ltb (j / block_size) i) (is_past v r k (j / block_size))) 0 (get_or area j 0)) j l
      ∙ if_false (both (ltb (j / block_size) i) (is_past v r k (j / block_size))) 0 (get_or area j 0)
      (both_not (ltb (j / block_size) i) (is_past v r k (j / block_size)) (λ a b. n (ltb-true (j / block_size) i a) b))

  wiped_is : (i : ℕ) (b : List ℕ) → length b ≡ area_size → ((j : ℕ) → j < area_size → j / block_size < i → is_past v r k (j / block_size) ≡ true → get_or b j 0 ≡ 0)
      → ((j : ℕ) → j < area_size → (j / block_size < i → is_past v r k (j / block_size) ≡ true → ⊥) → get_or b j 0 ≡ get_or area j 0) → b ≡ wiped_to i r k v area
  wiped_is i b e f g =
      ext_get_or 0 b (wiped_to i r k v area) (e ∙ sym (wiped_length i))
      (λ j q. let l : j < area_size = omega arith in
      bool_cases (both (ltb (j / block_size) i) (is_past v r k (j / block_size)))
      (λ t. let (a, c) = both_parts (ltb (j / block_size) i) (is_past v r k (j / block_size)) t in
      let h = ltb-true (j / block_size) i a in f j l h c ∙ sym (wiped_in i j l h c))
      (λ t. let n : j / block_size < i → is_past v r k (j / block_size) ≡ true → ⊥ = λ a c.
      no_both (both (ltb (j / block_size) i) (is_past v r k (j / block_size))) (both_of (ltb (j / block_size) i) (is_past v r k (j / block_size)) (lt-ltb (j / block_size) i a) c) t in
      g j l n ∙ sym (wiped_out i j l n)))

  pub wiped_none : length area ≡ area_size → area ≡ wiped_to 0 r k v area
  wiped_none e = wiped_is 0 area e (λ j l h t. absurd (omega arith)) (λ j l n. refl)

  pub wiped_more : (i : ℕ) → i < block_count → length v.owner ≡ block_count → block_wiped r k i (dropped_to i r k v) (wiped_to i r k v area) ≡ wiped_to (i + 1) r k v area
  wiped_more i l long = bool_cases (is_past v r k i)
      (λ t. if_true (is_past (dropped_to i r k v) r k i) (block_cleared i (wiped_to i r k v area)) (wiped_to i r k v area) (here r k v long i l ∙ t)
      ∙ wiped_is (i + 1) (block_cleared i (wiped_to i r k v area)) (cleared_length (block_size * i) (block_size * i + block_size) (wiped_to i r k v area) ∙ wiped_length i)
      (λ j m h p. elim (ℕ_discrete (j / block_size) i) [
        | yes e ↦ in_block i (wiped_to i r k v area) j (omega (arith, wiped_length i)) e
        | no ne ↦ off_block i (wiped_to i r k v area) j ne ∙ wiped_in i j m (omega arith) p
      ])
      (λ j m n. off_block i (wiped_to i r k v area) j (λ e. n (omega arith) (ap (is_past v r k) e ∙ t)) ∙ wiped_out i j m (λ a b. n (omega arith) b)))
      (λ t. if_false (is_past (dropped_to i r k v) r k i) (block_cleared i (wiped_to i r k v area)) (wiped_to i r k v area) (here r k v long i l ∙ t)
      ∙ wiped_is (i + 1) (wiped_to i r k v area) (wiped_length i)
      (λ j m h p. wiped_in i j m (neq j h p t) p)
      (λ j m n. wiped_out i j m (λ a b. n (omega arith) b)))
    where
      neq : (j : ℕ) → j / block_size < i + 1 → is_past v r k (j / block_size) ≡ true → is_past v r k i ≡ false → j / block_size < i
      neq j h p t = elim (ℕ_discrete (j / block_size) i) [ yes e ↦ absurd (no_both (is_past v r k i) (sym (ap (is_past v r k) e) ∙ p) t) | no ne ↦ omega arith ]

-- ---- blocks that come, as a loop counts: what is left from i on

module _ (r i to : ℕ) (v : View) where
  left : i < to → to - i ≡ suc (to - (i + 1))
  left l = omega arith

  pub adds_more : i < to → blocks_added r i (to - i) v ≡ blocks_added r (i + 1) (to - (i + 1)) (block_added r i v)
  unfolding blocks_added
  adds_more l =
      ap (λ (n : ℕ). blocks_added r i n v) (left l) ∙ ap (λ (k : ℕ). blocks_added r k (to - (i + 1)) (block_added r i v)) (sym (add-one i))

  pub adds_end : to ≤ i → blocks_added r i (to - i) v ≡ v
  unfolding blocks_added
  adds_end l = ap (λ (n : ℕ). blocks_added r i n v) (let z : to - i ≡ 0 = omega arith in z)

  pub frees_more : (area : List ℕ) → i < to → frees_cleared r i (to - i) v area ≡ frees_cleared r (i + 1) (to - (i + 1)) (block_added r i v) (free_cleared v area)
  unfolding frees_cleared
  frees_more area l =
      ap (λ (n : ℕ). frees_cleared r i n v area) (left l) ∙ ap (λ (k : ℕ). frees_cleared r k (to - (i + 1)) (block_added r i v) (free_cleared v area)) (sym (add-one i))

  pub frees_end : (area : List ℕ) → to ≤ i → frees_cleared r i (to - i) v area ≡ area
  unfolding frees_cleared
  frees_end area l = ap (λ (n : ℕ). frees_cleared r i n v area) (let z : to - i ≡ 0 = omega arith in z)

-- ---- what the functions of resize need

-- the free block that is found
pub free_low : (v : View) (x : ℕ) → free_block v ≡ Some x → x < block_count
unfolding free_block
free_low v x e = first_low block_count (λ b. eqb (owner_of v b) 0) x e

pub added_at : (r k : ℕ) (v : View) (area : List ℕ) (x : ℕ) → free_block v ≡ Some x
    → (block_added r k v ≡ put_t index_t x k (put_t owner_t x (r + 1) v)) × (free_cleared v area ≡ block_cleared x area)
unfolding block_added free_cleared
added_at r k v area x e =
    (on_at (free_block v) x (λ b. put_t index_t b k (put_t owner_t b (r + 1) v)) v e, on_at (free_block v) x (λ b. block_cleared b area) area e)

pub added_nothing : (r k : ℕ) (v : View) (area : List ℕ) → free_block v ≡ None → (block_added r k v ≡ v) × (free_cleared v area ≡ area)
unfolding block_added free_cleared
added_nothing r k v area e =
    (on_nothing (free_block v) (λ b. put_t index_t b k (put_t owner_t b (r + 1) v)) v e, on_nothing (free_block v) (λ b. block_cleared b area) area e)

-- the run of the block in which the shorter length ends
pub edge_span : (lo hi : ℕ) → lo ≤ hi → (lo % block_size ≤ edge_end lo hi) × (edge_end lo hi ≤ block_size)
edge_span lo hi h = bool_cases (ltb (hi - block_size * (lo / block_size)) block_size)
    (λ t. let e = if_true (ltb (hi - block_size * (lo / block_size)) block_size) (hi - block_size * (lo / block_size)) block_size t in
    let z = ltb-true (hi - block_size * (lo / block_size)) block_size t in (omega arith, omega arith))
    (λ t. let e = if_false (ltb (hi - block_size * (lo / block_size)) block_size) (hi - block_size * (lo / block_size)) block_size t in (omega arith, omega arith))

pub edge_at : (r lo hi : ℕ) (v : View) (area : List ℕ) (x : ℕ) → first block_count (is_block v r (lo / block_size)) ≡ Some x
    → edge_cleared r lo hi v area ≡ cleared (block_size * x + lo % block_size) (block_size * x + edge_end lo hi) area
unfolding edge_cleared
edge_at r lo hi v area x e =
    on_at (first block_count (is_block v r (lo / block_size))) x (λ b. cleared (block_size * b + lo % block_size) (block_size * b + edge_end lo hi) area) area e

pub edge_nothing : (r lo hi : ℕ) (v : View) (area : List ℕ) → first block_count (is_block v r (lo / block_size)) ≡ None → edge_cleared r lo hi v area ≡ area
unfolding edge_cleared
edge_nothing r lo hi v area e =
    on_nothing (first block_count (is_block v r (lo / block_size))) (λ b. cleared (block_size * b + lo % block_size) (block_size * b + edge_end lo hi) area) area e

pub between_less : (r m n : ℕ) (v : View) (area : List ℕ) → n < m → between_cleared r m n v area ≡ edge_cleared r n m v area
unfolding between_cleared
between_less r m n v area h = if_true (ltb n m) (edge_cleared r n m v area) (edge_cleared r m n v area) (lt-ltb n m h)

pub between_more : (r m n : ℕ) (v : View) (area : List ℕ) → m ≤ n → between_cleared r m n v area ≡ edge_cleared r m n v area
unfolding between_cleared
between_more r m n v area h = if_false (ltb n m) (edge_cleared r n m v area) (edge_cleared r m n v area) (le-ltb n m h)

-- the steps of a resize, one after the other
pub resize_made : (r n : ℕ) (v v₁ v₂ v₃ : View) (a a₁ a₂ a₃ : List ℕ) (m k l : ℕ) → m ≡ len_of v r → l ≡ blocks_of n → k ≡ blocks_of m
    → a₁ ≡ between_cleared r m n v a → v₁ ≡ blocks_dropped r l v → a₂ ≡ wiped_to block_count r l v a₁ → v₂ ≡ blocks_added r k (l - k) v₁
    → a₃ ≡ frees_cleared r k (l - k) v₁ a₂ → v₃ ≡ put_t len_t r n v₂ → (v₃ ≡ lengthened r n v) × (a₃ ≡ resized_area r n v a)
unfolding lengthened resized_area
resize_made r n v v₁ v₂ v₃ a a₁ a₂ a₃ m k l em el ek ea₁ ev₁ ea₂ ev₂ ea₃ ev₃ =
    let e : k ≡ blocks_of (len_of v r) = ek ∙ ap blocks_of em in
    let d : l - k ≡ blocks_of n - blocks_of (len_of v r) = ap₂ (λ (x y : ℕ). x - y) el e in
    let w : v₁ ≡ blocks_dropped r (blocks_of n) v = ev₁ ∙ ap (λ (x : ℕ). blocks_dropped r x v) el in
    let b : a₂ ≡ wiped_to block_count r (blocks_of n) v (between_cleared r (len_of v r) n v a) =
    ea₂ ∙ ap₂ (λ (x : ℕ) (y : List ℕ). wiped_to block_count r x v y) el (ea₁ ∙ ap (λ (x : ℕ). between_cleared r x n v a) em) in (
      ev₃ ∙ ap (put_t len_t r n) (ev₂ ∙ ap₂ (λ (x y : ℕ). blocks_added r x y v₁) e d ∙ ap (blocks_added r (blocks_of (len_of v r)) (blocks_of n - blocks_of (len_of v r))) w),
      ea₃ ∙ ap₂ (λ (x y : ℕ). frees_cleared r x y v₁ a₂) e d ∙ ap₂ (frees_cleared r (blocks_of (len_of v r)) (blocks_of n - blocks_of (len_of v r))) w b,
    )
