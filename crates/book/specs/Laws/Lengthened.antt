-- The blocks of a book after a segment's length was changed: the segment has the blocks that its new length asks, every other keeps its own, and nothing else
-- but the length is touched.
use Prim.Native.Nat.{ℕ, zero, suc, ◌+◌, ◌*◌, ◌-◌, ◌/◌, ◌<◌, ◌≤◌}
use Rattle.std.proofs.Math.Decide.{ℕ_discrete}
use native.Mathlib.Omega.{arith}
use Rattle.std.specs.Prelude.{true, false, ◌⊎◌, ◌≡◌, length, get_or, replicate, leb, Some}
use Rattle.std.proofs.Math.Bool.{cond}
use Rattle.std.proofs.Common.{⊎_elim, inl, inr, ◌∙◌, length-set, get_or-set_same, get_or-set_other}
use Rattle.std.proofs.Math.Path.{refl, sym, ap, subst}
use mathlib.Core.List.{List}
use Rattle.std.proofs.lemmas.List.{length-replicate}
use Rattle.std.proofs.Math.Dec.{eqb}
use borrow.Author.Tests.{eqb-true, eq-eqb, leb-true, leb-false, le-leb}
use Rattle.quotas.specs.Any.{no_both, both_of, both_parts}
use Rattle.rules.specs.Kernel.{block_size}
use Rattle.rules.proofs.Laws.Bools.{bool_cases, not_i}
use Rattle.tables.specs.Layout.{View, block_count, len_t, owner_t, index_t, on_tab, put_t}
use Rattle.book.specs.Book.{len_of, owner_of, index_of, blocks_of}
use Rattle.book.specs.Enact.{area_size, free_block, block_added, blocks_added, blocks_dropped, lengthened}
use Rattle.book.specs.Resize.{is_past, block_cleared, free_cleared, frees_cleared}
use Rattle.book.specs.Laws.First.{found_cases, first_hit, collect_length, collect_at, collect_is}
use Rattle.book.specs.Laws.Room.{free_blocks, block_found, block_taken}
use Rattle.book.specs.Laws.Cleared.{if_true, if_false, cleared_length, in_block, off_block, free_low, added_at, added_nothing}
use Rattle.book.specs.Laws.Blocks.{Held}

-- ---- only the tables of blocks and the length are touched

-- the book with these owners and indices of blocks
abbrev pub reblocked : View → List ℕ → List ℕ → View
reblocked v o i = on_tab index_t (λ l. i) (on_tab owner_t (λ l. o) v)

-- and with this length at row r
abbrev pub relong : ℕ → ℕ → List ℕ → List ℕ → View → View
relong r n o i v = put_t len_t r n (reblocked v o i)

added_else : (r k : ℕ) (v : View) (o i : List ℕ) → reblocked (block_added r k v) o i ≡ reblocked v o i
added_else r k v o i = found_cases (free_block v)
    (λ x e. ap (λ (w : View). reblocked w o i) (added_at r k v v.owner x e).0)
    (λ e. ap (λ (w : View). reblocked w o i) (added_nothing r k v v.owner e).0)

blocks_only : (r n k : ℕ) (v : View) → blocks_added r k n v ≡ reblocked v (blocks_added r k n v).owner (blocks_added r k n v).index
unfolding blocks_added
blocks_only r zero k v = refl
blocks_only r (suc n) k v =
    blocks_only r n (suc k) (block_added r k v)
    ∙ added_else r k v (blocks_added r (suc k) n (block_added r k v)).owner (blocks_added r (suc k) n (block_added r k v)).index

pub lengthened_is : (r n : ℕ) (v : View) → lengthened r n v ≡ relong r n (lengthened r n v).owner (lengthened r n v).index v
unfolding lengthened blocks_dropped
lengthened_is r n v =
    ap (put_t len_t r n) (blocks_only r (blocks_of n - blocks_of (len_of v r)) (blocks_of (len_of v r)) (blocks_dropped r (blocks_of n) v))

-- ---- blocks that go

module _ (r k : ℕ) (v : View) (x : ℕ) (l : x < block_count) where
  pub drop_out : is_past v r k x ≡ true → owner_of (blocks_dropped r k v) x ≡ 0
  unfolding blocks_dropped
  drop_out t = collect_at block_count (λ b. cond (is_past v r k b) 0 (owner_of v b)) x l ∙ if_true (is_past v r k x) 0 (owner_of v x) t

  pub drop_keep : is_past v r k x ≡ false → owner_of (blocks_dropped r k v) x ≡ owner_of v x
  unfolding blocks_dropped
  drop_keep t = collect_at block_count (λ b. cond (is_past v r k b) 0 (owner_of v b)) x l ∙ if_false (is_past v r k x) 0 (owner_of v x) t

  pub drop_index : index_of (blocks_dropped r k v) x ≡ index_of v x
  unfolding blocks_dropped
  drop_index = refl

  -- which blocks are not past k
  pub not_past : (owner_of v x ≡ r + 1 → index_of v x < k) → is_past v r k x ≡ false
  not_past h = not_i (is_past v r k x) (λ t.
      let (a, b) = both_parts (eqb (owner_of v x) (r + 1)) (leb k (index_of v x)) t in
      let i = h (eqb-true (owner_of v x) (r + 1) a) in
      let j = leb-true k (index_of v x) b in omega arith)

  pub is_past_lem : owner_of v x ≡ r + 1 → k ≤ index_of v x → is_past v r k x ≡ true
  is_past_lem o h = both_of (eqb (owner_of v x) (r + 1)) (leb k (index_of v x)) (eq-eqb (owner_of v x) (r + 1) o) (le-leb k (index_of v x) h)

  -- what stays stayed
  pub drop_from : (s : ℕ) → owner_of (blocks_dropped r k v) x ≡ s + 1 → (owner_of v x ≡ s + 1) × (is_past v r k x ≡ false)
  drop_from s e = bool_cases {C = (owner_of v x ≡ s + 1) × (is_past v r k x ≡ false)} (is_past v r k x)
      (λ t. absurd (omega (arith, drop_out t)))
      (λ t. (sym (drop_keep t) ∙ e, t))

pub drop_long : (r k : ℕ) (v : View) → length (blocks_dropped r k v).owner ≡ block_count
unfolding blocks_dropped
drop_long r k v = collect_length block_count _

module _ (r m k : ℕ) (v : View) (h : Held v r m) where
  drop_mine : (x : ℕ) → x < block_count → owner_of (blocks_dropped r k v) x ≡ r + 1 → (owner_of v x ≡ r + 1) × (index_of v x < k)
  drop_mine x l e =
      let (o, t) = drop_from r k v x l r e in (
        o,
        bool_cases (leb k (index_of v x))
            (λ b. absurd (no_both (is_past v r k x) (is_past_lem r k v x l o (leb-true k (index_of v x) b)) t))
            (λ b. leb-false k (index_of v x) b),
      )

  -- The blocks from k on are gone.
  held_dropped : k ≤ m → Held (blocks_dropped r k v) r k
  held_dropped le =
      record {
        has = λ i g.
            let (x, l, o, e) = h.has i (omega arith) in
            (x, l, drop_keep r k v x l (not_past r k v x l (λ q. omega arith)) ∙ o, drop_index r k v x l ∙ e);
        once = λ x y l g o q e. h.once x y l g (drop_mine x l o).0 (drop_mine y g q).0 (sym (drop_index r k v x l) ∙ e ∙ drop_index r k v y g);
        within = λ x l o. omega (arith, (drop_mine x l o).1, drop_index r k v x l);
      }

  -- There are none from k on.
  pub dropped_same : m ≤ k → length v.owner ≡ block_count → blocks_dropped r k v ≡ v
  unfolding blocks_dropped
  dropped_same le long =
      ap (λ (o : List ℕ). on_tab owner_t (λ l. o) v)
      (collect_is block_count (λ b. cond (is_past v r k b) 0 (owner_of v b)) v.owner long
      (λ x l. sym (if_false (is_past v r k x) 0 (owner_of v x) (not_past r k v x l (λ o. let w = h.within x l o in omega arith)))))

-- ---- one block that comes

-- block y becomes block k of row r
abbrev taken : ℕ → ℕ → ℕ → View → View
taken r k y w = put_t index_t y k (put_t owner_t y (r + 1) w)

-- block x is as it was, with its bytes
pub record Kept (w u : View) (a b : List ℕ) (x : ℕ) : Type 0 where
  pub owner : owner_of u x ≡ owner_of w x
  pub index : index_of u x ≡ index_of w x
  pub bytes : (j : ℕ) → j / block_size ≡ x → get_or b j 0 ≡ get_or a j 0

-- block x was free and is one of row r, from k to before m, all zero
pub record New (w u : View) (b : List ℕ) (r k m x : ℕ) : Type 0 where
  pub free : owner_of w x ≡ 0
  pub mine : owner_of u x ≡ r + 1
  pub low : k ≤ index_of u x
  pub high : index_of u x < m
  pub zeros : (j : ℕ) → j < area_size → j / block_size ≡ x → get_or b j 0 ≡ 0

module _ (r k : ℕ) (w : View) (lo : length w.owner ≡ block_count) (li : length w.index ≡ block_count) where
  taken_owner : (y : ℕ) → y < block_count → owner_of (taken r k y w) y ≡ r + 1
  taken_owner y l = get_or-set_same w.owner y (r + 1) 0 (omega arith)

  taken_index : (y : ℕ) → y < block_count → index_of (taken r k y w) y ≡ k
  taken_index y l = get_or-set_same w.index y k 0 (omega arith)

  other_owner : (y x : ℕ) → (x ≡ y → ⊥) → owner_of (taken r k y w) x ≡ owner_of w x
  other_owner y x ne = get_or-set_other w.owner y x (r + 1) 0 ne

  other_index : (y x : ℕ) → (x ≡ y → ⊥) → index_of (taken r k y w) x ≡ index_of w x
  other_index y x ne = get_or-set_other w.index y x k 0 ne

  -- the free block
  free_owner : (y : ℕ) → free_block w ≡ Some y → owner_of w y ≡ 0
  unfolding free_block
  free_owner y e = eqb-true (owner_of w y) 0 (first_hit block_count (λ b. eqb (owner_of w b) 0) y e)

  -- a block is kept or new
  one_taken : (a : List ℕ) → length a ≡ area_size → (y : ℕ) → y < block_count → owner_of w y ≡ 0 → (x : ℕ) → x < block_count
      → (Kept w (taken r k y w) a (block_cleared y a) x) ⊎ (New w (taken r k y w) (block_cleared y a) r k (suc k) x)
  one_taken a la y l z x g = elim (ℕ_discrete x y) [
    | yes e ↦ inr (subst (λ (x : ℕ). New w (taken r k y w) (block_cleared y a) r k (suc k) x) (sym e)
        (record {
          free = z;
          mine = taken_owner y l;
          low = omega (arith, taken_index y l);
          high = omega (arith, taken_index y l);
          zeros = λ j h q. in_block y a j (omega arith) q;
        }))
    | no ne ↦ inl (record { owner = other_owner y x ne; index = other_index y x ne; bytes = λ j q. off_block y a j (λ p. ne (sym q ∙ p)) })
  ]

  pub one_each : (a : List ℕ) → length a ≡ area_size → (x : ℕ) → x < block_count
      → (Kept w (block_added r k w) a (free_cleared w a) x) ⊎ (New w (block_added r k w) (free_cleared w a) r k (suc k) x)
  one_each a la x g =
      found_cases {C = (Kept w (block_added r k w) a (free_cleared w a) x) ⊎ (New w (block_added r k w) (free_cleared w a) r k (suc k) x)} (free_block w)
      (λ y e. let (p, q) = added_at r k w a y e in
      subst (λ (u : View). (Kept w u a (free_cleared w a) x) ⊎ (New w u (free_cleared w a) r k (suc k) x)) (sym p)
      (subst (λ (b : List ℕ). (Kept w (taken r k y w) a b x) ⊎ (New w (taken r k y w) b r k (suc k) x)) (sym q)
      (one_taken a la y (free_low w y e) (free_owner y e) x g)))
      (λ e. let (p, q) = added_nothing r k w a e in
      inl (record { owner = ap (λ (u : View). owner_of u x) p; index = ap (λ (u : View). index_of u x) p; bytes = λ j h. ap (λ (b : List ℕ). get_or b j 0) q }))

  -- row r has one block more
  held_taken : Held w r k → (y : ℕ) → y < block_count → owner_of w y ≡ 0 → Held (taken r k y w) r (suc k)
  held_taken h y l z =
      record {
        has = λ i g. elim (ℕ_discrete i k) [
          | yes e ↦ (y, l, taken_owner y l, taken_index y l ∙ sym e)
          | no ne ↦ let (x, p, o, q) = h.has i (omega arith) in
              let d : x ≡ y → ⊥ = λ e. let f = ap (owner_of w) e in omega arith in
              (x, p, other_owner y x d ∙ o, other_index y x d ∙ q)
        ];
        once = λ x z l g o q e. elim (ℕ_discrete x y) [
          | yes a ↦ elim (ℕ_discrete z y) [
            | yes b ↦ a ∙ sym b
            | no b ↦ absurd (omega (arith, index_here x a, other_index y z b, h.within z g (sym (other_owner y z b) ∙ q)))
          ]
          | no a ↦ elim (ℕ_discrete z y) [
            | yes b ↦ absurd (omega (arith, index_here z b, other_index y x a, h.within x l (sym (other_owner y x a) ∙ o)))
            | no b ↦ h.once x z l g (sym (other_owner y x a) ∙ o) (sym (other_owner y z b) ∙ q) (sym (other_index y x a) ∙ e ∙ other_index y z b)
          ]
        ];
        within = λ x g o. elim (ℕ_discrete x y) [
          | yes a ↦ omega (arith, index_here x a)
          | no a ↦ omega (arith, other_index y x a, h.within x g (sym (other_owner y x a) ∙ o))
        ];
      }
    where
      index_here : (x : ℕ) → x ≡ y → index_of (taken r k y w) x ≡ k
      index_here x a = ap (index_of (taken r k y w)) a ∙ taken_index y l

  -- one free block less
  free_taken : (y : ℕ) → y < block_count → owner_of w y ≡ 0 → free_blocks (taken r k y w) + 1 ≡ free_blocks w
  free_taken y l z = block_taken w (taken r k y w) y l z (λ e. omega (arith, taken_owner y l)) (λ c g ne. other_owner y c ne)

-- ---- blocks that come

one_owner_long : (r k : ℕ) (w : View) → length (block_added r k w).owner ≡ length w.owner
one_owner_long r k w = found_cases (free_block w)
    (λ y e. ap (λ (u : View). length u.owner) (added_at r k w w.owner y e).0 ∙ length-set w.owner y (r + 1))
    (λ e. ap (λ (u : View). length u.owner) (added_nothing r k w w.owner e).0)

one_index_long : (r k : ℕ) (w : View) → length (block_added r k w).index ≡ length w.index
one_index_long r k w = found_cases (free_block w)
    (λ y e. ap (λ (u : View). length u.index) (added_at r k w w.owner y e).0 ∙ length-set w.index y k)
    (λ e. ap (λ (u : View). length u.index) (added_nothing r k w w.owner e).0)

one_area_long : (w : View) (a : List ℕ) → length (free_cleared w a) ≡ length a
one_area_long w a = found_cases (free_block w)
    (λ y e. ap (λ (b : List ℕ). length b) (added_at 0 0 w a y e).1 ∙ cleared_length (block_size * y) (block_size * y + block_size) a)
    (λ e. ap (λ (b : List ℕ). length b) (added_nothing 0 0 w a e).1)

pub added_owner_long : (r n k : ℕ) (w : View) → length (blocks_added r k n w).owner ≡ length w.owner
unfolding blocks_added
added_owner_long r zero k w = refl
added_owner_long r (suc n) k w = added_owner_long r n (suc k) (block_added r k w) ∙ one_owner_long r k w

pub added_index_long : (r n k : ℕ) (w : View) → length (blocks_added r k n w).index ≡ length w.index
unfolding blocks_added
added_index_long r zero k w = refl
added_index_long r (suc n) k w = added_index_long r n (suc k) (block_added r k w) ∙ one_index_long r k w

pub added_area_long : (r n k : ℕ) (w : View) (a : List ℕ) → length (frees_cleared r k n w a) ≡ length a
unfolding frees_cleared
added_area_long r zero k w a = refl
added_area_long r (suc n) k w a = added_area_long r n (suc k) (block_added r k w) (free_cleared w a) ∙ one_area_long w a

-- Each block is as it was, or was free and is one of the new blocks.
pub added_each : (r n k : ℕ) (w : View) (a : List ℕ) → length w.owner ≡ block_count → length w.index ≡ block_count → length a ≡ area_size → (x : ℕ) → x < block_count
    → (Kept w (blocks_added r k n w) a (frees_cleared r k n w a) x) ⊎ (New w (blocks_added r k n w) (frees_cleared r k n w a) r k (k + n) x)
unfolding blocks_added frees_cleared
added_each r zero k w a lo li la x l = inl (record { owner = refl; index = refl; bytes = λ j q. refl })
added_each r (suc n) k w a lo li la x l =
    ⊎_elim {C = (Kept w (blocks_added r (suc k) n (block_added r k w)) a (frees_cleared r (suc k) n (block_added r k w) (free_cleared w a)) x)
    ⊎ (New w (blocks_added r (suc k) n (block_added r k w)) (frees_cleared r (suc k) n (block_added r k w) (free_cleared w a)) r k (k + suc n) x)}
    (λ p. ⊎_elim
    (λ q. inl (record { owner = p.owner ∙ q.owner; index = p.index ∙ q.index; bytes = λ j h. p.bytes j h ∙ q.bytes j h }))
    (λ q. inr (record {
      free = q.free;
      mine = p.owner ∙ q.mine;
      low = omega (arith, p.index, q.low);
      high = omega (arith, p.index, q.high);
      zeros = λ j g h. p.bytes j h ∙ q.zeros j g h;
    }))
    (one_each r k w lo li a la x l))
    (λ p. ⊎_elim
    (λ q. inr (record { free = sym q.owner ∙ p.free; mine = p.mine; low = omega (arith, p.low); high = omega (arith, p.high); zeros = p.zeros }))
    (λ q. absurd (omega (arith, p.free, q.mine)))
    (one_each r k w lo li a la x l))
    (added_each r n (suc k) (block_added r k w) (free_cleared w a) (one_owner_long r k w ∙ lo) (one_index_long r k w ∙ li) (one_area_long w a ∙ la) x l)

-- Where enough blocks are free, row r has n blocks more.
held_added : (r n k : ℕ) (w : View) → length w.owner ≡ block_count → length w.index ≡ block_count → Held w r k → n ≤ free_blocks w → Held (blocks_added r k n w) r (k + n)
unfolding blocks_added
held_added r zero k w lo li h g = subst (λ (m : ℕ). Held w r m) (let e : k ≡ k + 0 = omega arith in e) h
held_added r (suc n) k w lo li h g =
    let (y, e) = block_found w (omega arith) in
    let f : free_block w ≡ Some y = (unfold free_block in e) in
    let l = free_low w y f in
    let z = free_owner r k w lo li y f in
    let p = (added_at r k w w.owner y f).0 in
    subst (λ (m : ℕ). Held (blocks_added r (suc k) n (block_added r k w)) r m) (let q : suc k + n ≡ k + suc n = omega arith in q)
    (held_added r n (suc k) (block_added r k w) (one_owner_long r k w ∙ lo) (one_index_long r k w ∙ li)
    (subst (λ (u : View). Held u r (suc k)) (sym p) (held_taken r k w lo li h y l z))
    (subst (λ (u : View). n ≤ free_blocks u) (sym p) (omega (arith, free_taken r k w lo li y l z))))

-- ---- both

module _ (r n : ℕ) (v : View) (lo : length v.owner ≡ block_count) (li : length v.index ≡ block_count) where
  pub lengthened_owner_long : length (lengthened r n v).owner ≡ block_count
  unfolding lengthened
  lengthened_owner_long =
      added_owner_long r (blocks_of n - blocks_of (len_of v r)) (blocks_of (len_of v r)) (blocks_dropped r (blocks_of n) v) ∙ drop_long r (blocks_of n) v

  pub lengthened_index_long : length (lengthened r n v).index ≡ block_count
  unfolding lengthened blocks_dropped
  lengthened_index_long =
      added_index_long r (blocks_of n - blocks_of (len_of v r)) (blocks_of (len_of v r)) (blocks_dropped r (blocks_of n) v) ∙ li

  -- The segment has the blocks that its new length asks.
  pub lengthened_held : Held v r (blocks_of (len_of v r)) → blocks_of n ≤ blocks_of (len_of v r) + free_blocks v → Held (lengthened r n v) r (blocks_of n)
  unfolding lengthened
  lengthened_held h room = lift (bool_cases (leb (blocks_of n) (blocks_of (len_of v r)))
      (λ t. let le = leb-true (blocks_of n) (blocks_of (len_of v r)) t in
      let z : blocks_of n - blocks_of (len_of v r) ≡ 0 = omega arith in
      subst (λ (m : ℕ). Held (blocks_added r (blocks_of (len_of v r)) m (blocks_dropped r (blocks_of n) v)) r (blocks_of n)) (sym z)
      (unfold blocks_added in (held_dropped r (blocks_of (len_of v r)) (blocks_of n) v h le)))
      (λ t. let le = leb-false (blocks_of n) (blocks_of (len_of v r)) t in
      let e : blocks_of (len_of v r) + (blocks_of n - blocks_of (len_of v r)) ≡ blocks_of n = omega arith in
      subst (λ (w : View). Held (blocks_added r (blocks_of (len_of v r)) (blocks_of n - blocks_of (len_of v r)) w) r (blocks_of n))
      (sym (dropped_same r (blocks_of (len_of v r)) (blocks_of n) v h (omega arith) lo))
      (subst (Held (blocks_added r (blocks_of (len_of v r)) (blocks_of n - blocks_of (len_of v r)) v) r) e
      (held_added r (blocks_of n - blocks_of (len_of v r)) (blocks_of (len_of v r)) v lo li h (omega arith)))))
    where
      lift : {u : View} → Held u r (blocks_of n) → Held (put_t len_t r n u) r (blocks_of n)
      lift h = record { has = h.has; once = h.once; within = h.within }

-- each block stays as it is after the drop, or was free then and is new
each : (r n : ℕ) (v : View) → length v.index ≡ block_count → (x : ℕ) → x < block_count
    → (Kept (blocks_dropped r (blocks_of n) v) (blocks_added r (blocks_of (len_of v r)) (blocks_of n - blocks_of (len_of v r)) (blocks_dropped r (blocks_of n) v)) (replicate area_size 0)
    (frees_cleared r (blocks_of (len_of v r)) (blocks_of n - blocks_of (len_of v r)) (blocks_dropped r (blocks_of n) v) (replicate area_size 0)) x)
    ⊎ (New (blocks_dropped r (blocks_of n) v) (blocks_added r (blocks_of (len_of v r)) (blocks_of n - blocks_of (len_of v r)) (blocks_dropped r (blocks_of n) v))
    (frees_cleared r (blocks_of (len_of v r)) (blocks_of n - blocks_of (len_of v r)) (blocks_dropped r (blocks_of n) v) (replicate area_size 0)) r (blocks_of (len_of v r))
    (blocks_of (len_of v r) + (blocks_of n - blocks_of (len_of v r))) x)
each r n v li x l =
    added_each r (blocks_of n - blocks_of (len_of v r)) (blocks_of (len_of v r)) (blocks_dropped r (blocks_of n) v) (replicate area_size 0)
    (drop_long r (blocks_of n) v) (unfold blocks_dropped in li) (length-replicate {A = ℕ} area_size 0) x l

-- every row but r keeps its blocks
pub record Others (v u : View) (r : ℕ) : Type 0 where
  pub to : (s x : ℕ) → (s ≡ r → ⊥) → x < block_count → owner_of v x ≡ s + 1 → (owner_of u x ≡ s + 1) × (index_of u x ≡ index_of v x)
  pub back : (s x : ℕ) → (s ≡ r → ⊥) → x < block_count → owner_of u x ≡ s + 1 → owner_of v x ≡ s + 1

pub lengthened_others : (r n : ℕ) (v : View) → length v.index ≡ block_count → Others v (lengthened r n v) r
unfolding lengthened
lengthened_others r n v li =
    record {
      to = λ s x ne l o.
          let t = not_past r (blocks_of n) v x l (λ q. absurd (ne (omega arith))) in
          let d = drop_keep r (blocks_of n) v x l t ∙ o in
          ⊎_elim {C = (owner_of (lengthened r n v) x ≡ s + 1) × (index_of (lengthened r n v) x ≡ index_of v x)}
          (λ k. (k.owner ∙ d, k.index ∙ drop_index r (blocks_of n) v x l))
          (λ k. absurd (omega (arith, k.free)))
          (each r n v li x l);
      back = λ s x ne l o.
          ⊎_elim
          (λ k. (drop_from r (blocks_of n) v x l s (sym k.owner ∙ o)).0)
          (λ k. absurd (ne (omega (arith, k.mine))))
          (each r n v li x l);
    }

-- A block that row r had and has is the same of its blocks.
pub lengthened_mine : (r n : ℕ) (v : View) → length v.index ≡ block_count → Held v r (blocks_of (len_of v r))
    → (x : ℕ) → x < block_count → owner_of v x ≡ r + 1 → owner_of (lengthened r n v) x ≡ r + 1 → index_of (lengthened r n v) x ≡ index_of v x
unfolding lengthened
lengthened_mine r n v li h x l o q =
    ⊎_elim
    (λ k. k.index ∙ drop_index r (blocks_of n) v x l)
    (λ k. absurd (bool_cases (is_past v r (blocks_of n) x)
    (λ t.
    let past = leb-true (blocks_of n) (index_of v x) (both_parts (eqb (owner_of v x) (r + 1)) (leb (blocks_of n) (index_of v x)) t).1 in
    omega (arith, h.within x l o, k.low, k.high))
    (λ t. omega (arith, k.free, drop_keep r (blocks_of n) v x l t))))
    (each r n v li x l)
