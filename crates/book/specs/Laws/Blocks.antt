-- The blocks of a segment: each of its blocks is one block of the data area, no two are one, and so its bytes lie at places of their own.
use Rattle.std.specs.Prelude.{ℕ, zero, suc, ◌+◌, ◌*◌, ◌-◌, ◌/◌, ◌%◌, ◌<◌, ◌≤◌, true, ◌≡◌, eqb, Some}
use Rattle.std.proofs.Math.Decide.{ℕ_discrete}
use native.Mathlib.Omega.{arith}
use Rattle.std.proofs.Math.Path.{refl, sym, ap, subst}
use Rattle.std.proofs.Common.{◌∙◌, eqb-true, eq-eqb}
use Rattle.quotas.specs.Any.{both_of, both_parts}
use Rattle.quotas.specs.Sum.{Σ, when, put, put_here, put_else, sum_change, sum_term, sum_only, found, when_true, when_false}
use Rattle.rules.specs.Kernel.{segment_code, block_size}
use Rattle.rules.proofs.Laws.Bools.{not_i}
use Rattle.tables.specs.Layout.{View, block_count}
use Rattle.book.specs.Book.{code_of, len_of, owner_of, index_of, blocks_of, is_block, first, block_at, place_of}
use Rattle.book.specs.Sound.{Live, Used, times_held}
use Rattle.book.specs.Placed.{Placed}
use Rattle.book.specs.Enact.{area_size}
use Rattle.book.specs.Laws.First.{first_only, on_at}

-- row r has m blocks: blocks 0 up to m - 1, each once, and no other
pub record Held (v : View) (r m : ℕ) : Type 0 where
  pub has : (k : ℕ) → k < m → (x : ℕ) × (x < block_count) × (owner_of v x ≡ r + 1) × (index_of v x ≡ k)
  pub once : (x y : ℕ) → x < block_count → y < block_count → owner_of v x ≡ r + 1 → owner_of v y ≡ r + 1 → index_of v x ≡ index_of v y → x ≡ y
  pub within : (x : ℕ) → x < block_count → owner_of v x ≡ r + 1 → index_of v x < m

-- two terms of a sum
two_terms : (n : ℕ) (f : ℕ → ℕ) (i j : ℕ) → i < n → j < n → (i ≡ j → ⊥) → f i + f j ≤ Σ n f
two_terms n f i j p q ne =
    omega (arith, sum_change n f (put f i 0) i p (λ k l h. put_else f i 0 k h), put_here f i 0 i refl, sum_term n (put f i 0) j q, put_else f i 0 j (λ e. ne (sym e)))

module _ (v : View) (r : ℕ) where
  -- block x is block k of row r, said as a test
  pub block_test : (k x : ℕ) → owner_of v x ≡ r + 1 → index_of v x ≡ k → is_block v r k x ≡ true
  block_test k x o i = both_of (eqb (owner_of v x) (r + 1)) (eqb (index_of v x) k) (eq-eqb (owner_of v x) (r + 1) o) (eq-eqb (index_of v x) k i)

  pub test_block : (k x : ℕ) → is_block v r k x ≡ true → (owner_of v x ≡ r + 1) × (index_of v x ≡ k)
  test_block k x t =
      let (a, b) = both_parts (eqb (owner_of v x) (r + 1)) (eqb (index_of v x) k) t in
      (eqb-true (owner_of v x) (r + 1) a, eqb-true (index_of v x) k b)

  counted : (k x : ℕ) → owner_of v x ≡ r + 1 → index_of v x ≡ k → when (is_block v r k x) 1 ≡ 1
  counted k x o i = when_true (is_block v r k x) 1 (block_test k x o i)

  -- A segment of a book in order has the blocks that its length asks.
  pub held : Placed v → Live v r → code_of v r ≡ segment_code → Held v r (blocks_of (len_of v r))
  unfolding times_held
  held p a e =
      record {
        has = λ k l.
            let (x, h, t) = found block_count (is_block v r k) (omega (arith, p.blocks_once r a e k l)) in
            let (o, i) = test_block k x t in (x, h, o, i);
        once = λ x y h g o q i. elim (ℕ_discrete x y) [
          | yes z ↦ z
          | no z ↦ absurd (omega (
            arith,
            two_terms block_count (λ b. when (is_block v r (index_of v y) b) 1) x y h g z,
            counted (index_of v y) x o i,
            counted (index_of v y) y q refl,
            p.blocks_once r a e (index_of v y) (inside y g q),
          ))
        ];
        within = inside;
      }
    where
      inside : (x : ℕ) → x < block_count → owner_of v x ≡ r + 1 → index_of v x < blocks_of (len_of v r)
      inside x h o =
          let own : owner_of v x - 1 ≡ r = omega arith in
          let used : Used v x = record { low = h; used = λ z. omega arith } in
          subst (λ (i : ℕ). index_of v x < blocks_of (len_of v i)) own (p.owned x used).within

  module _ (m : ℕ) (h : Held v r m) where
    -- Each is counted once.
    pub held_once : (k : ℕ) → k < m → times_held v r k ≡ 1
    unfolding times_held
    held_once k l =
        let (x, g, o, i) = h.has k l in
        sum_only block_count (λ b. when (is_block v r k b) 1) x g
        (λ y q ne. when_false (is_block v r k y) 1 (not_i (is_block v r k y) (λ t. let (o₂, i₂) = test_block k y t in ne (h.once y x q g o₂ o (i₂ ∙ sym i)))))
        ∙ counted k x o i

    -- A block of row r is found by its index,
    pub held_found : (x : ℕ) → x < block_count → owner_of v x ≡ r + 1 → first block_count (is_block v r (index_of v x)) ≡ Some x
    held_found x g o =
        first_only block_count (is_block v r (index_of v x)) x g (block_test (index_of v x) x o refl)
        (λ y q t. let (o₂, i₂) = test_block (index_of v x) y t in h.once y x q g o₂ o i₂)

    -- it is the block at its index,
    pub held_at : (x : ℕ) → x < block_count → owner_of v x ≡ r + 1 → block_at v r (index_of v x) ≡ x
    unfolding block_at
    held_at x g o = on_at (first block_count (is_block v r (index_of v x))) x (λ b. b) 0 (held_found x g o)

    -- and each block at an index is one of the data area's, is row r's, and has that index.
    at_found : (k : ℕ) → k < m → (x : ℕ) × (x < block_count) × (owner_of v x ≡ r + 1) × (index_of v x ≡ k) × (block_at v r k ≡ x)
    at_found k l =
        let (x, g, o, i) = h.has k l in
        (x, g, o, i, subst (λ (n : ℕ). block_at v r n ≡ x) i (held_at x g o))

    pub at_low : (k : ℕ) → k < m → block_at v r k < block_count
    at_low k l = let (x, g, o, i, e) = at_found k l in subst (λ (y : ℕ). y < block_count) (sym e) g

    pub at_owner : (k : ℕ) → k < m → owner_of v (block_at v r k) ≡ r + 1
    at_owner k l = let (x, g, o, i, e) = at_found k l in ap (owner_of v) e ∙ o

    pub at_index : (k : ℕ) → k < m → index_of v (block_at v r k) ≡ k
    at_index k l = let (x, g, o, i, e) = at_found k l in ap (index_of v) e ∙ i

    -- ---- places

    -- Byte i lies in the data area,
    pub place_low : (i : ℕ) → i / block_size < m → place_of v r i < area_size
    unfolding place_of
    place_low i l = omega (arith, at_low (i / block_size) l)

    -- in the block of its index,
    pub place_block : (i : ℕ) → place_of v r i / block_size ≡ block_at v r (i / block_size)
    unfolding place_of
    place_block i = omega arith

    pub place_rest : (i : ℕ) → place_of v r i % block_size ≡ i % block_size
    unfolding place_of
    place_rest i = omega arith

    -- and each byte of a block of row r is the byte of the segment that lies there.
    pub place_back : (j : ℕ) → j < area_size → owner_of v (j / block_size) ≡ r + 1 → place_of v r (block_size * index_of v (j / block_size) + j % block_size) ≡ j
    unfolding place_of
    place_back j l o =
        let q : (block_size * index_of v (j / block_size) + j % block_size) / block_size ≡ index_of v (j / block_size) = omega arith in
        omega (arith, ap (block_at v r) q, held_at (j / block_size) (omega arith) o)

-- a mark that is not 0 is one more than a row
pub positive : (m : ℕ) → (m ≡ 0 → ⊥) → m ≡ m - 1 + 1
positive zero ne = absurd (ne refl)
positive (suc m) ne = omega arith
