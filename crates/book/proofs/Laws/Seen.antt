-- Laws of the pass over the blocks: two blocks have one number exactly if they are the same one of the same segment, so a number that was seen
-- before is a block with two owners or twice in one.
use Prim.Native.Nat.{ℕ, zero, suc, ◌+◌, ◌-◌, ◌<◌, ◌≤◌}
use Rattle.std.proofs.Common.{eq-or-lt_of_le, ⊎_elim, ◌∙◌, get_or-set_same, get_or-set_other}
use native.Mathlib.Omega.{arith}
use Rattle.std.proofs.Math.Decide.{ℕ_discrete}
use Rattle.std.specs.Prelude.{Bool, ◌&&◌, List, ◌≡◌, set, replicate}
use Rattle.std.proofs.Math.Bool.{true, false, not, cond}
use Rattle.std.proofs.Math.Path.{refl, sym, ap, ap₂}
use Rattle.std.proofs.Math.ListN.{get_or, length, length-set}
use Rattle.std.proofs.Math.Dec.{eqb}
use borrow.Author.Tests.{eq-eqb, ne_eqb, eqb-true, eqb-false, not-true, not-false}
use Rattle.quotas.specs.Sum.{Σ, when, sum_mono, sum_more, sum_term, sum_pos, when_true, when_false, when_pos, when_le}
use Rattle.rules.specs.Kernel.{segment_code}
use Rattle.tables.specs.Layout.{View, row_count, block_count}
use Rattle.book.specs.Book.{code_of, len_of, owner_of, index_of, blocks_of}
use Rattle.book.specs.Sound.{Used, Owned}
use Rattle.book.specs.Test.{every, owned_b, twin_b, block_b, used_blocks, needed_blocks, blocks_b}
use Rattle.book.specs.Seen.{needs_of, offset_of, number_of, seen_below, used_below, two_bytes, Offsets, Seen}
use Rattle.book.specs.Laws.Tests.{and_l, and_r, and_fails, not_by, not_of, apart, every_of, every_by, every_fails}
use Rattle.book.specs.Laws.Tally.{rep_long, zeros_long, flags_down}
use Rattle.book.proofs.Laws.MeansBlocks.{ones, up, owned_is, block_of}

-- ---- numbers of blocks

-- A sum up to a term and the term are no more than a longer sum.
pub sum_below : (n : ℕ) (f : ℕ → ℕ) (i : ℕ) → i < n → Σ i f + f i ≤ Σ n f
unfolding Σ
sum_below zero f i l = absurd (omega arith)
sum_below (suc n) f i l =
    ⊎_elim
    (λ e. let z : Σ i f + f i ≡ Σ n f + f n = ap₂ (λ (x y : ℕ). x + y) (ap (λ (k : ℕ). Σ k f) e) (ap f e) in omega arith)
    (λ k. omega (arith, sum_below n f i k))
    (eq-or-lt_of_le {n = i} {m = n} (omega arith))

-- There are no more used blocks than blocks.
pub used_most : (v : View) → used_blocks v ≤ block_count
unfolding used_blocks
used_most v =
    omega (arith, sum_mono block_count (λ b. when (not (eqb (owner_of v b) 0)) 1) (λ b. 1) (λ b l. when_le (not (eqb (owner_of v b) 0)) 1 1 (λ e. omega arith)), ones block_count)

-- Of the blocks before one more are used those before it, and it if it is.
pub used_none : (v : View) → used_below v 0 ≡ 0
unfolding used_below Σ
used_none v = refl

pub used_more : (v : View) (i : ℕ) → used_below v (i + 1) ≡ used_below v i + when (not (eqb (owner_of v i) 0)) 1
unfolding used_below
used_more v i = sum_more i (λ b. when (not (eqb (owner_of v b) 0)) 1)

module _ (v : View) where
  -- The rows before one more need what they need and what it needs,
  pub offset_none : offset_of v 0 ≡ 0
  unfolding offset_of Σ
  offset_none = refl

  pub offset_more : (r : ℕ) → offset_of v (r + 1) ≡ offset_of v r + needs_of v r
  unfolding offset_of
  offset_more r = sum_more r (needs_of v)

  -- all rows what is needed,
  pub offset_all : offset_of v row_count ≡ needed_blocks v
  unfolding offset_of needed_blocks
  offset_all = refl

  -- and those before a row, with it, no more.
  pub offset_most : (r : ℕ) → r < row_count → offset_of v r + needs_of v r ≤ needed_blocks v
  unfolding offset_of needed_blocks
  offset_most r l = sum_below row_count (needs_of v) r l

  -- an owned block is one that its segment needs
  needed_here : (b : ℕ) → Owned v b → index_of v b < needs_of v (owner_of v b - 1)
  needed_here b w =
      let r = owner_of v b - 1 in
      omega (arith, w.within, when_true (eqb (code_of v r) segment_code) (blocks_of (len_of v r)) (eq-eqb (code_of v r) segment_code w.owner_segment))

  -- The number of an owned block is below what is needed.
  pub number_low : (b : ℕ) → Owned v b → number_of v b < needed_blocks v
  unfolding number_of
  number_low b w = omega (arith, needed_here b w, offset_most (owner_of v b - 1) w.owner_low)

  -- blocks of different rows have different numbers
  less : (b c : ℕ) → Owned v b → owner_of v b - 1 < owner_of v c - 1 → number_of v b < number_of v c
  unfolding number_of offset_of
  less b c w l = omega (arith, needed_here b w, sum_below (owner_of v c - 1) (needs_of v) (owner_of v b - 1) l)

  -- Two owned blocks with one number have one owner and one index.
  pub number_same : (b c : ℕ) → Used v b → Used v c → Owned v b → Owned v c → number_of v b ≡ number_of v c → (owner_of v b ≡ owner_of v c) × (index_of v b ≡ index_of v c)
  unfolding number_of
  number_same b c ub uc wb wc e = elim (ℕ_discrete (owner_of v b - 1) (owner_of v c - 1)) [
    | yes q ↦ (up (owner_of v b) ub.used ∙ ap (λ (x : ℕ). x + 1) q ∙ sym (up (owner_of v c) uc.used), omega (arith, e, ap (offset_of v) q))
    | no ne ↦ absurd (⊎_elim (λ l. omega (arith, less b c wb l, e)) (λ l. omega (arith, less c b wc l, e)) (apart (owner_of v b - 1) (owner_of v c - 1) ne))
  ]

  -- A block's number, by what was read of it.
  pub number_read : (b r p k : ℕ) → r ≡ owner_of v b - 1 → p ≡ offset_of v r → k ≡ index_of v b → p + k ≡ number_of v b
  unfolding number_of
  number_read b r p k er ep ek = ap₂ (λ (x y : ℕ). x + y) (ep ∙ ap (offset_of v) er) ek

-- ---- offsets

-- Before the first row there are none.
pub offsets_none : (v : View) (a : List ℕ) → a ≡ replicate row_count 0 → Offsets v 0 a
offsets_none v a e = record { offsets_long = zeros_long row_count a e; offset = λ r l. absurd (omega arith) }

-- One row more.
pub offsets_more : (v : View) (n : ℕ) (a : List ℕ) → Offsets v n a → n < row_count → (x : ℕ) → x ≡ two_bytes (offset_of v n) → Offsets v (n + 1) (set a n x)
offsets_more v n a s low x e =
    record {
      offsets_long = length-set a n x ∙ s.offsets_long;
      offset = λ r l. elim (ℕ_discrete r n) [
        | yes q ↦ ap (λ (k : ℕ). get_or (set a n x) k 0) q ∙ get_or-set_same a n x 0 (omega (arith, s.offsets_long)) ∙ e ∙ ap (λ (k : ℕ). two_bytes (offset_of v k)) (sym q)
        | no ne ↦ get_or-set_other a n r x 0 ne ∙ s.offset r (less_of r l ne)
      ];
    }
  where
    less_of : (r : ℕ) → r < n + 1 → (r ≡ n → ⊥) → r < n
    less_of r l ne = ⊎_elim (λ q. absurd (ne q)) (λ k. k) (eq-or-lt_of_le {n = r} {m = n} (omega arith))

-- ---- the pass

some : (x : ℕ) → (x ≡ 0 → ⊥) → 0 < x
some zero ne = absurd (ne refl)
some (suc x) ne = omega arith

-- It starts with nothing seen.
pub seen_none : (v : View) (a : List Bool) → a ≡ replicate block_count false → Seen v 0 a
unfolding seen_below Σ
seen_none v a e =
    record {
      seen_long = ap length e ∙ rep_long block_count false;
      held = λ x l. ap (λ (y : List Bool). get_or y x false) e ∙ flags_down block_count x;
    }

module _ (v : View) (n : ℕ) (a : List Bool) (s : Seen v n a) where
  -- A free block has no number.
  pub seen_free : owner_of v n ≡ 0 → Seen v (n + 1) a
  unfolding seen_below
  seen_free e =
      record {
        seen_long = s.seen_long;
        held = λ x l.
            let f : ℕ → ℕ = λ b. when (not (eqb (owner_of v b) 0)) (when (eqb (number_of v b) x) 1) in
            let same : Σ n f ≡ Σ (n + 1) f = omega (arith, sum_more n f, when_false (not (eqb (owner_of v n) 0)) (when (eqb (number_of v n) x) 1) (rw (eq-eqb (owner_of v n) 0 e))) in
            s.held x l ∙ ap (λ (y : ℕ). not (eqb y 0)) same;
      }

  -- A used block's number is seen.
  pub seen_more : (k : ℕ) → k ≡ number_of v n → k < block_count → (owner_of v n ≡ 0 → ⊥) → Seen v (n + 1) (set a k true)
  unfolding seen_below
  seen_more k e low ne =
      record {
        seen_long = length-set a k true ∙ s.seen_long;
        held = λ x l.
            let f : ℕ → ℕ = λ b. when (not (eqb (owner_of v b) 0)) (when (eqb (number_of v b) x) 1) in
            let on = not_by (eqb (owner_of v n) 0) (λ t. ne (eqb-true (owner_of v n) 0 t)) in
            let here = when_true (not (eqb (owner_of v n) 0)) (when (eqb (number_of v n) x) 1) on in
            elim (ℕ_discrete x k) [
              | yes q ↦
                  ap (λ (y : ℕ). get_or (set a k true) y false) q ∙ get_or-set_same a k true false (omega (arith, s.seen_long))
                  ∙ sym (ap not (ne_eqb (Σ (n + 1) f) 0 (λ z. omega (arith, sum_more n f, here, when_true (eqb (number_of v n) x) 1 (eq-eqb (number_of v n) x (sym (q ∙ e)))))))
              | no q ↦
                  let same : Σ n f ≡ Σ (n + 1) f = omega (arith, sum_more n f, here, when_false (eqb (number_of v n) x) 1 (ne_eqb (number_of v n) x (λ z. q (sym (e ∙ z))))) in
                  get_or-set_other a k x true false q ∙ s.held x l ∙ ap (λ (y : ℕ). not (eqb y 0)) same
            ];
      }

  -- A number not seen before: no block below is the same one.
  pub block_new : (k : ℕ) → k ≡ number_of v n → k < block_count → owned_b v n ≡ true → get_or a k false ≡ false → block_b v n ≡ true
  unfolding seen_below number_of block_b twin_b
  block_new k e low o z = go (eqb (owner_of v n) 0) refl
    where
      go : (b : Bool) → eqb (owner_of v n) 0 ≡ b → cond b true (owned_b v n && every n (λ c. not (twin_b v n c))) ≡ true
      go true t = refl
      go false t =
          rw o (every_by n (λ c. not (twin_b v n c)) (λ c l. not_by (twin_b v n c) (λ q.
          let eo = eqb-true (owner_of v n) (owner_of v c) (and_l (eqb (owner_of v n) (owner_of v c)) _ q) in
          let ei = eqb-true (index_of v n) (index_of v c) (and_r (eqb (owner_of v n) (owner_of v c)) _ q) in
          let f : ℕ → ℕ = λ b. when (not (eqb (owner_of v b) 0)) (when (eqb (number_of v b) k) 1) in
          let ek : number_of v c ≡ k = sym (e ∙ ap₂ (λ (x y : ℕ). offset_of v (x - 1) + y) eo ei) in
          let one : f c ≡ 1 = when_true (not (eqb (owner_of v c) 0)) _ (not_by (eqb (owner_of v c) 0) (λ h. eqb-false (owner_of v n) 0 t (eo ∙ eqb-true (owner_of v c) 0 h)))
          ∙ when_true (eqb (number_of v c) k) 1 (eq-eqb (number_of v c) k ek) in
          omega (arith, sum_term n f c l, one, eqb-true (Σ n f) 0 (not-false _ (sym (s.held k low) ∙ z))))))

  -- A number seen before: a block below is the same one.
  pub block_twice : (k : ℕ) → k ≡ number_of v n → k < block_count → n < block_count → (owner_of v n ≡ 0 → ⊥) → owned_b v n ≡ true → every n (block_b v) ≡ true
      → get_or a k false ≡ true → block_b v n ≡ false
  unfolding seen_below block_b twin_b
  block_twice k e low ln ne o h z =
      let f : ℕ → ℕ = λ b. when (not (eqb (owner_of v b) 0)) (when (eqb (number_of v b) k) 1) in
      let (c, l, p) = sum_pos n f (some (Σ n f) (λ q. eqb-false (Σ n f) 0 (not-true _ (sym (s.held k low) ∙ z)) q)) in
      let p1 = when_pos (not (eqb (owner_of v c) 0)) (when (eqb (number_of v c) k) 1) p in
      let p2 = when_pos (eqb (number_of v c) k) 1 p1.1 in
      let uc : Used v c = record { low = omega arith; used = λ q. not_of (eqb (owner_of v c) 0) p1.0 (eq-eqb (owner_of v c) 0 q) } in
      let un : Used v n = record { low = ln; used = ne } in
      let wn = owned_is v n o in
      let wc = (block_of v c uc (every_of n (block_b v) h c l)).0 in
      let same = number_same v n c un uc wn wc (sym e ∙ sym (eqb-true (number_of v c) k p2.0)) in
      let twin : twin_b v n c ≡ true = rw (eq-eqb (owner_of v n) (owner_of v c) same.0) (eq-eqb (index_of v n) (index_of v c) same.1) in
      rw (ne_eqb (owner_of v n) 0 ne) (and_fails (owned_b v n) (every n (λ c. not (twin_b v n c))) (every_fails n (λ c. not (twin_b v n c)) c l (ap not twin)))

-- ---- all blocks

-- More are needed than there are.
pub blocks_over : (v : View) → block_count < needed_blocks v → blocks_b v ≡ false
unfolding blocks_b
blocks_over v l =
    and_fails (every block_count (block_b v)) (eqb (used_blocks v) (needed_blocks v)) (ne_eqb (used_blocks v) (needed_blocks v) (λ e. omega (arith, used_most v, e)))

-- One is not as it should be.
pub blocks_fail : (v : View) (i : ℕ) → i < block_count → block_b v i ≡ false → blocks_b v ≡ false
unfolding blocks_b
blocks_fail v i l e = rw (every_fails block_count (block_b v) i l e)

-- Each is: they are counted.
pub blocks_end : (v : View) (i sum asked : ℕ) → i ≡ block_count → every i (block_b v) ≡ true → sum ≡ used_below v i → asked ≡ needed_blocks v → eqb sum asked ≡ blocks_b v
unfolding blocks_b used_below used_blocks
blocks_end v i sum asked e h eu en =
    rw (sym (ap (λ (x : ℕ). every x (block_b v)) e) ∙ h) (ap₂ eqb (eu ∙ ap (λ (x : ℕ). Σ x (λ b. when (not (eqb (owner_of v b) 0)) 1)) e) en)
