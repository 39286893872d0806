-- The sweeps over rows and blocks, turn by turn.
use Rattle.std.specs.Prelude.{ℕ, ◌+◌, ◌*◌, ◌-◌, ◌/◌, ◌<◌, ◌≤◌, Bool, true, false, ◌≡◌, replicate, eqb, ltb}
use Rattle.std.proofs.Math.Decide.{ℕ_discrete}
use Rattle.std.proofs.Common.{add-one, arith, ◌∙◌, ap₂}
use Rattle.std.proofs.Math.Bool.{not, cond}
use Rattle.std.proofs.Math.Path.{refl, sym, ap, subst}
use mathlib.Core.List.{List}
use Rattle.std.proofs.Math.ListN.{length, get_or, set, length-set}
use Rattle.std.proofs.Math.Seq.{get_or-set_same, get_or-set_other}
use borrow.Author.Tests.{eqb-true, eqb-false, eq-eqb, ne_eqb, ltb-true, ltb-false}
use Rattle.quotas.specs.Any.{any, both, either}
use Rattle.rules.specs.Kernel.{block_size}
use Rattle.rules.proofs.Laws.Bools.{bool_cases}
use Rattle.tables.specs.Layout.{View, view, size, row_count, link_count, block_count, kind_t, owner_t, on_tab, put_t}
use Rattle.book.specs.Book.{root_of, id_of, code_of, mark_of, to_of, owner_of, live_link, collect}
use Rattle.book.specs.Enact.{area_size}
use Rattle.book.specs.Sound.{Used}
use Rattle.book.specs.Cut.{Blocked, end_marked, held_row, held_marked, spared, row_freed, rows_freed, rows_swept, orphan, block_freed, blocks_swept, block_swept, area_swept}
use Rattle.book.specs.Resize.{block_cleared}
use Rattle.book.specs.Laws.Cleared.{if_true, if_false, cleared_length, in_block, off_block}
use Rattle.book.specs.Laws.Tally.{flags_down}
use Rattle.book.specs.Laws.First.{collected_at, collected_is, collect_is, collect_cong}

-- ---- tests

both_false : (a b : Bool) → a ≡ false → both a b ≡ false
unfolding both
both_false a b e = rw e

both_true : (a b : Bool) → a ≡ true → both a b ≡ b
unfolding both
both_true a b e = rw e

either_true : (a b : Bool) → a ≡ true → either a b ≡ true
unfolding either
either_true a b e = rw e

either_false : (a b : Bool) → a ≡ false → either a b ≡ b
unfolding either
either_false a b e = rw e

either_none : (t : Bool) → either t false ≡ t
unfolding either
either_none true = refl
either_none false = refl

any_more : (n : ℕ) (t : ℕ → Bool) → any (n + 1) t ≡ either (t n) (any n t)
unfolding any
any_more n t = rw (add-one n)

-- ---- a list whose first n numbers are f's, the others as they were

pub record Upto (f : ℕ → ℕ) (n : ℕ) (l m : List ℕ) : Type 0 where
  pub long : length m ≡ length l
  pub below : (i : ℕ) → i < n → get_or m i 0 ≡ f i
  pub above : (i : ℕ) → n ≤ i → get_or m i 0 ≡ get_or l i 0

pub upto_start : (f : ℕ → ℕ) (l : List ℕ) → Upto f 0 l l
upto_start f l = record { long = refl; below = λ i h. omega arith; above = λ i h. refl }

pub upto_set : (f : ℕ → ℕ) (n : ℕ) (l m : List ℕ) → Upto f n l m → n < length l → (x : ℕ) → x ≡ f n → Upto f (n + 1) l (set m n x)
upto_set f n l m u h x e =
    record {
      long = length-set m n x ∙ u.long;
      below = λ i k. elim (ℕ_discrete i n) [
        | yes q ↦ ap (λ (j : ℕ). get_or (set m n x) j 0) q ∙ get_or-set_same m n x 0 (omega (arith, u.long)) ∙ e ∙ ap f (sym q)
        | no q ↦ get_or-set_other m n i x 0 q ∙ u.below i (omega arith)
      ];
      above = λ i k. get_or-set_other m n i x 0 (λ q. omega arith) ∙ u.above i (omega arith);
    }

pub upto_keep : (f : ℕ → ℕ) (n : ℕ) (l m : List ℕ) → Upto f n l m → get_or l n 0 ≡ f n → Upto f (n + 1) l m
upto_keep f n l m u e =
    record {
      long = u.long;
      below = λ i k. elim (ℕ_discrete i n) [
        | yes q ↦ ap (λ (j : ℕ). get_or m j 0) q ∙ u.above n (omega arith) ∙ e ∙ ap f (sym q)
        | no q ↦ u.below i (omega arith)
      ];
      above = λ i k. u.above i (omega arith);
    }

pub upto_end : (f : ℕ → ℕ) (n k : ℕ) (l m : List ℕ) → Upto f k l m → length l ≡ n → n ≤ k → m ≡ collect n f
upto_end f n k l m u e h = sym (collect_is n f m (u.long ∙ e) (λ i q. u.below i (omega arith)))

-- ---- rows that are held

module _ (v : View) (l : ℕ) (h : List Bool) where
  -- A free link marks nothing,
  pub end_none : (m : ℕ) → m ≡ mark_of v l → m ≡ 0 → h ≡ end_marked v l h
  unfolding end_marked
  end_none m e z = sym (if_false (live_link v l) (set h (to_of v l) true) h (ap not (eq-eqb (mark_of v l) 0 (sym e ∙ z))))

  -- a live one the row that it leads to.
  pub end_some : (m o r : ℕ) → m ≡ mark_of v l → (m ≡ 0 → ⊥) → o ≡ to_of v l → r ≡ o → set h r true ≡ end_marked v l h
  unfolding end_marked
  end_some m o r e n eo er =
      ap (λ (x : ℕ). set h x true) (er ∙ eo) ∙ sym (if_true (live_link v l) (set h (to_of v l) true) h (ap not (ne_eqb (mark_of v l) 0 (λ z. n (e ∙ z)))))

  pub end_long : length (end_marked v l h) ≡ length h
  unfolding end_marked
  end_long = bool_cases (live_link v l)
      (λ t. ap (λ (x : List Bool). length x) (if_true (live_link v l) (set h (to_of v l) true) h t) ∙ length-set h (to_of v l) true)
      (λ t. ap (λ (x : List Bool). length x) (if_false (live_link v l) (set h (to_of v l) true) h t))

-- the rows that the first n links mark
pub record HeldTo (v : View) (n : ℕ) (h m : List Bool) : Type 0 where
  pub long : length m ≡ row_count
  pub each : (r : ℕ) → r < row_count → get_or m r false ≡ either (any n (λ k. both (live_link v k) (eqb (to_of v k) r))) (get_or h r false)

pub held_start : (v : View) (h : List Bool) → length h ≡ row_count → HeldTo v 0 h h
unfolding any either
held_start v h e = record { long = e; each = λ r k. refl }

pub held_more : (v : View) (n : ℕ) (h m : List Bool) → HeldTo v n h m → HeldTo v (n + 1) h (end_marked v n m)
held_more v n h m s =
    record {
      long = end_long v n m ∙ s.long;
      each = λ r k.
          one r k ∙ sym (ap (λ (t : Bool). either t (get_or h r false)) (any_more n (λ k. both (live_link v k) (eqb (to_of v k) r))));
    }
  where
    hit : (r : ℕ) → r < row_count → live_link v n ≡ true → to_of v n ≡ r → get_or (end_marked v n m) r false ≡ true
    hit r k t e = unfold end_marked in
        (ap (λ (x : List Bool). get_or x r false) (if_true (live_link v n) (set m (to_of v n) true) m t ∙ ap (λ (x : ℕ). set m x true) e)
        ∙ get_or-set_same m r true false (omega (arith, s.long)))

    miss : (r : ℕ) → live_link v n ≡ true → (to_of v n ≡ r → ⊥) → get_or (end_marked v n m) r false ≡ get_or m r false
    miss r t ne = unfold end_marked in
        (ap (λ (x : List Bool). get_or x r false) (if_true (live_link v n) (set m (to_of v n) true) m t) ∙ get_or-set_other m (to_of v n) r true false (λ q. ne (sym q)))

    off : (r : ℕ) → live_link v n ≡ false → get_or (end_marked v n m) r false ≡ get_or m r false
    off r t = unfold end_marked in (ap (λ (x : List Bool). get_or x r false) (if_false (live_link v n) (set m (to_of v n) true) m t))

    one : (r : ℕ) → r < row_count
        → get_or (end_marked v n m) r false ≡ either (either (both (live_link v n) (eqb (to_of v n) r)) (any n (λ k. both (live_link v k) (eqb (to_of v k) r)))) (get_or h r false)
    one r k =
        let live = live_link v n in
        let here = eqb (to_of v n) r in
        let rest = any n (λ k. both (live_link v k) (eqb (to_of v k) r)) in
        bool_cases live
        (λ t. bool_cases here
        (λ e. hit r k t (eqb-true (to_of v n) r e) ∙ sym (either_true (either (both live here) rest) (get_or h r false) (either_true (both live here) rest (both_true live here t ∙ e))))
        (λ e. miss r t (eqb-false (to_of v n) r e) ∙ s.each r k ∙ sym (ap (λ (x : Bool). either x (get_or h r false)) (either_false (both live here) rest (both_true live here t ∙ e)))))
        (λ t. off r t ∙ s.each r k ∙ sym (ap (λ (x : Bool). either x (get_or h r false)) (either_false (both live here) rest (both_false live here t))))

pub held_end : (v : View) (n : ℕ) (h m : List Bool) → HeldTo v n h m → n ≤ link_count → link_count ≤ n → m ≡ held_marked v h
unfolding held_marked held_row
held_end v n h m s p q =
    let e : n ≡ link_count = omega arith in
    sym (collected_is false row_count (λ r. either (any link_count (λ k. both (live_link v k) (eqb (to_of v k) r))) (get_or h r false)) m s.long
    (λ r k. s.each r k ∙ ap (λ (i : ℕ). either (any i (λ k. both (live_link v k) (eqb (to_of v k) r))) (get_or h r false)) e))

-- ---- rows that are freed

module _ (v : View) (r top : ℕ) (held : Bool) where
  pub row_held : held ≡ true → v ≡ row_freed v r top held
  unfolding row_freed
  row_held e = sym (if_true (spared v r top held) v (put_t kind_t r 0 v) (either_true held (eqb (id_of v r) top) e))

  pub row_root : (i : ℕ) → held ≡ false → i ≡ id_of v r → i ≡ top → v ≡ row_freed v r top held
  unfolding row_freed
  row_root i n e q =
      sym (if_true (spared v r top held) v (put_t kind_t r 0 v) (either_false held (eqb (id_of v r) top) n ∙ eq-eqb (id_of v r) top (sym e ∙ q)))

  pub row_free : (i : ℕ) → held ≡ false → i ≡ id_of v r → (i ≡ top → ⊥) → put_t kind_t r 0 v ≡ row_freed v r top held
  unfolding row_freed
  row_free i n e q =
      sym (if_false (spared v r top held) v (put_t kind_t r 0 v) (either_false held (eqb (id_of v r) top) n ∙ ne_eqb (id_of v r) top (λ z. q (e ∙ z))))

-- row r's code after the sweep
unfoldable pub code_after : List Bool → View → ℕ → ℕ
code_after h v r = cond (spared v r (root_of v) (get_or h r false)) (code_of v r) 0

pub record RowsTo (h : List Bool) (v : View) (n : ℕ) (u : View) : Type 0 where
  pub rest : u ≡ on_tab kind_t (λ m. u.kind) v
  pub kinds : Upto (code_after h v) n v.kind u.kind

pub rows_start : (h : List Bool) (v : View) → RowsTo h v 0 v
rows_start h v = record { rest = refl; kinds = upto_start (code_after h v) v.kind }

pub rows_more : (h : List Bool) (v : View) (n : ℕ) (u w : View) → RowsTo h v n u → length v.kind ≡ row_count → n < row_count
    → (top : ℕ) (held : Bool) → top ≡ root_of v → held ≡ get_or h n false → w ≡ row_freed u n top held → RowsTo h v (n + 1) w
unfolding row_freed code_after
rows_more h v n u w s long low top held et eh e = bool_cases (spared u n top held)
    (λ t.
    subst (RowsTo h v (n + 1)) (sym (e ∙ if_true (spared u n top held) u (put_t kind_t n 0 u) t))
    (record {
      rest = s.rest;
      kinds = upto_keep (code_after h v) n v.kind u.kind s.kinds
          (sym (if_true (spared v n (root_of v) (get_or h n false)) (code_of v n) 0 (sym same ∙ t)));
    }))
    (λ t.
    subst (RowsTo h v (n + 1)) (sym (e ∙ if_false (spared u n top held) u (put_t kind_t n 0 u) t))
    (record {
      rest = ap (put_t kind_t n 0) s.rest;
      kinds = upto_set (code_after h v) n v.kind u.kind s.kinds (omega arith) 0
          (sym (if_false (spared v n (root_of v) (get_or h n false)) (code_of v n) 0 (sym same ∙ t)));
    }))
  where
    same : spared u n top held ≡ spared v n (root_of v) (get_or h n false)
    same =
        ap₂ either eh (ap₂ eqb (ap (λ (x : View). id_of x n) s.rest) et)

pub rows_end : (h : List Bool) (v : View) (n : ℕ) (u : View) → RowsTo h v n u → length v.kind ≡ row_count → row_count ≤ n → u ≡ rows_freed h v
unfolding rows_freed code_after
rows_end h v n u s long q =
    s.rest ∙ ap (λ (x : List ℕ). on_tab kind_t (λ m. x) v) (upto_end (code_after h v) row_count n v.kind u.kind s.kinds long q)

held_at : (v : View) (h : List Bool) (r : ℕ) → r < row_count → get_or (held_marked v h) r false ≡ either (held_row v r) (get_or h r false)
unfolding held_marked
held_at v h r k = collected_at false row_count (λ r. either (held_row v r) (get_or h r false)) r k

-- Rows freed by the marks that live links make where none is: those are freed that no live link leads to.
pub rows_swept_lem : (v : View) → rows_freed (held_marked v (replicate row_count false)) v ≡ rows_swept v
unfolding rows_freed rows_swept
rows_swept_lem v =
    ap (λ (x : List ℕ). on_tab kind_t (λ m. x) v)
    (collect_cong row_count (λ r. cond (spared v r (root_of v) (get_or (held_marked v (replicate row_count false)) r false)) (code_of v r) 0)
    (λ r. cond (either (held_row v r) (eqb (id_of v r) (root_of v))) (code_of v r) 0)
    (λ r k. ap (λ (t : Bool). cond (either t (eqb (id_of v r) (root_of v))) (code_of v r) 0) (mark r k)))
  where
    mark : (r : ℕ) → r < row_count → get_or (held_marked v (replicate row_count false)) r false ≡ held_row v r
    mark r k =
        held_at v (replicate row_count false) r k ∙ ap (either (held_row v r)) (flags_down row_count r) ∙ either_none (held_row v r)

-- ---- blocks

module _ (v : View) (i : ℕ) (area : List ℕ) where
  -- A free block stays, and so does one whose row is live;
  pub block_none : (m : ℕ) → m ≡ owner_of v i → m ≡ 0 → orphan v i ≡ false
  block_none m e z = both_false (not (eqb (owner_of v i) 0)) (eqb (code_of v (owner_of v i - 1)) 0) (ap not (eq-eqb (owner_of v i) 0 (sym e ∙ z)))

  code_at : (m r x : ℕ) → m ≡ owner_of v i → r ≡ m - 1 → x ≡ code_of v r → x ≡ code_of v (owner_of v i - 1)
  code_at m r x e er ex = ex ∙ ap (code_of v) (er ∙ ap (λ (y : ℕ). y - 1) e)

  pub block_held : (m r x : ℕ) → m ≡ owner_of v i → (m ≡ 0 → ⊥) → r ≡ m - 1 → x ≡ code_of v r → (x ≡ 0 → ⊥) → orphan v i ≡ false
  block_held m r x e n er ex nx =
      both_true (not (eqb (owner_of v i) 0)) (eqb (code_of v (owner_of v i - 1)) 0) (ap not (ne_eqb (owner_of v i) 0 (λ z. n (e ∙ z))))
      ∙ ne_eqb (code_of v (owner_of v i - 1)) 0 (λ z. nx (code_at m r x e er ex ∙ z))

  -- any other is an orphan.
  pub block_orphan : (m r x : ℕ) → m ≡ owner_of v i → (m ≡ 0 → ⊥) → r ≡ m - 1 → x ≡ code_of v r → x ≡ 0 → orphan v i ≡ true
  block_orphan m r x e n er ex z =
      both_true (not (eqb (owner_of v i) 0)) (eqb (code_of v (owner_of v i - 1)) 0) (ap not (ne_eqb (owner_of v i) 0 (λ y. n (e ∙ y))))
      ∙ eq-eqb (code_of v (owner_of v i - 1)) 0 (sym (code_at m r x e er ex) ∙ z)

  pub block_stays : orphan v i ≡ false → (v ≡ block_freed v i) × (area ≡ block_swept v i area)
  unfolding block_freed block_swept
  block_stays t = (sym (if_false (orphan v i) (put_t owner_t i 0 v) v t), sym (if_false (orphan v i) (block_cleared i area) area t))

  pub block_goes : orphan v i ≡ true → (put_t owner_t i 0 v ≡ block_freed v i) × (block_cleared i area ≡ block_swept v i area)
  unfolding block_freed block_swept
  block_goes t = (sym (if_true (orphan v i) (put_t owner_t i 0 v) v t), sym (if_true (orphan v i) (block_cleared i area) area t))

-- block b's owner after the sweep
unfoldable pub owner_after : View → ℕ → ℕ
owner_after v b = cond (orphan v b) 0 (owner_of v b)

pub record BlocksTo (v : View) (area : List ℕ) (n : ℕ) (u : View) (left : List ℕ) : Type 0 where
  pub rest : u ≡ on_tab owner_t (λ m. u.owner) v
  pub owners : Upto (owner_after v) n v.owner u.owner
  pub long : length left ≡ area_size
  pub done : (j : ℕ) → j < area_size → j / block_size < n → get_or left j 0 ≡ cond (orphan v (j / block_size)) 0 (get_or area j 0)
  pub todo : (j : ℕ) → j < area_size → n ≤ j / block_size → get_or left j 0 ≡ get_or area j 0

pub blocks_start : (v : View) (area : List ℕ) → length area ≡ area_size → BlocksTo v area 0 v area
blocks_start v area e =
    record { rest = refl; owners = upto_start (owner_after v) v.owner; long = e; done = λ j h k. omega arith; todo = λ j h k. refl }

-- what is looked at is as it was
same_orphan : (v : View) (area : List ℕ) (n : ℕ) (u : View) (left : List ℕ) → BlocksTo v area n u left → orphan u n ≡ orphan v n
same_orphan v area n u left s =
    ap₂ both (ap (λ (x : ℕ). not (eqb x 0)) owner)
    (ap (λ (x : ℕ). eqb x 0) (ap (λ (x : View). code_of x (owner_of u n - 1)) s.rest ∙ ap (λ (x : ℕ). code_of v (x - 1)) owner))
  where
    owner : owner_of u n ≡ owner_of v n
    owner = s.owners.above n (omega arith)

-- the byte at j, where block n was swept
module _ (v : View) (area : List ℕ) (n : ℕ) (u : View) (left : List ℕ) (s : BlocksTo v area n u left) where
  cleared_byte : (j : ℕ) → j < area_size → get_or (block_cleared n left) j 0 ≡ cond (eqb (j / block_size) n) 0 (get_or left j 0)
  cleared_byte j h = bool_cases (eqb (j / block_size) n)
      (λ t. in_block n left j (omega (arith, s.long)) (eqb-true (j / block_size) n t) ∙ sym (if_true (eqb (j / block_size) n) 0 (get_or left j 0) t))
      (λ t. off_block n left j (eqb-false (j / block_size) n t) ∙ sym (if_false (eqb (j / block_size) n) 0 (get_or left j 0) t))

  swept_byte : (j : ℕ) → j < area_size → get_or (block_swept u n left) j 0 ≡ cond (both (orphan v n) (eqb (j / block_size) n)) 0 (get_or left j 0)
  unfolding block_swept
  swept_byte j h = bool_cases (orphan u n)
      (λ t.
      ap (λ (x : List ℕ). get_or x j 0) (if_true (orphan u n) (block_cleared n left) left t)
      ∙ cleared_byte j h
      ∙ sym (ap (λ (x : Bool). cond x 0 (get_or left j 0)) (both_true (orphan v n) (eqb (j / block_size) n) (sym (same_orphan v area n u left s) ∙ t))))
      (λ t.
      ap (λ (x : List ℕ). get_or x j 0) (if_false (orphan u n) (block_cleared n left) left t)
      ∙ sym (ap (λ (x : Bool). cond x 0 (get_or left j 0)) (both_false (orphan v n) (eqb (j / block_size) n) (sym (same_orphan v area n u left s) ∙ t))))

  swept_long : length (block_swept u n left) ≡ area_size
  unfolding block_swept
  swept_long = bool_cases (orphan u n)
      (λ t. ap (λ (x : List ℕ). length x) (if_true (orphan u n) (block_cleared n left) left t)
      ∙ cleared_length (block_size * n) (block_size * n + block_size) left ∙ s.long)
      (λ t. ap (λ (x : List ℕ). length x) (if_false (orphan u n) (block_cleared n left) left t) ∙ s.long)

  other_byte : (j : ℕ) → j < area_size → (j / block_size ≡ n → ⊥) → get_or (block_swept u n left) j 0 ≡ get_or left j 0
  other_byte j h ne =
      swept_byte j h
      ∙ if_false (both (orphan v n) (eqb (j / block_size) n)) 0 (get_or left j 0)
      (bool_cases (orphan v n)
      (λ t. both_true (orphan v n) (eqb (j / block_size) n) t ∙ ne_eqb (j / block_size) n ne)
      (λ t. both_false (orphan v n) (eqb (j / block_size) n) t))

  this_byte : (j : ℕ) → j < area_size → j / block_size ≡ n → get_or (block_swept u n left) j 0 ≡ cond (orphan v (j / block_size)) 0 (get_or area j 0)
  this_byte j h e =
      swept_byte j h
      ∙ ap₂ (λ (x : Bool) (y : ℕ). cond x 0 y)
      (bool_cases (orphan v n)
      (λ t. both_true (orphan v n) (eqb (j / block_size) n) t ∙ eq-eqb (j / block_size) n e ∙ sym t)
      (λ t. both_false (orphan v n) (eqb (j / block_size) n) t ∙ sym t)
      ∙ ap (orphan v) (sym e))
      (s.todo j h (omega arith))

  freed_view : length v.owner ≡ block_count → n < block_count → (w : View) → w ≡ block_freed u n
      → (w ≡ on_tab owner_t (λ m. w.owner) v) × (Upto (owner_after v) (n + 1) v.owner w.owner)
  unfolding block_freed owner_after
  freed_view long low w e =
      let P : View → Type 0 = λ x. (x ≡ on_tab owner_t (λ m. x.owner) v) × (Upto (owner_after v) (n + 1) v.owner x.owner) in
      let same = same_orphan v area n u left s in
      bool_cases (orphan u n)
      (λ t. subst P (sym (e ∙ if_true (orphan u n) (put_t owner_t n 0 u) u t)) (
        ap (put_t owner_t n 0) s.rest,
        upto_set (owner_after v) n v.owner u.owner s.owners (omega arith) 0 (sym (if_true (orphan v n) 0 (owner_of v n) (sym same ∙ t))),
      ))
      (λ t. subst P (sym (e ∙ if_false (orphan u n) (put_t owner_t n 0 u) u t))
      (s.rest, upto_keep (owner_after v) n v.owner u.owner s.owners (sym (if_false (orphan v n) 0 (owner_of v n) (sym same ∙ t)))))

  pub blocks_more : length v.owner ≡ block_count → n < block_count → (w : View) (a : List ℕ) → w ≡ block_freed u n → a ≡ block_swept u n left → BlocksTo v area (n + 1) w a
  blocks_more long low w a e f =
      let (x, y) = freed_view long low w e in
      subst (BlocksTo v area (n + 1) w) (sym f)
      (record {
        rest = x;
        owners = y;
        long = swept_long;
        done = λ j h k. elim (ℕ_discrete (j / block_size) n) [
          | yes q ↦ this_byte j h q
          | no q ↦ other_byte j h q ∙ s.done j h (omega arith)
        ];
        todo = λ j h k. other_byte j h (λ q. omega arith) ∙ s.todo j h (omega arith);
      })

pub blocks_end : (v : View) (area : List ℕ) (n : ℕ) (u : View) (left : List ℕ) → BlocksTo v area n u left → length v.owner ≡ block_count → block_count ≤ n
    → (u ≡ blocks_swept v) × (left ≡ area_swept v area)
unfolding blocks_swept area_swept owner_after
blocks_end v area n u left s long q = (
  s.rest ∙ ap (λ (x : List ℕ). on_tab owner_t (λ m. x) v) (upto_end (owner_after v) block_count n v.owner u.owner s.owners long q),
  sym (collect_is area_size (λ j. cond (orphan v (j / block_size)) 0 (get_or area j 0)) left s.long (λ j h. s.done j h (omega arith))),
)

-- Used blocks still belong to rows.
pub blocks_blocked : (e b area left : List ℕ) (n : ℕ) → Blocked e → length b ≡ size → BlocksTo (view e) area n (view b) left → Blocked b
blocks_blocked e b area left n ok long s =
    record { sized = long; owners = λ k a. subst (λ (x : ℕ). x - 1 < row_count) (sym (was k a)) (ok.owners k (record { low = a.low; used = λ z. a.used (was k a ∙ z) })) }
  where
    stays : (t : Bool) (x y : ℕ) → y ≡ cond t 0 x → (y ≡ 0 → ⊥) → y ≡ x
    stays true x y q z = absurd (z q)
    stays false x y q z = q

    was : (k : ℕ) → Used (view b) k → owner_of (view b) k ≡ owner_of (view e) k
    was k a = bool_cases (ltb k n)
        (λ t. stays (orphan (view e) k) (owner_of (view e) k) (owner_of (view b) k) (s.owners.below k (ltb-true k n t) ∙ after k) a.used)
        (λ t. s.owners.above k (ltb-false k n t))
      where
        after : (k : ℕ) → owner_after (view e) k ≡ cond (orphan (view e) k) 0 (owner_of (view e) k)
        after k = unfold owner_after in refl
