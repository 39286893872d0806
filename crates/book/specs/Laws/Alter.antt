-- Changes of one row: the world, the positions and the tables' lengths after them.
use Prim.Native.Nat.{ℕ, suc, ◌+◌, ◌*◌, ◌-◌, ◌<◌, ◌≤◌}
use Rattle.std.proofs.Math.Decide.{ℕ_discrete}
use Rattle.std.proofs.Math.Numerals.{add-one}
use Rattle.std.proofs.Common.{arith, ◌∙◌, subst}
use Rattle.std.specs.Prelude.{Bool, false, not, ◌≡◌, take, drop, eqb, ltb}
use Rattle.std.proofs.Math.Bool.{true, cond}
use Rattle.std.proofs.Math.Path.{refl, sym, ap, ap₂}
use mathlib.Core.List.{List}
use Rattle.std.proofs.Math.ListN.{length, get_or}
use Rattle.std.proofs.lemmas.List.Edits.{sets}
use Rattle.std.proofs.Math.Seq.{get_or-set_same, get_or-set_other}
use borrow.Author.Tests.{eq-eqb, le-leb, ltb-true, ltb-false}
use Rattle.labels.specs.declared.Label.{Label}
use Rattle.labels.specs.Core.{word_count}
use Rattle.labels.specs.Core.Same.{label_ext}
use Rattle.quotas.specs.Any.{any, both}
use Rattle.quotas.specs.Sum.{Σ, when}
use Rattle.rules.specs.Kernel.{gate_code, segment_code, max_code, blank, Edit, relabel, fix, requota, edit, keep, alter, apply, has_clearance, is_segment, Obj, altered}
use Rattle.rules.proofs.Laws.Bools.{bool_cases}
use Rattle.rules.proofs.Laws.Put.{put_same, put_other}
use Rattle.tables.specs.Layout.{View, row_count, link_count, block_count, next_t, fixed_t, quota_t, label_default_t, label_words_t, clear_default_t, clear_words_t, put_t, run_t}
use Rattle.rules.proofs.Laws.Worlds.{world_ext}
use Rattle.tables.specs.Layout.Laws.{within}
use Rattle.tables.specs.Layout.Runs.{sets_read, sets_before, sets_behind}
use Rattle.book.specs.Book.{next_of, root_of, id_of, code_of, fixed_of, quota_of, len_of, label_of, clearance_of, from_of, to_of, owner_of, index_of, blocks_of, first, block_at, place_of}
use Rattle.book.specs.Book.{bytes_of, kind_from, object_at, row_of, world_of, ThreadOrGate}
use Rattle.book.specs.Sound.{Live, On, Used, Owned, times_held}
use Rattle.book.specs.Placed.{Placed}
use Rattle.book.specs.Shape.{Shape}
use Rattle.book.specs.Enact.{moved_on, relabelled, fixed_at, requotaed}
use Rattle.book.specs.Laws.Codes.{segment_from, cleared_from}
use Rattle.book.specs.Laws.First.{found_cases}
use Rattle.book.specs.Laws.Tie.{row_found, row_is, obj_found, obj_missing, obj_at}
use Rattle.book.specs.Laws.Shapes.{put_shape, run_shape}

-- ---- fields that are runs of numbers: n for each row

-- A row's run that was written is what was written,
pub run_here : (l : List ℕ) (m n r : ℕ) (vs : List ℕ) → length l ≡ m * n → r < m → length vs ≡ n → take n (drop (r * n) (sets l (r * n) vs)) ≡ vs
run_here l m n r vs e h k =
    ap (λ (i : ℕ). take i (drop (r * n) (sets l (r * n) vs))) (sym k) ∙ sets_read l (r * n) vs (omega (arith, within r m n h))

-- and another row's run stays.
pub run_elsewhere : (l : List ℕ) (n r s : ℕ) (vs : List ℕ) → length vs ≡ n → (s ≡ r → ⊥) → take n (drop (s * n) (sets l (r * n) vs)) ≡ take n (drop (s * n) l)
run_elsewhere l n r s vs k ne =
    bool_cases (ltb s r)
    (λ t. sets_before l (r * n) vs (s * n) n (within s r n (ltb-true s r t)))
    (λ t. let h = ltb-false s r t in ap (take n) (sets_behind l (r * n) vs (s * n) (omega (arith, within r s n (omega arith)))))

-- ---- rows and links as they were

-- u has v's root, ids, kinds and links
pub record Alike (v u : View) : Type 0 where
  pub root_same : u.root ≡ v.root
  pub id_same : u.id ≡ v.id
  pub kind_same : u.kind ≡ v.kind
  pub from_same : u.link_from ≡ v.link_from
  pub to_same : u.link_to ≡ v.link_to

module _ (v u : View) (a : Alike v u) where
  -- The same ids have the same rows,
  pub row_alike : (o : ℕ) → row_of u o ≡ row_of v o
  unfolding row_of
  row_alike o = λ i. first row_count (λ r. both (not (eqb (get_or (a.kind_same i) r 0) 0)) (eqb (get_or (a.id_same i) r 0) o))

  -- and the same pairs are linked.
  pub linked_alike : (x y : List ℕ) (d o : ℕ) → (world_of u y).linked d o ≡ (world_of v x).linked d o
  unfolding world_of
  linked_alike x y d o = λ i. any link_count (λ l.
      both (not (eqb (get_or (a.from_same i) l 0) 0))
      (both (eqb (get_or (a.id_same i) (get_or (a.from_same i) l 0 - 1) 0) d) (eqb (get_or (a.id_same i) (get_or (a.to_same i) l 0) 0) o)))

  -- What is in use in u is in use in v.
  pub live_alike : (r : ℕ) → Live u r → Live v r
  live_alike r x = record { low = x.low; used = λ e. x.used (ap (λ (l : List ℕ). get_or l r 0) a.kind_same ∙ e) }

  pub on_alike : (l : ℕ) → On u l → On v l
  on_alike l x = record { low = x.low; used = λ e. x.used (ap (λ (t : List ℕ). get_or t l 0) a.from_same ∙ e) }

-- ---- the next number moves on

module _ (v : View) where
  -- Rows, objects, links and the root stay; the number is one more.
  pub moved_row : (o : ℕ) → row_of (moved_on v) o ≡ row_of v o
  unfolding moved_on row_of
  moved_row o = refl

  pub moved_object : (area : List ℕ) (r : ℕ) → object_at (moved_on v) area r ≡ object_at v area r
  unfolding moved_on object_at bytes_of place_of block_at
  moved_object area r = refl

  pub moved_linked : (area : List ℕ) (d o : ℕ) → (world_of (moved_on v) area).linked d o ≡ (world_of v area).linked d o
  unfolding moved_on world_of
  moved_linked area d o = refl

  pub moved_root : root_of (moved_on v) ≡ root_of v
  unfolding moved_on
  moved_root = refl

  pub moved_next : length v.next ≡ 1 → next_of (moved_on v) ≡ suc (next_of v)
  unfolding moved_on
  moved_next h = get_or-set_same v.next 0 (next_of v + 1) 0 (omega arith) ∙ add-one (next_of v)

  -- The tables keep their lengths.
  pub moved_shape : Shape v → Shape (moved_on v)
  unfolding moved_on
  moved_shape z = put_shape next_t 0 (next_of v + 1) v z

  -- Where only the number moves on, the world is kept.
  pub keep_world : (area : List ℕ) → Shape v → world_of (moved_on v) area ≡ apply keep (world_of v area)
  unfolding world_of apply
  keep_world area z =
      world_ext (world_of (moved_on v) area) (apply keep (world_of v area)) (moved_next (z.long next_t)) moved_root
      (λ o. found_cases (row_of v o)
      (λ r e. obj_found (moved_on v) area o r (moved_row o ∙ e) ∙ moved_object area r ∙ sym (obj_found v area o r e))
      (λ e. obj_missing (moved_on v) area o (moved_row o ∙ e) ∙ sym (obj_missing v area o e)))
      (moved_linked area)

-- ---- one object is altered

-- u and its area y have v's next number, rows and links; the object at row r is edited, those at other live rows are as in v with x
pub record Altered (v u : View) (x y : List ℕ) (r : ℕ) (e : Edit) : Type 0 where
  pub next_same : u.next ≡ v.next
  pub alike : Alike v u
  pub here : object_at u y r ≡ edit e (object_at v x r)
  pub elsewhere : (s : ℕ) → Live v s → (s ≡ r → ⊥) → object_at u y s ≡ object_at v x s

module _ (v u : View) (x y : List ℕ) (r : ℕ) (e : Edit) (p : Placed v) (a : Live v r) (h : Altered v u x y r e) where
  altered_here : (j : ℕ) → j ≡ id_of v r → (world_of (moved_on u) y).obj j ≡ edit e ((world_of v x).obj (id_of v r))
  altered_here j q =
      obj_found (moved_on u) y j r (moved_row u j ∙ row_alike v u h.alike j ∙ ap (row_of v) q ∙ row_found v p r a)
      ∙ moved_object u y r ∙ h.here ∙ ap (edit e) (sym (obj_at v x p r a))

  altered_elsewhere : (j : ℕ) → (j ≡ id_of v r → ⊥) → (world_of (moved_on u) y).obj j ≡ (world_of v x).obj j
  altered_elsewhere j ne =
      found_cases (row_of v j)
      (λ s q. let (b, i) = row_is v j s q in
      obj_found (moved_on u) y j s (moved_row u j ∙ row_alike v u h.alike j ∙ q) ∙ moved_object u y s
      ∙ h.elsewhere s b (λ z. ne (sym i ∙ ap (id_of v) z)) ∙ sym (obj_found v x j s q))
      (λ q. obj_missing (moved_on u) y j (moved_row u j ∙ row_alike v u h.alike j ∙ q) ∙ sym (obj_missing v x j q))

  -- The world after is the world before with that object edited.
  pub altered_world : Shape v → world_of (moved_on u) y ≡ apply (alter (id_of v r) e) (world_of v x)
  unfolding world_of apply
  altered_world z =
      world_ext (world_of (moved_on u) y) (apply (alter (id_of v r) e) (world_of v x))
      (moved_next u (ap (λ (l : List ℕ). length l) h.next_same ∙ z.long next_t) ∙ ap (λ (l : List ℕ). suc (get_or l 0 0)) h.next_same)
      (moved_root u ∙ ap (λ (l : List ℕ). get_or l 0 0) h.alike.root_same)
      (λ j. elim (ℕ_discrete j (id_of v r)) [
        | yes q ↦ altered_here j q ∙ sym (put_same (id_of v r) (edit e ((world_of v x).obj (id_of v r))) (world_of v x).obj j q)
        | no q ↦ altered_elsewhere j q ∙ sym (put_other (id_of v r) (edit e ((world_of v x).obj (id_of v r))) (world_of v x).obj j q)
      ])
      (λ d o. moved_linked u y d o ∙ linked_alike v u h.alike x y d o)

-- ---- new labels

module _ (v : View) (z : Shape v) (r : ℕ) (l c : Label) where
  -- A row's label is the new one,
  pub label_here : r < row_count → length l.words ≡ word_count → label_of (relabelled r l c v) r ≡ l
  unfolding relabelled
  label_here h k =
      label_ext (label_of (relabelled r l c v) r) l
      (get_or-set_same v.label_default r l.default 0 (omega (arith, z.long label_default_t)))
      (run_here v.label_words row_count word_count r l.words (z.long label_words_t) h k)

  pub clearance_here : r < row_count → length c.words ≡ word_count → clearance_of (relabelled r l c v) r ≡ c
  unfolding relabelled
  clearance_here h k =
      label_ext (clearance_of (relabelled r l c v) r) c
      (get_or-set_same v.clear_default r c.default 0 (omega (arith, z.long clear_default_t)))
      (run_here v.clear_words row_count word_count r c.words (z.long clear_words_t) h k)

  -- another's stays.
  pub label_elsewhere : (s : ℕ) → (s ≡ r → ⊥) → length l.words ≡ word_count → label_of (relabelled r l c v) s ≡ label_of v s
  unfolding relabelled
  label_elsewhere s ne k =
      label_ext (label_of (relabelled r l c v) s) (label_of v s)
      (get_or-set_other v.label_default r s l.default 0 ne)
      (run_elsewhere v.label_words word_count r s l.words k ne)

  pub clearance_elsewhere : (s : ℕ) → (s ≡ r → ⊥) → length c.words ≡ word_count → clearance_of (relabelled r l c v) s ≡ clearance_of v s
  unfolding relabelled
  clearance_elsewhere s ne k =
      label_ext (clearance_of (relabelled r l c v) s) (clearance_of v s)
      (get_or-set_other v.clear_default r s c.default 0 ne)
      (run_elsewhere v.clear_words word_count r s c.words k ne)

  -- The tables keep their lengths.
  pub relabelled_shape : Shape (relabelled r l c v)
  unfolding relabelled
  relabelled_shape =
      run_shape clear_words_t (r * word_count) c.words (put_t clear_default_t r c.default (run_t label_words_t (r * word_count) l.words (put_t label_default_t r l.default v)))
      (put_shape clear_default_t r c.default (run_t label_words_t (r * word_count) l.words (put_t label_default_t r l.default v))
      (run_shape label_words_t (r * word_count) l.words (put_t label_default_t r l.default v) (put_shape label_default_t r l.default v z)))

module _ (v : View) (area : List ℕ) (r : ℕ) (l c : Label) where
  -- what new labels leave of an object
  relabelled_object : (s : ℕ) (m d : Label) → label_of (relabelled r l c v) s ≡ m
      → cond (has_clearance (kind_from (code_of v s))) (clearance_of (relabelled r l c v) s) blank ≡ d
      → object_at (relabelled r l c v) area s ≡ edit (relabel m d) (object_at v area s)
  unfolding relabelled object_at bytes_of place_of block_at edit
  relabelled_object s m d e f = ap₂ (λ (x y : Label). edit (relabel x y) (object_at v area s)) e f

  -- The labels of a thread or gate are edited.
  pub relabelled_altered : Shape v → Live v r → ThreadOrGate (code_of v r) → length l.words ≡ word_count → length c.words ≡ word_count
      → Altered v (relabelled r l c v) area area r (relabel l c)
  unfolding relabelled object_at edit
  relabelled_altered z a k m n =
      record {
        next_same = refl;
        alike = record { root_same = refl; id_same = refl; kind_same = refl; from_same = refl; to_same = refl };
        here =
            relabelled_object r l c (label_here v z r l c a.low m)
            (ap₂ (λ (b : Bool) (d : Label). cond b d blank) (cleared_from (code_of v r) a.used ∙ le-leb (code_of v r) gate_code k) (clearance_here v z r l c a.low n));
        elsewhere = λ s b ne.
            relabelled_object s (label_of v s) (object_at v area s).clearance (label_elsewhere v z r l c s ne m)
            (ap (λ (d : Label). cond (has_clearance (kind_from (code_of v s))) d blank) (clearance_elsewhere v z r l c s ne n));
      }

-- ---- a quota is fixed

-- an object whose quota is fixed or not
abbrev marked : Bool → Obj → Obj
marked b x = altered x x.label x.clearance x.quota b x.bytes

module _ (v : View) (z : Shape v) (r : ℕ) where
  -- A row's mark is set, another's stays, and the tables keep their lengths.
  pub fixed_here : r < row_count → fixed_of (fixed_at r v) r ≡ 1
  unfolding fixed_at
  fixed_here h = get_or-set_same v.fixed r 1 0 (omega (arith, z.long fixed_t))

  pub fixed_elsewhere : (s : ℕ) → (s ≡ r → ⊥) → fixed_of (fixed_at r v) s ≡ fixed_of v s
  unfolding fixed_at
  fixed_elsewhere s ne = get_or-set_other v.fixed r s 1 0 ne

  pub fixed_shape : Shape (fixed_at r v)
  unfolding fixed_at
  fixed_shape = put_shape fixed_t r 1 v z

module _ (v : View) (area : List ℕ) (r : ℕ) where
  -- what fixing leaves of an object
  fixed_object : (s : ℕ) (b : Bool) → cond (is_segment (kind_from (code_of v s))) (eqb (fixed_of (fixed_at r v) s) 1) false ≡ b
      → object_at (fixed_at r v) area s ≡ marked b (object_at v area s)
  unfolding fixed_at object_at bytes_of place_of block_at
  fixed_object s b e = ap (λ (t : Bool). marked t (object_at v area s)) e

  -- A segment's quota is fixed.
  pub fixed_altered : Shape v → Live v r → code_of v r ≡ segment_code → Altered v (fixed_at r v) area area r fix
  unfolding fixed_at object_at edit
  fixed_altered z a k =
      record {
        next_same = refl;
        alike = record { root_same = refl; id_same = refl; kind_same = refl; from_same = refl; to_same = refl };
        here =
            fixed_object r true
            (ap₂ (λ (b t : Bool). cond b t false) (segment_from (code_of v r) ∙ eq-eqb (code_of v r) segment_code k) (eq-eqb (fixed_of (fixed_at r v) r) 1 (fixed_here v z r a.low)));
        elsewhere = λ s b ne.
            fixed_object s (object_at v area s).fixed
            (ap (λ (n : ℕ). cond (is_segment (kind_from (code_of v s))) (eqb n 1) false) (fixed_elsewhere v z r s ne));
      }

-- ---- a quota is moved

module _ (v : View) (z : Shape v) (r q : ℕ) where
  -- A row's quota is the new one, another's stays, and the tables keep their lengths.
  pub quota_here : r < row_count → quota_of (requotaed r q v) r ≡ q
  unfolding requotaed
  quota_here h = get_or-set_same v.quota r q 0 (omega (arith, z.long quota_t))

  pub quota_elsewhere : (s : ℕ) → (s ≡ r → ⊥) → quota_of (requotaed r q v) s ≡ quota_of v s
  unfolding requotaed
  quota_elsewhere s ne = get_or-set_other v.quota r s q 0 ne

  pub requotaed_shape : Shape (requotaed r q v)
  unfolding requotaed
  requotaed_shape = put_shape quota_t r q v z

module _ (v : View) (area : List ℕ) (r q : ℕ) where
  -- what a moved quota leaves of an object
  requotaed_object : (s n : ℕ) → quota_of (requotaed r q v) s ≡ n → object_at (requotaed r q v) area s ≡ edit (requota n) (object_at v area s)
  unfolding requotaed object_at bytes_of place_of block_at edit
  requotaed_object s n e = ap (λ (q : ℕ). edit (requota q) (object_at v area s)) e

  -- An object's quota is moved.
  pub requotaed_altered : Shape v → Live v r → Altered v (requotaed r q v) area area r (requota q)
  unfolding requotaed object_at edit
  requotaed_altered z a =
      record {
        next_same = refl;
        alike = record { root_same = refl; id_same = refl; kind_same = refl; from_same = refl; to_same = refl };
        here = requotaed_object r q (quota_here v z r q a.low);
        elsewhere = λ s b ne. requotaed_object s (quota_of v s) (quota_elsewhere v z r q s ne);
      }

-- ---- the worlds after

module _ (v : View) (area : List ℕ) (p : Placed v) (z : Shape v) (r : ℕ) (a : Live v r) where
  -- What is left is the world with the object's labels edited,
  pub relabelled_world : (l c : Label) → ThreadOrGate (code_of v r) → length l.words ≡ word_count → length c.words ≡ word_count
      → world_of (moved_on (relabelled r l c v)) area ≡ apply (alter (id_of v r) (relabel l c)) (world_of v area)
  relabelled_world l c k m n = altered_world v (relabelled r l c v) area area r (relabel l c) p a (relabelled_altered v area r l c z a k m n) z

  -- its quota fixed,
  pub fixed_world : code_of v r ≡ segment_code → world_of (moved_on (fixed_at r v)) area ≡ apply (alter (id_of v r) fix) (world_of v area)
  fixed_world k = altered_world v (fixed_at r v) area area r fix p a (fixed_altered v area r z a k) z

  -- or its quota moved.
  pub requotaed_world : (q : ℕ) → world_of (moved_on (requotaed r q v)) area ≡ apply (alter (id_of v r) (requota q)) (world_of v area)
  requotaed_world q = altered_world v (requotaed r q v) area area r (requota q) p a (requotaed_altered v area r q z a) z

-- ---- positions

-- u has also v's lengths and blocks, and its fixed marks are in range
pub record AlikePlaced (v u : View) : Type 0 where
  pub alike : Alike v u
  pub len_same : u.len ≡ v.len
  pub owner_same : u.owner ≡ v.owner
  pub index_same : u.index ≡ v.index
  pub fixed_most : (r : ℕ) → Live v r → code_of v r ≡ segment_code → fixed_of u r ≤ 1

module _ (v u : View) (k : AlikePlaced v u) where
  live_back : (r : ℕ) → Live v r → Live u r
  live_back r x = record { low = x.low; used = λ e. x.used (sym (ap (λ (l : List ℕ). get_or l r 0) k.alike.kind_same) ∙ e) }

  used_alike : (b : ℕ) → Used u b → Used v b
  used_alike b x = record { low = x.low; used = λ e. x.used (ap (λ (l : List ℕ). get_or l b 0) k.owner_same ∙ e) }

  owned_alike : (b : ℕ) → Owned v b → Owned u b
  owned_alike b x =
      let o : owner_of u b ≡ owner_of v b = ap (λ (l : List ℕ). get_or l b 0) k.owner_same in
      let i : index_of u b ≡ index_of v b = ap (λ (l : List ℕ). get_or l b 0) k.index_same in
      let n : blocks_of (len_of u (owner_of u b - 1)) ≡ blocks_of (len_of v (owner_of v b - 1)) =
      ap₂ (λ (l m : List ℕ). blocks_of (get_or l (get_or m b 0 - 1) 0)) k.len_same k.owner_same in
      record {
        owner_low = omega (arith, x.owner_low);
        owner_segment = ap₂ (λ (l m : List ℕ). get_or l (get_or m b 0 - 1) 0) k.alike.kind_same k.owner_same ∙ x.owner_segment;
        within = omega (arith, x.within);
      }

  held_alike : (r n : ℕ) → times_held u r n ≡ times_held v r n
  unfolding times_held
  held_alike r n =
      ap₂ (λ (l m : List ℕ). Σ block_count (λ b. when (both (eqb (get_or l b 0) (r + 1)) (eqb (get_or m b 0) n)) 1)) k.owner_same k.index_same

  -- Positions that were in order are so still.
  pub placed_alike : Placed v → Placed u
  placed_alike p =
      let a = k.alike in
      record {
        code_most = λ r x. subst (λ (l : List ℕ). get_or l r 0 ≤ max_code) (sym a.kind_same) (p.code_most r (live_alike v u a r x));
        fixed_most = λ r x e. k.fixed_most r (live_alike v u a r x) (subst (λ (l : List ℕ). get_or l r 0 ≡ segment_code) a.kind_same e);
        ids_apart = λ r s x y h e.
            p.ids_apart r s (live_alike v u a r x) (live_alike v u a s y) h (subst (λ (l : List ℕ). get_or l r 0 ≡ get_or l s 0) a.id_same e);
        from_live = λ l x.
            subst (λ (t : List ℕ). Live u (get_or t l 0 - 1)) (sym a.from_same) (live_back (from_of v l) (p.from_live l (on_alike v u a l x)));
        to_live = λ l x. subst (λ (t : List ℕ). Live u (get_or t l 0)) (sym a.to_same) (live_back (to_of v l) (p.to_live l (on_alike v u a l x)));
        links_apart = λ l m x y h e f.
            p.links_apart l m (on_alike v u a l x) (on_alike v u a m y) h
            (subst (λ (t : List ℕ). get_or t l 0 - 1 ≡ get_or t m 0 - 1) a.from_same e)
            (subst (λ (t : List ℕ). get_or t l 0 ≡ get_or t m 0) a.to_same f);
        owned = λ b x. owned_alike b (p.owned b (used_alike b x));
        blocks_once = λ r x e n h.
            held_alike r n
            ∙ p.blocks_once r (live_alike v u a r x) (subst (λ (l : List ℕ). get_or l r 0 ≡ segment_code) a.kind_same e) n
            (subst (λ (l : List ℕ). n < blocks_of (get_or l r 0)) k.len_same h);
      }

-- Positions stay in order where the number moves on,
pub moved_placed : (v : View) → Placed v → Placed (moved_on v)
unfolding moved_on
moved_placed v p =
    placed_alike v (moved_on v)
    (record {
      alike = record { root_same = refl; id_same = refl; kind_same = refl; from_same = refl; to_same = refl };
      len_same = refl;
      owner_same = refl;
      index_same = refl;
      fixed_most = p.fixed_most;
    }) p

-- under new labels,
pub relabelled_placed : (v : View) (r : ℕ) (l c : Label) → Placed v → Placed (relabelled r l c v)
unfolding relabelled
relabelled_placed v r l c p =
    placed_alike v (relabelled r l c v)
    (record {
      alike = record { root_same = refl; id_same = refl; kind_same = refl; from_same = refl; to_same = refl };
      len_same = refl;
      owner_same = refl;
      index_same = refl;
      fixed_most = p.fixed_most;
    }) p

-- with a quota fixed,
pub fixed_placed : (v : View) (r : ℕ) → Shape v → Placed v → Placed (fixed_at r v)
unfolding fixed_at
fixed_placed v r z p =
    placed_alike v (fixed_at r v)
    (record {
      alike = record { root_same = refl; id_same = refl; kind_same = refl; from_same = refl; to_same = refl };
      len_same = refl;
      owner_same = refl;
      index_same = refl;
      fixed_most = λ s x e. elim (ℕ_discrete s r) [
        | yes q ↦ omega (arith, ap (fixed_of (fixed_at r v)) q, fixed_here v z r (omega (arith, x.low)))
        | no q ↦ omega (arith, fixed_elsewhere v z r s q, p.fixed_most s x e)
      ];
    }) p

-- and with a quota moved.
pub requotaed_placed : (v : View) (r q : ℕ) → Placed v → Placed (requotaed r q v)
unfolding requotaed
requotaed_placed v r q p =
    placed_alike v (requotaed r q v)
    (record {
      alike = record { root_same = refl; id_same = refl; kind_same = refl; from_same = refl; to_same = refl };
      len_same = refl;
      owner_same = refl;
      index_same = refl;
      fixed_most = p.fixed_most;
    }) p
