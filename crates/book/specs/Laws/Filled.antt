-- A filled row: the new object stands in it, and every other row is as it was.
use Rattle.std.specs.Prelude.{ℕ, ◌*◌, ◌<◌, ◌≡◌, length, replicate}
use Rattle.std.proofs.Common.{arith, ◌∙◌, length-append, length-take-le}
use Rattle.std.proofs.Math.Path.{refl, ap, ap₂}
use mathlib.Core.List.{List, [], ◌++◌}
use Rattle.std.proofs.Math.ListN.{get_or}
use Rattle.std.proofs.lemmas.List.{length-replicate}
use Rattle.std.proofs.Math.Seq.{get_or-set_same, get_or-set_other}
use Rattle.std.proofs.Math.Dec.{eqb}
use Rattle.labels.specs.declared.Label.{Label}
use Rattle.labels.specs.Core.{word_count}
use Rattle.rules.specs.Kernel.{Obj, kind_code, is_thread, is_gate, is_segment, is_container, has_clearance, thread_of, gate_of, segment_of, container_of, text_size, plain_object}
use Rattle.tables.specs.Layout.{View, row_count, id_t, kind_t, mask_t, fixed_t, quota_t, len_t, entry_t, label_default_t, label_words_t, clear_default_t, clear_words_t, description_t, closure_t}
use Rattle.book.specs.Book.{id_of, code_of, mask_of, fixed_of, quota_of, len_of, entry_of, label_of, clearance_of, description_of, closure_of, collect, place_of, block_at, bytes_of}
use Rattle.book.specs.Book.{kind_from, object_at, of_kind, standing}
use Rattle.book.specs.Shape.{Shape}
use Rattle.book.specs.Enact.{padded, relabelled, row_filled}
use Rattle.labels.specs.Core.Same.{label_ext}
use Rattle.rules.proofs.Laws.Kinds.{kind_from_lem}
use Rattle.rules.proofs.Laws.Worlds.{obj_ext}
use Rattle.book.specs.Laws.Shapes.{put_shape, run_shape}
use Rattle.book.specs.Laws.Alter.{run_here, run_elsewhere, relabelled_shape}
use Rattle.book.specs.Laws.Handed.{padded_all}

padded_long : (n : ℕ) (l : List ℕ) → length (padded n l) ≡ n
unfolding padded
padded_long n l = length-take-le n (l ++ replicate n 0) (omega (arith, length-append l (replicate n 0), length-replicate {A = ℕ} n 0))

-- ---- objects that a row can hold

-- what a row holds of an object as a create makes it
abbrev pub row_holds : Obj → Obj
row_holds x =
    plain_object x.kind x.label (record { default = x.clearance.default; words = padded word_count x.clearance.words })
    x.quota x.mask x.entry x.description (padded text_size x.closure)

-- An object as a create makes it: its row holds all of it.
pub record Fresh (x : Obj) : Type 0 where
  pub live : kind_code x.kind ≡ 0 → ⊥
  pub label_long : length x.label.words ≡ word_count
  pub description_long : length x.description ≡ text_size
  pub whole : of_kind (row_holds x) ≡ x

module _ (l : Label) (s : List ℕ) (long : length l.words ≡ word_count) (text : length s ≡ text_size) where
  -- Each of the four kinds is.
  pub container_fresh : (m q : ℕ) → Fresh (container_of l s m q)
  unfolding container_of kind_code has_clearance is_thread is_gate is_segment is_container
  container_fresh m q = record { live = λ e. omega arith; label_long = long; description_long = text; whole = refl }

  pub segment_fresh : (q : ℕ) → Fresh (segment_of l s q)
  unfolding segment_of kind_code has_clearance is_thread is_gate is_segment is_container
  segment_fresh q = record { live = λ e. omega arith; label_long = long; description_long = text; whole = refl }

  pub gate_fresh : (c : Label) → length c.words ≡ word_count → (e : ℕ) (x : List ℕ) → length x ≡ text_size → Fresh (gate_of l c e x s)
  unfolding gate_of kind_code has_clearance is_thread is_gate is_segment is_container
  gate_fresh c clong e x xlong =
      record {
        live = λ e. omega arith;
        label_long = long;
        description_long = text;
        whole =
            ap₂ (λ (w y : List ℕ). gate_of l (record { default = c.default; words = w }) e y s) (padded_all word_count c.words clong) (padded_all text_size x xlong);
      }

  pub thread_fresh : (c : Label) → length c.words ≡ word_count → Fresh (thread_of l c s)
  unfolding thread_of kind_code has_clearance is_thread is_gate is_segment is_container
  thread_fresh c clong =
      record {
        live = λ e. omega arith;
        label_long = long;
        description_long = text;
        whole = ap (λ (w : List ℕ). thread_of l (record { default = c.default; words = w }) s) (padded_all word_count c.words clong);
      }

-- ---- another row

module _ (v : View) (r id : ℕ) (x : Obj) (s : ℕ) (ne : s ≡ r → ⊥) where
  -- Its numbers stay,
  pub filled_id_other : id_of (row_filled r id x v) s ≡ id_of v s
  unfolding row_filled relabelled
  filled_id_other = get_or-set_other v.id r s id 0 ne

  pub filled_code_other : code_of (row_filled r id x v) s ≡ code_of v s
  unfolding row_filled relabelled
  filled_code_other = get_or-set_other v.kind r s (kind_code x.kind) 0 ne

  pub filled_fixed_other : fixed_of (row_filled r id x v) s ≡ fixed_of v s
  unfolding row_filled relabelled
  filled_fixed_other = get_or-set_other v.fixed r s 0 0 ne

  pub filled_len_other : len_of (row_filled r id x v) s ≡ len_of v s
  unfolding row_filled relabelled
  filled_len_other = get_or-set_other v.len r s 0 0 ne

  label_other : label_of (row_filled r id x v) s ≡ label_of v s
  unfolding row_filled relabelled
  label_other =
      label_ext (label_of (row_filled r id x v) s) (label_of v s) (get_or-set_other v.label_default r s x.label.default 0 ne)
      (run_elsewhere v.label_words word_count r s (padded word_count x.label.words) (padded_long word_count x.label.words) ne)

  clearance_other : clearance_of (row_filled r id x v) s ≡ clearance_of v s
  unfolding row_filled relabelled
  clearance_other =
      label_ext (clearance_of (row_filled r id x v) s) (clearance_of v s) (get_or-set_other v.clear_default r s x.clearance.default 0 ne)
      (run_elsewhere v.clear_words word_count r s (padded word_count x.clearance.words) (padded_long word_count x.clearance.words) ne)

  description_other : description_of (row_filled r id x v) s ≡ description_of v s
  unfolding row_filled relabelled
  description_other = run_elsewhere v.description text_size r s (padded text_size x.description) (padded_long text_size x.description) ne

  closure_other : closure_of (row_filled r id x v) s ≡ closure_of v s
  unfolding row_filled relabelled
  closure_other = run_elsewhere v.closure text_size r s (padded text_size x.closure) (padded_long text_size x.closure) ne

  -- and so does its object.
  pub filled_object_other : (area : List ℕ) → object_at (row_filled r id x v) area s ≡ object_at v area s
  unfolding row_filled relabelled object_at bytes_of place_of block_at
  filled_object_other area =
      ap of_kind
      (obj_ext (standing (row_filled r id x v) s (kind_from (code_of (row_filled r id x v) s)) (bytes_of (row_filled r id x v) area s))
      (standing v s (kind_from (code_of v s)) (bytes_of v area s))
      (ap kind_from filled_code_other)
      label_other
      clearance_other
      (get_or-set_other v.quota r s x.quota 0 ne)
      (ap (λ (n : ℕ). eqb n 1) filled_fixed_other)
      (get_or-set_other v.mask r s x.mask 0 ne)
      (ap (λ (n : ℕ). collect n (λ i. get_or area (place_of v s i) 0)) filled_len_other)
      (get_or-set_other v.entry r s x.entry 0 ne)
      description_other
      closure_other)

-- ---- the row itself

module _ (v : View) (z : Shape v) (r id : ℕ) (x : Obj) (h : r < row_count) where
  -- The new numbers stand in it,
  pub filled_id : id_of (row_filled r id x v) r ≡ id
  unfolding row_filled relabelled
  filled_id = get_or-set_same v.id r id 0 (omega (arith, z.long id_t))

  pub filled_code : code_of (row_filled r id x v) r ≡ kind_code x.kind
  unfolding row_filled relabelled
  filled_code = get_or-set_same v.kind r (kind_code x.kind) 0 (omega (arith, z.long kind_t))

  pub filled_fixed : fixed_of (row_filled r id x v) r ≡ 0
  unfolding row_filled relabelled
  filled_fixed = get_or-set_same v.fixed r 0 0 (omega (arith, z.long fixed_t))

  pub filled_len : len_of (row_filled r id x v) r ≡ 0
  unfolding row_filled relabelled
  filled_len = get_or-set_same v.len r 0 0 (omega (arith, z.long len_t))

  filled_quota : quota_of (row_filled r id x v) r ≡ x.quota
  unfolding row_filled relabelled
  filled_quota = get_or-set_same v.quota r x.quota 0 (omega (arith, z.long quota_t))

  filled_mask : mask_of (row_filled r id x v) r ≡ x.mask
  unfolding row_filled relabelled
  filled_mask = get_or-set_same v.mask r x.mask 0 (omega (arith, z.long mask_t))

  filled_entry : entry_of (row_filled r id x v) r ≡ x.entry
  unfolding row_filled relabelled
  filled_entry = get_or-set_same v.entry r x.entry 0 (omega (arith, z.long entry_t))

  filled_kind : kind_from (code_of (row_filled r id x v) r) ≡ x.kind
  filled_kind = ap kind_from filled_code ∙ kind_from_lem x.kind

  filled_label : length x.label.words ≡ word_count → label_of (row_filled r id x v) r ≡ x.label
  unfolding row_filled relabelled
  filled_label k =
      label_ext (label_of (row_filled r id x v) r) x.label (get_or-set_same v.label_default r x.label.default 0 (omega (arith, z.long label_default_t)))
      (run_here v.label_words row_count word_count r (padded word_count x.label.words) (z.long label_words_t) h (padded_long word_count x.label.words)
      ∙ padded_all word_count x.label.words k)

  filled_clearance : clearance_of (row_filled r id x v) r ≡ record { default = x.clearance.default; words = padded word_count x.clearance.words }
  unfolding row_filled relabelled
  filled_clearance =
      label_ext (clearance_of (row_filled r id x v) r) (record { default = x.clearance.default; words = padded word_count x.clearance.words })
      (get_or-set_same v.clear_default r x.clearance.default 0 (omega (arith, z.long clear_default_t)))
      (run_here v.clear_words row_count word_count r (padded word_count x.clearance.words) (z.long clear_words_t) h (padded_long word_count x.clearance.words))

  filled_description : length x.description ≡ text_size → description_of (row_filled r id x v) r ≡ x.description
  unfolding row_filled relabelled
  filled_description k =
      run_here v.description row_count text_size r (padded text_size x.description) (z.long description_t) h (padded_long text_size x.description)
      ∙ padded_all text_size x.description k

  filled_closure : closure_of (row_filled r id x v) r ≡ padded text_size x.closure
  unfolding row_filled relabelled
  filled_closure = run_here v.closure row_count text_size r (padded text_size x.closure) (z.long closure_t) h (padded_long text_size x.closure)

  -- a new segment has no bytes
  filled_bytes : (area : List ℕ) → bytes_of (row_filled r id x v) area r ≡ []
  unfolding bytes_of collect
  filled_bytes area = ap (λ (n : ℕ). collect n (λ i. get_or area (place_of (row_filled r id x v) r i) 0)) filled_len

  -- and the object there is the new one.
  pub filled_object : (area : List ℕ) → Fresh x → object_at (row_filled r id x v) area r ≡ x
  unfolding object_at
  filled_object area f =
      ap of_kind
      (obj_ext (standing (row_filled r id x v) r (kind_from (code_of (row_filled r id x v) r)) (bytes_of (row_filled r id x v) area r)) (row_holds x)
      filled_kind
      (filled_label f.label_long)
      filled_clearance
      filled_quota
      (ap (λ (n : ℕ). eqb n 1) filled_fixed)
      filled_mask
      (filled_bytes area)
      filled_entry
      (filled_description f.description_long)
      filled_closure)
      ∙ f.whole

  -- The tables keep their lengths.
  pub filled_shape : Shape (row_filled r id x v)
  unfolding row_filled
  filled_shape =
      run_shape closure_t (r * text_size) (padded text_size x.closure) _
      (run_shape description_t (r * text_size) (padded text_size x.description) _
      (relabelled_shape _
      (put_shape entry_t r x.entry _ (put_shape len_t r 0 _ (put_shape quota_t r x.quota _ (put_shape fixed_t r 0 _
      (put_shape mask_t r x.mask _ (put_shape kind_t r (kind_code x.kind) _ (put_shape id_t r id v z)))))))
      r (record { default = x.label.default; words = padded word_count x.label.words })
      (record { default = x.clearance.default; words = padded word_count x.clearance.words })))
