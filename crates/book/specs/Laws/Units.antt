-- Units of a row: as the code counts them, and as the world has them.
use Rattle.std.specs.Prelude.{ℕ, ◌+◌, ◌-◌, ◌≤◌, Bool, ◌≡◌, refl, List, eqb}
use Rattle.std.proofs.Common.{arith, sym, ◌∙◌, eqb-true, eq-eqb, ne_eqb}
use Rattle.std.proofs.Math.Bool.{cond}
use Rattle.std.proofs.Math.Path.{ap, ap₂}
use Rattle.std.proofs.lemmas.Bool.{eqb-false}
use Rattle.quotas.specs.Sum.{Σ, sum_more}
use Rattle.rules.specs.Kernel.{segment_code, container_code, use_of, spare_of, units}
use Rattle.rules.proofs.Laws.Bools.{bool_cases}
use Rattle.tables.specs.Layout.{View, link_count}
use Rattle.book.specs.Book.{id_of, code_of, quota_of, len_of, world_of}
use Rattle.book.specs.Sound.{Live, Sound, charged_to}
use Rattle.book.specs.Units.{charge_of, use_at, spare_at}
use Rattle.book.specs.Laws.Tie.{quota_at, use_container_at, use_segment_at, use_cleared_at}
use Rattle.book.specs.Laws.SoundBy.{placed}

-- ---- what the links charge

-- no link
pub charged_none : (v : View) (c : ℕ) → 0 ≡ Σ 0 (charge_of v c)
unfolding Σ
charged_none v c = refl

-- one link more
pub charged_more : (v : View) (c i x y : ℕ) → x ≡ Σ i (charge_of v c) → y ≡ charge_of v c i → x + y ≡ Σ (i + 1) (charge_of v c)
charged_more v c i x y e f = ap₂ (λ (a b : ℕ). a + b) e f ∙ sym (sum_more i (charge_of v c))

-- all of them
pub charged_all : (v : View) (c i x : ℕ) → x ≡ Σ i (charge_of v c) → i ≡ link_count → x ≡ charged_to v c
unfolding charged_to
charged_all v c i x e f = e ∙ ap (λ (n : ℕ). Σ n (charge_of v c)) f

-- ---- what a row uses, by its kind

module _ (v : View) (r : ℕ) where
  pub use_container_row : code_of v r ≡ container_code → use_at v r ≡ 1 + charged_to v r
  unfolding use_at
  use_container_row e = ap (λ (t : Bool). cond t (1 + charged_to v r) (cond (eqb (code_of v r) segment_code) (units (len_of v r)) 1)) (eq-eqb (code_of v r) container_code e)

  pub use_segment_row : code_of v r ≡ segment_code → use_at v r ≡ units (len_of v r)
  unfolding use_at
  use_segment_row e =
      ap₂ (λ (s t : Bool). cond s (1 + charged_to v r) (cond t (units (len_of v r)) 1)) (ne_eqb (code_of v r) container_code (λ z. omega arith)) (eq-eqb (code_of v r) segment_code e)

  pub use_other_row : (code_of v r ≡ container_code → ⊥) → (code_of v r ≡ segment_code → ⊥) → use_at v r ≡ 1
  unfolding use_at
  use_other_row ne nf =
      ap₂ (λ (s t : Bool). cond s (1 + charged_to v r) (cond t (units (len_of v r)) 1)) (ne_eqb (code_of v r) container_code ne) (ne_eqb (code_of v r) segment_code nf)

module _ (v : View) (s : Sound v) (r : ℕ) (a : Live v r) where
  -- by which of the three the kind is
  by_kind : {C : Type 0} → (code_of v r ≡ container_code → C) → (code_of v r ≡ segment_code → C) → ((code_of v r ≡ container_code → ⊥) → (code_of v r ≡ segment_code → ⊥) → C) → C
  by_kind f g h =
      bool_cases (eqb (code_of v r) container_code) (λ t. f (eqb-true (code_of v r) container_code t))
      (λ t. bool_cases (eqb (code_of v r) segment_code) (λ u. g (eqb-true (code_of v r) segment_code u)) (λ u. h (eqb-false (code_of v r) container_code t) (eqb-false (code_of v r) segment_code u)))

  -- RULES 5.8: "No object uses more units than its quota has."
  pub use_within : use_at v r ≤ quota_of v r
  use_within =
      by_kind (λ e. omega (arith, use_container_row v r e, s.container_fits r a e))
      (λ e. omega (arith, use_segment_row v r e, s.segment_fits r a e))
      (λ ne nf. omega (arith, use_other_row v r ne nf, (s.ranges r a).quota_some))

  -- What the object at the row uses in the world,
  pub use_at_lem : (area : List ℕ) → use_of (world_of v area) (id_of v r) ≡ use_at v r
  use_at_lem area =
      by_kind (λ e. use_container_at v area (placed v s) s.ids_below r a e ∙ sym (use_container_row v r e))
      (λ e. use_segment_at v area (placed v s) r a e ∙ sym (use_segment_row v r e))
      (λ ne nf. use_cleared_at v area (placed v s) r a (omega (arith, (s.ranges r a).code_most)) ∙ sym (use_other_row v r ne nf))

  -- and what it has to spare.
  pub spare_at_lem : (area : List ℕ) → spare_of (world_of v area) (id_of v r) ≡ spare_at v r
  unfolding spare_of spare_at
  spare_at_lem area = ap₂ (λ (m n : ℕ). m - n) (quota_at v area (placed v s) r a) (use_at_lem area)
