-- Call 4: the verdict at each way out, and what the making leaves.
use Rattle.std.specs.Prelude.{ℕ, ◌<◌, ◌≤◌, true, ◌&&◌, ◌≡◌, List, [], ◌∷◌, length, replicate, ⊤, Option, MatchOption, Result, Ok, Err, Some}
use Rattle.std.proofs.Common.{arith, ap, ◌∙◌, leb-true}
use Rattle.std.specs.Option.{ok_or}
use Rattle.std.specs.Result.{IsErr, IsErrAnd}
use Rattle.std.proofs.Math.Bool.{false}
use Rattle.std.proofs.Math.Path.{refl, sym, ap₂, subst}
use Rattle.std.specs.Int.Bits.{bit_or}
use Rattle.std.proofs.lemmas.Nat.{or_lt}
use Rattle.std.proofs.Math.Dec.{leb}
use Rattle.labels.specs.declared.Label.{Label}
use Rattle.labels.specs.declared.LabelRef.{LabelRef}
use Rattle.labels.specs.Core as core
use Rattle.labels.specs.Core.Bytes.{label_of_length}
use Rattle.labels.specs.Core.Formed.{and_l, and_r}
use Rattle.rules.specs.Kernel.{container_code, mask_width, kind_code, flow, judge, good_arguments, good_label}
use Rattle.rules.specs.Kernel.{good_text, max_mask, max_quota, text_size, or_default, container_default, container_of, create_container}
use Rattle.tables.specs.Layout.{view}
use Rattle.book.specs.declared.make.NewRow.{NewRow}
use Rattle.book.specs.Book.{next_of, label_of, clearance_of, mask_of, world_of}
use Rattle.book.specs.Find.{container_row}
use Rattle.book.specs.Make.{object_of, Handed, Creating, created_in}
use Rattle.book.specs.Laws.Find.{kind_row}
use Rattle.book.specs.Laws.Handed.{container_handed, row_is_container}
use Rattle.calls.specs.declared.Refusal.{Refusal}
use Rattle.calls.specs.declared.Refusal.TheVariants.{BadArgument}
use Rattle.calls.specs.Conditions.{tested}
use Rattle.calls.specs.Outcome.{verdict_on, Ready, Means, Done}
use Rattle.calls.specs.Begun.{Caller}
use Rattle.calls.specs.Lookup.{open_container}
use Rattle.calls.specs.Creating.{plain_conditions, admitted, ToMake}
use Rattle.calls.specs.CreateContainer.{new_container, container_row_of, ContainerJudged}
use Rattle.calls.specs.Laws.Arguments.{good_default, good_text_long, lent_long}
use Rattle.calls.specs.Laws.Begun.{caller_four, caller_label, caller_clearance}
use Rattle.calls.specs.Laws.Leave.{told, told_on, told_none}
use Rattle.calls.specs.Laws.Creating.{create_five, create_judged, default_most, creating, made_done}
use Rattle.calls.specs.Laws.Lookup.{mask_at}
use Rattle.calls.specs.Laws.Prelude.{book_sound}

module _ (w b area l s : List ℕ) (c t d m q : ℕ) (same : w ≡ b) (by : Caller w area c t) where
  -- bad arguments: 4
  pub container_four : (o : Option LabelRef) (well : LabelRef → Type 0)
      → MatchOption o ((good_label (next_of (view w)) false l && (good_text s && (leb m max_mask && leb q max_quota))) ≡ false) well → (f : Refusal) → ok_or o BadArgument ≡ Err f
      → (r : Result (ℕ × Label) Refusal) → IsErr r × IsErrAnd r (λ y. y ≡ f) → ContainerJudged b area c d l s m q r
  unfolding good_arguments
  container_four o well h f e r on =
      subst (λ (z : List ℕ). ContainerJudged z area c d l s m q r) same
      (told_none _ r on o well BadArgument h e (λ bad. told (caller_four w area c t by (create_container d l s m q) bad) by.ready))

  module _ (good : (good_label (next_of (view w)) false l && (good_text s && (leb m max_mask && leb q max_quota))) ≡ true) where
    arguments : good_arguments (next_of (view w)) (create_container d l s m q) ≡ true
    unfolding good_arguments
    arguments = good

    -- no container that is open: 5
    pub container_five : (f : Refusal) → open_container (view w) t d ≡ Err f → (r : Result (ℕ × Label) Refusal) → IsErr r × IsErrAnd r (λ y. y ≡ f) → ContainerJudged b area c d l s m q r
    unfolding judge
    container_five f shut r on =
        subst (λ (z : List ℕ). ContainerJudged z area c d l s m q r) same
        (told_on _ r on (create_five w area c t by (create_container d l s m q) d (new_container (world_of (view w) area) d l s m q)
        (flow (core.label_of l) ((world_of (view w) area).obj c).clearance ∷ []) arguments refl f shut))

    -- what the answer of admitting means, of a book with the bytes z
    abbrev answered : List ℕ → Result ℕ Refusal → Type 0
    answered z = Means z area (verdict_on z area c (create_container d l s m q)) (ToMake z area c (create_container d l s m q) d (new_container (world_of (view z) area) d l s m q))

    -- one that is, at row `at`: what is shared decides
    module _ (at : ℕ) (o : open_container (view w) t d ≡ Ok at) (allowed : Result ⊤ Refusal)
        (e : allowed ≡ tested (plain_conditions (label_of (view w) t) (clearance_of (view w) t) (core.label_of l)))
        (units : ℕ) (f : units ≡ or_default q container_default) where
      shared : (r : Result ℕ Refusal) → r ≡ admitted (view w) t at container_code units allowed → answered b r
      unfolding judge container_of kind_code
      shared r h =
          subst (λ (z : List ℕ). answered z r) same
          (create_judged w area c t by (create_container d l s m q) d (new_container (world_of (view w) area) d l s m q)
          (flow (core.label_of l) ((world_of (view w) area).obj c).clearance ∷ []) arguments refl at o container_code units allowed
          (record {
            of_kind_lem = refl;
            units = sym f;
            conditions = ap₂ (λ (u k : Label). tested (plain_conditions u k (core.label_of l))) (caller_label w area c t by) (caller_clearance w area c t by) ∙ sym e;
          })
          r h)

      -- which refuses,
      pub container_refused : (g : Refusal) → admitted (view w) t at container_code units allowed ≡ Err g
          → (r : Result (ℕ × Label) Refusal) → IsErr r × IsErrAnd r (λ y. y ≡ g) → ContainerJudged b area c d l s m q r
      container_refused g h r on = told_on _ r on (shared (Err g) (sym h))

      -- or grants
      pub container_granted : (i : ℕ) → admitted (view w) t at container_code units allowed ≡ Ok i → (n : Label) → n ≡ core.label_of l → ContainerJudged b area c d l s m q (Ok (i, n))
      container_granted i h n same = let (ready, go) = shared (Ok i) (sym h) in (ready, (go, same))

-- what its judging needs at each way out but the granted one
pub ruleset ways_out = (container_four, container_five, container_refused, lent_long)

-- masks joined are a mask
pub masks_joined : (m n : ℕ) → m ≤ max_mask → n ≤ max_mask → bit_or m n < 256
masks_joined m n e f = let h = or_lt mask_width m n (omega arith) (omega arith) in omega arith

-- the container's own mask
pub outer_most : (b area : List ℕ) (d i n : ℕ) → Ready b area → container_row (view b) d ≡ Some i → n ≡ mask_of (view b) i → n ≤ max_mask
outer_most b area d i n ready e f =
    let (a, j, k) = kind_row container_code (view b) d i e in
    let h = ((book_sound b area ready.areas).ranges i a).mask_most k in
    omega arith

module _ (n : ℕ) (l s : List ℕ) (d m q : ℕ) (good : good_arguments n (create_container d l s m q) ≡ true) where
  label_good : good_label n false l ≡ true
  unfolding good_arguments
  label_good = and_l (good_label n false l) (good_text s && (leb m max_mask && leb q max_quota)) good

  rest_good : (good_text s && (leb m max_mask && leb q max_quota)) ≡ true
  unfolding good_arguments
  rest_good = and_r (good_label n false l) (good_text s && (leb m max_mask && leb q max_quota)) good

  numbers_good : (leb m max_mask && leb q max_quota) ≡ true
  numbers_good = and_r (good_text s) (leb m max_mask && leb q max_quota) rest_good

  pub container_mask_most : m ≤ max_mask
  container_mask_most = leb-true m max_mask (and_l (leb m max_mask) (leb q max_quota) numbers_good)

  -- the quota fits its field
  pub container_quota_low : (u : ℕ) → u ≡ or_default q container_default → u < 65536
  container_quota_low u e =
      let h = default_most q container_default max_quota (leb-true q max_quota (and_r (leb m max_mask) (leb q max_quota) numbers_good)) (omega arith) in
      omega arith

  module _ (b area : List ℕ) (i : ℕ) (at : container_row (view b) d ≡ Some i) (row : NewRow) (label : Label) (joined outer units : ℕ)
      (e : row ≡ container_row_of label joined units) (f : label ≡ core.label_of l) (g : joined ≡ bit_or m outer) (o : outer ≡ mask_of (view b) i)
      (h : units ≡ or_default q container_default) where
    row_is : row ≡ container_row_of (core.label_of l) (bit_or m (mask_of (view b) i)) (or_default q container_default)
    row_is =
        e ∙ ap₂ (λ (z : Label) (y : ℕ). container_row_of z y units) f (g ∙ ap (bit_or m) o)
        ∙ ap (container_row_of (core.label_of l) (bit_or m (mask_of (view b) i))) h

    -- what is handed over is the container
    pub container_whole : Handed row s (replicate text_size 0)
    container_whole =
        subst (λ (z : NewRow). Handed z s (replicate text_size 0)) (sym row_is)
        (container_handed (core.label_of l) s (good_default n false l label_good) (label_of_length l)
        (good_text_long s (and_l (good_text s) (leb m max_mask && leb q max_quota) rest_good)) (bit_or m (mask_of (view b) i)) (or_default q container_default))

    pub container_object : object_of row s (replicate text_size 0) ≡ new_container (world_of (view b) area) d l s m q
    container_object =
        ap (λ (z : NewRow). object_of z s (replicate text_size 0)) row_is
        ∙ row_is_container (core.label_of l) (bit_or m (mask_of (view b) i)) (or_default q container_default) s (replicate text_size 0)
        ∙ ap (λ (z : ℕ). container_of (core.label_of l) s (bit_or m z) (or_default q container_default)) (sym (mask_at b area d i at))

  module _ (w b area : List ℕ) (c i : ℕ) (same : w ≡ b) (ready : Ready b area) (go : ToMake b area c (create_container d l s m q) d (new_container (world_of (view b) area) d l s m q) i)
      (row : NewRow) (label : Label) (joined outer units : ℕ) (e : row ≡ container_row_of label joined units) (f : label ≡ core.label_of l)
      (g : joined ≡ bit_or m outer) (o : outer ≡ mask_of (view w) i) (h : units ≡ or_default q container_default) where
    -- the mask is that of the book as it was lent
    outer_is : outer ≡ mask_of (view b) i
    outer_is = o ∙ ap (λ (z : List ℕ). mask_of (view z) i) same

    handed_whole : Handed row s (replicate text_size 0)
    handed_whole = container_whole b area i go.container row label joined outer units e f g outer_is h

    made_object : object_of row s (replicate text_size 0) ≡ new_container (world_of (view b) area) d l s m q
    made_object = container_object b area i go.container row label joined outer units e f g outer_is h

    -- so it can be made, and the call is done by it
    pub container_creating : Creating w i row s (replicate text_size 0)
    container_creating = creating w b area c (create_container d l s m q) d (new_container (world_of (view b) area) d l s m q) i same ready go row s (replicate text_size 0) handed_whole

    pub container_done : (b' : List ℕ) → length b' ≡ length b → view b' ≡ created_in i (object_of row s (replicate text_size 0)) (view w) → (v : ℕ) → v ≡ next_of (view w)
        → Done b area c (create_container d l s m q) (Ok v) b' area
    container_done b' long made =
        made_done w b area c (create_container d l s m q) d (new_container (world_of (view b) area) d l s m q) i same ready go b' long (object_of row s (replicate text_size 0)) made made_object

-- what is asked of the arguments where it is made
pub ruleset arguments_fit = (container_mask_most, container_quota_low, outer_most)
