-- Call 12 too has only one outcome, as the part that it hands back and as the numbers that it is found by. Before it, that a verdict has an answer.
use Rattle.std.specs.Prelude.{ℕ, zero, suc, ◌<◌, ◌≤◌, ◌≡◌, refl, List, get_or, Result, Ok, Err}
use Rattle.std.proofs.Math.Path.{sym, ap}
use Rattle.std.proofs.Common.{arith, ap₂, subst, ◌∙◌}
use Rattle.std.specs.Borrow.{Bor}
use Rattle.rules.specs.Kernel as kernel
use Rattle.rules.specs.Kernel.{Call, by, Verdict, refused, grant, call, read, answer_of, value_of}
use Rattle.rules.proofs.Laws.Bools.{bool_cases}
use Rattle.rules.proofs.Theorems.Refusals.{answer_most, granted}
use Rattle.book.specs.Book.{world_of}
use Rattle.book.specs.Test.{areas_b}
use Rattle.tables.specs.Layout.{view}
use Rattle.rules.proofs.Laws.Must.{refuse_no_grant}
use Rattle.calls.specs.declared.Refusal.{Refusal}
use Rattle.calls.specs.Read.{LocatedAs, Shown}
use Rattle.calls.specs.Outcome.{Answer, verdict_on, number_of, value_in, number_told, value_told, Left, DoneBy}
use Rattle.calls.specs.Laws.Leave.{numbered, numbered_is, ruled_once}
use Rattle.calls.specs.Laws.Prelude.{verdict_one}
use Rattle.calls.specs.Theorems.Kept.{verdict_is}
use Rattle.calls.specs.Theorems.One.{same_book}

-- ---- the answer that a verdict asks for

-- by numbers alone, since a verdict may refuse by any
unfoldable pub answer_for : Verdict → Result ℕ ℕ
answer_for (refused r) = Err (kernel.number_of r)
answer_for (grant v o h) = Ok v

pub number_for : (x : Verdict) → number_told (answer_for x) ≡ answer_of x
unfolding answer_for answer_of
number_for (refused r) = refl
number_for (grant v o h) = refl

pub value_for : (x : Verdict) → value_told (answer_for x) ≡ value_of x
unfolding answer_for value_of
value_for (refused (by k)) = refl
value_for (grant v o h) = refl

above_zero : (n : ℕ) → (n ≡ 0 → ⊥) → 1 ≤ n
above_zero zero h = absurd (h refl)
above_zero (suc n) h = omega arith

module _ (b area : List ℕ) (c : ℕ) (x : Call) where
  -- A call that leaves what it is to leave is done by the answer that its verdict asks for.
  pub done_for : (b' area' : List ℕ) → Left b area c x b' area' → DoneBy b area c x (answer_for (verdict_on b area c x)) b' area'
  done_for b' area' l = record { answer_is = number_for (verdict_on b area c x); value_is = value_for (verdict_on b area c x); left = l }

  -- A refusal of a call has a number from 1 to 13,
  number_in : (f : kernel.Refusal) → verdict_on b area c x ≡ refused f → (1 ≤ kernel.number_of f) × (kernel.number_of f ≤ 13)
  unfolding answer_of
  number_in f e =
      bool_cases (areas_b b area)
      (λ g.
      let w = world_of (view b) area in
      let q : call w c x ≡ refused f = sym (verdict_is b area g c x) ∙ e in (
        above_zero (kernel.number_of f) (λ z. refuse_no_grant _ _ _ _ (sym q ∙ (granted w c x (ap answer_of q ∙ z)).verdict)),
        subst (λ (n : ℕ). n ≤ 13) (ap answer_of q) (answer_most w c x),
      ))
      (λ g. let n : 1 ≡ kernel.number_of f = ap answer_of (sym (verdict_one b area c x g) ∙ e) in (omega arith, omega arith))

  -- so the code has an answer for each.
  pub answer_on : (r : Answer) × (number_of r ≡ answer_of (verdict_on b area c x)) × (value_in r ≡ value_of (verdict_on b area c x))
  unfolding answer_of value_of
  answer_on = go (verdict_on b area c x) refl
    where
      go : (v : Verdict) → verdict_on b area c x ≡ v → (r : Answer) × (number_of r ≡ answer_of v) × (value_in r ≡ value_of v)
      go (refused (by k)) e = let (l, m) = number_in (by k) e in (Err (numbered k), numbered_is k l m, refl)
      go (grant v o h) e = (Ok v, refl, refl)

-- ---- call 12

-- A part is its bytes and its place; the name under which the logic tracks it is no part of a run.
pub record SamePart (part₁ part₂ : Bor (List ℕ)) : Type 0 where
  pub bytes : part₁.now ≡ part₂.now
  pub place : part₁.ref_ptr ≡ part₂.ref_ptr

module _ (b : List ℕ) (area : Bor (List ℕ)) (c d s k f n : ℕ) (b₁ b₂ : List ℕ) (bytes₁ : (k : ℕ) → get_or b₁ k 0 < 256)
    (bytes₂ : (k : ℕ) → get_or b₂ k 0 < 256) where
  pub one_part : (a₁ v₁ : ℕ) (part₁ : Bor (List ℕ)) (a₂ v₂ : ℕ) (part₂ : Bor (List ℕ)) → Shown b area c d s k f n a₁ v₁ part₁ b₁
      → Shown b area c d s k f n a₂ v₂ part₂ b₂ → (a₁ ≡ a₂) × (v₁ ≡ v₂) × SamePart part₁ part₂ × (b₁ ≡ b₂)
  one_part a₁ v₁ part₁ a₂ v₂ part₂ p q = (
    p.answer_is ∙ sym q.answer_is,
    p.value_is ∙ sym q.value_is,
    record {
      bytes = p.part_is ∙ sym q.part_is;
      place = ap₂ (λ (i j : ℕ). (i, j)) (p.memory_is ∙ sym q.memory_is) (p.place_is ∙ sym q.place_is);
    },
    same_book b area.now c (read d s k f n) b₁ area.now b₂ area.now bytes₁ bytes₂ p.left q.left,
  )

module _ (b area : List ℕ) (c d s k f n : ℕ) (b₁ b₂ : List ℕ) (bytes₁ : (k : ℕ) → get_or b₁ k 0 < 256) (bytes₂ : (k : ℕ) → get_or b₂ k 0 < 256) where
  pub one_place : (r t : Result (ℕ × ℕ) Refusal) → LocatedAs b area c d s k f n b₁ r → LocatedAs b area c d s k f n b₂ t → (r ≡ t) × (b₁ ≡ b₂)
  unfolding answer_of
  one_place (Ok p) (Ok q) x y =
      (ap₂ (λ (i j : ℕ). Ok (i, j)) (x.place ∙ sym y.place) (x.count ∙ sym y.count), same_book b area c (read d s k f n) b₁ area b₂ area bytes₁ bytes₂ x.left y.left)
  one_place (Ok p) (Err t) x y = absurd (refuse_no_grant _ _ _ _ (sym y.verdict ∙ x.granted))
  one_place (Err r) (Ok q) x y = absurd (refuse_no_grant _ _ _ _ (sym x.verdict ∙ y.granted))
  one_place (Err r) (Err t) x y = (
    ap Err (ruled_once r t (ap answer_of (sym x.verdict ∙ y.verdict))),
    same_book b area c (read d s k f n) b₁ area b₂ area bytes₁ bytes₂ x.done.left y.done.left,
  )
