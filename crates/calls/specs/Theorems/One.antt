-- There is only one outcome: two results that both meet a call's contract on the same input are the same number, value and bytes.
use Rattle.std.specs.Prelude.{ℕ, ◌<◌, ◌≡◌, List, get_or}
use Rattle.std.proofs.Common.{sym, ◌∙◌}
use Rattle.rules.specs.Kernel.{Call}
use Rattle.rules.proofs.Laws.Bools.{bool_cases}
use Rattle.tables.specs.Layout.Only.{view_only}
use Rattle.book.specs.Test.{areas_b}
use Rattle.calls.specs.Outcome.{Answer, Left, Said, Done}
use Rattle.calls.specs.Laws.Prelude.{book_long}
use Rattle.calls.specs.Laws.Leave.{told_apart}

pub record SameOutcome (answer₁ value₁ answer₂ value₂ : ℕ) (b₁ area₁ b₂ area₂ : List ℕ) : Type 0 where
  pub answer : answer₁ ≡ answer₂
  pub value : value₁ ≡ value₂
  pub book : b₁ ≡ b₂
  pub area : area₁ ≡ area₂

-- Books are lists of bytes, each below 256.
module _ (b area : List ℕ) (c : ℕ) (x : Call) (b₁ area₁ b₂ area₂ : List ℕ) (bytes₁ : (k : ℕ) → get_or b₁ k 0 < 256) (bytes₂ : (k : ℕ) → get_or b₂ k 0 < 256) where
  pub same_book : Left b area c x b₁ area₁ → Left b area c x b₂ area₂ → b₁ ≡ b₂
  same_book p q =
      bool_cases (areas_b b area)
      (λ g. view_only b₁ b₂ bytes₁ bytes₂ (p.book_left_lem g ∙ sym (q.book_left_lem g)) (p.length_same ∙ book_long b area g) (q.length_same ∙ book_long b area g))
      (λ g. p.book_kept g ∙ sym (q.book_kept g))

  -- number, value and areas
  pub one_outcome : (answer₁ value₁ answer₂ value₂ : ℕ) → Said b area c x answer₁ value₁ b₁ area₁ → Said b area c x answer₂ value₂ b₂ area₂
      → SameOutcome answer₁ value₁ answer₂ value₂ b₁ area₁ b₂ area₂
  one_outcome answer₁ value₁ answer₂ value₂ p q =
      record {
        answer = p.answer_is ∙ sym q.answer_is;
        value = p.value_is ∙ sym q.value_is;
        book = same_book p.left q.left;
        area = p.left.area_left_lem ∙ sym q.left.area_left_lem;
      }

  -- so the answer is the same one
  pub one_answer : (r s : Answer) → Done b area c x r b₁ area₁ → Done b area c x s b₂ area₂ → r ≡ s
  one_answer r s p q = told_apart r s (p.answer_is ∙ sym q.answer_is) (p.value_is ∙ sym q.value_is)
