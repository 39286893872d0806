-- The program's kinds and their codes: each kind is that of its code, and no other code is a kind's.
use Rattle.std.specs.Prelude.{ℕ, ◌≤◌, Bool, true, false, not, ◌≡◌, Option, Some, None, eqb}
use Rattle.std.specs.Option.{option_eq}
use Rattle.std.proofs.Common.{arith, rules, sym, ◌∙◌, ap, subst, ne_eqb}
use Rattle.std.proofs.Math.Path.{refl}
use Rattle.rules.specs.Kernel.{thread_code, gate_code, segment_code, container_code, max_code, kind_code}
use Rattle.rules.proofs.Laws.Kinds.{kind_most}
use Rattle.book.specs.contracts.kinds.KindPartialEq.TheImpl as kind_eq
use Rattle.book.specs.declared.kinds.Kind.{Kind}
use Rattle.book.specs.declared.kinds.Kind.TheVariants.{Thread, Gate, Segment, Container}
use Rattle.book.specs.Book.{kind_from}
use Rattle.book.specs.Kinds.{code_of_kind, rules_kind, kind_with}

-- The rules' kind has the same code,
pub same_code : (k : Kind) → kind_code (rules_kind k) ≡ code_of_kind k
unfolding kind_from kind_code
same_code Thread = refl
same_code Gate = refl
same_code Segment = refl
same_code Container = refl

-- from 1 to the last.
pub code_some : (k : Kind) → 1 ≤ code_of_kind k
code_some Thread = omega arith
code_some Gate = omega arith
code_some Segment = omega arith
code_some Container = omega arith

pub code_most : (k : Kind) → code_of_kind k ≤ max_code
code_most k = subst (λ (n : ℕ). n ≤ max_code) (same_code k) (kind_most (rules_kind k))

-- A code is that of this kind exactly if this is its kind,
pub kind_of_code : (n : ℕ) (k : Kind) → n ≡ code_of_kind k → kind_with n ≡ Some k
unfolding kind_with
kind_of_code n k e = search rules

pub code_known : (n : ℕ) (k : Kind) → kind_with n ≡ Some k → n ≡ code_of_kind k
unfolding kind_with
code_known n k e = search rules

-- and has none if it is no kind's.
pub kind_none : (n : ℕ) → ((k : Kind) → n ≡ code_of_kind k → ⊥) → kind_with n ≡ None
unfolding kind_with
kind_none n f = rw (ne_eqb n thread_code (f Thread), ne_eqb n gate_code (f Gate), ne_eqb n segment_code (f Segment), ne_eqb n container_code (f Container))

-- what `==` of two kinds gives
abbrev pub same_kind : Kind → Kind → Bool
same_kind = (kind_eq.ghosts).eq

-- What `==` and `!=` of a code's kind and this one give,
module _ (o : Option Kind) (n : ℕ) (k : Kind) (e : o ≡ kind_with n) where
  pub kind_eq_is : option_eq same_kind o (Some k) ≡ eqb n (code_of_kind k)
  unfolding kind_with
  kind_eq_is = search rules

  pub kind_ne_is : not (option_eq same_kind o (Some k)) ≡ not (eqb n (code_of_kind k))
  kind_ne_is = ap not kind_eq_is

  -- and what an answer of `!=` says of the code.
  pub kind_same : not (option_eq same_kind o (Some k)) ≡ false → n ≡ code_of_kind k
  kind_same h = grind (arith, sym kind_ne_is ∙ h)

  pub kind_other : not (option_eq same_kind o (Some k)) ≡ true → n ≡ code_of_kind k → ⊥
  kind_other h q = grind (arith, sym kind_ne_is ∙ h)
