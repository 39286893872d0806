-- Small laws of tests.
use Rattle.std.specs.Prelude.{Bool, true, false, cond, ◌&&◌, ◌||◌, ◌≡◌, refl}
use Rattle.std.proofs.lemmas.Bool.{false≢true}
use Rattle.std.proofs.Common.{sym, ◌∙◌}

pub and_l : (a b : Bool) → (a && b) ≡ true → a ≡ true
and_l true b e = refl
and_l false b e = absurd (false≢true e)

pub and_r : (a b : Bool) → (a && b) ≡ true → b ≡ true
and_r true b e = e
and_r false b e = absurd (false≢true e)

pub and_i : (a b : Bool) → a ≡ true → b ≡ true → (a && b) ≡ true
and_i a b p q = rw (p, q)

pub or_i_l : (a b : Bool) → a ≡ true → (a || b) ≡ true
or_i_l a b p = rw p

pub or_i_r : (a b : Bool) → b ≡ true → (a || b) ≡ true
or_i_r true b p = refl
or_i_r false b p = p

-- which of two
pub or_cases : {C : Type 0} (a b : Bool) → (a || b) ≡ true → (a ≡ true → C) → (b ≡ true → C) → C
or_cases true b e f g = f refl
or_cases false b e f g = g e

-- a test and then another, as `cond` says it
pub then_l : (a b : Bool) → cond a b false ≡ true → a ≡ true
then_l true b e = refl
then_l false b e = absurd (false≢true e)

pub then_r : (a b : Bool) → cond a b false ≡ true → b ≡ true
then_r true b e = e
then_r false b e = absurd (false≢true e)

pub then_i : (a b : Bool) → a ≡ true → b ≡ true → cond a b false ≡ true
then_i a b p q = rw (p, q)

pub not_both : {C : Type 0} (a : Bool) → a ≡ true → a ≡ false → C
not_both a p q = absurd (false≢true (sym q ∙ p))

pub not_i : (a : Bool) → (a ≡ true → ⊥) → a ≡ false
not_i true f = absurd (f refl)
not_i false f = refl

pub bool_cases : {C : Type 0} (a : Bool) → (a ≡ true → C) → (a ≡ false → C) → C
bool_cases true f g = f refl
bool_cases false f g = g refl

-- two tests that imply each other
pub same_by : (a b : Bool) → (a ≡ true → b ≡ true) → (b ≡ true → a ≡ true) → a ≡ b
same_by true true f g = refl
same_by true false f g = sym (f refl)
same_by false true f g = g refl
same_by false false f g = refl
