-- The ways out of a test that finds something or refuses.
use Rattle.std.specs.Prelude.{ℕ, Bool, true, false, cond, ◌≡◌, refl, Option, Some, None, Result, Ok, Err}
use Rattle.std.specs.Option.{ok_or}
use Rattle.std.proofs.Common.{arith, sym, ap}
use Rattle.calls.specs.declared.Refusal.{Refusal}

module _ {A : Type 0} where
  -- one value, one refusal, and never both
  pub same_value : (x y : A) → ◌≡◌ {A = Result A Refusal} (Ok x) (Ok y) → x ≡ y
  same_value x y e = cc

  pub same_reason : (f g : Refusal) → ◌≡◌ {A = Result A Refusal} (Err f) (Err g) → f ≡ g
  same_reason f g e = cc

  pub not_both : (x : A) (f : Refusal) → ◌≡◌ {A = Result A Refusal} (Ok x) (Err f) → ⊥
  not_both x f e = let z : ◌≡◌ {A = ℕ} 0 1 = cc in omega arith

  -- what was found, or the refusal where nothing is
  pub found_ok : (x : Option A) (f : Refusal) (p : A) → ok_or x f ≡ Ok p → x ≡ Some p
  found_ok (Some q) f p e = ap Some (same_value q p e)
  found_ok None f p e = absurd (not_both p f (sym e))

  pub found_none : (x : Option A) (f g : Refusal) → ok_or x f ≡ Err g → (x ≡ None) × (g ≡ f)
  found_none (Some q) f g e = absurd (not_both q g e)
  found_none None f g e = (refl, same_reason g f (sym e))

  -- the same of what is there if a test holds
  pub tried_ok : (x : Bool) (m : A) (f : Refusal) (p : A) → ok_or (cond x (Some m) None) f ≡ Ok p → (x ≡ true) × (m ≡ p)
  tried_ok true m f p e = (refl, same_value m p e)
  tried_ok false m f p e = absurd (not_both p f (sym e))

  pub tried_none : (x : Bool) (m : A) (f g : Refusal) → ok_or (cond x (Some m) None) f ≡ Err g → (x ≡ false) × (f ≡ g)
  tried_none true m f g e = absurd (not_both m g e)
  tried_none false m f g e = (refl, same_reason f g e)
