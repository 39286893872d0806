-- A signed number of units, by cases on the integer.
use Rattle.std.specs.Prelude.{ℕ, suc, ◌+◌, ◌-◌, ◌<◌, ◌≤◌, Bool, not, ◌||◌, ◌≡◌, [], ◌∷◌, ◌++◌, ℤ, pos, negsuc, nat_abs, Ok, Err}
use Rattle.std.proofs.Common.{arith, sym, ap, subst}
use Rattle.std.proofs.Math.Bool.{true, false, cond}
use Rattle.std.proofs.Math.Path.{refl}
use Rattle.std.proofs.Math.Dec.{leb, ltb}
use Rattle.std.specs.Int.Signed.{lt_z}
use borrow.Author.Tests.{ltb-true, ltb-false, lt-ltb, le-ltb, lt-leb, le-leb}
use Rattle.rules.specs.Kernel.{Obj, World, Verdict, grant, must, must_hold, judge, move, entry, is_segment, is_container, writing, flow, move_quota, alter, requota}
use Rattle.rules.specs.Kernel.{good_arguments, max_move, root_quota}
use Rattle.calls.specs.declared.amount.Amount.{Amount}
use Rattle.calls.specs.declared.amount.Amount.TheVariants.{In, Out}
use Rattle.calls.specs.declared.Refusal.{Refusal}
use Rattle.calls.specs.declared.Refusal.TheVariants.{BadArgument}
use Rattle.calls.specs.Amount.{amount_of, more_for, room_for, quota_for, Reckoned}
use Rattle.calls.specs.Laws.Ways.{same_value, same_reason, not_both}

-- ---- as the code turns it

-- over the limit, either way
pub too_much : (z : ℤ) → max_move < nat_abs z → Err BadArgument ≡ amount_of z
unfolding amount_of
too_much (pos k) h = rw (lt-ltb max_move k h)
too_much (negsuc k) h = rw (le-ltb k max_move (omega (arith, h)))

pub goes_in : (z : ℤ) → nat_abs z ≤ max_move → lt_z z (pos 0) ≡ false → Ok (In (nat_abs z)) ≡ amount_of z
unfolding amount_of
goes_in (pos k) h g = rw (le-ltb max_move k h)
goes_in (negsuc k) h g = cc

pub goes_out : (z : ℤ) → nat_abs z ≤ max_move → lt_z z (pos 0) ≡ true → Ok (Out (nat_abs z)) ≡ amount_of z
unfolding amount_of
goes_out (pos k) h g = let z : k < 0 = ltb-true k 0 g in absurd (omega arith)
goes_out (negsuc k) h g = rw (lt-ltb k max_move (omega (arith, h)))

-- ---- as the code goes by it

module _ (u : Amount) (q : ℕ) where
  pub quota_in : (m : ℕ) → u ≡ In m → q + m ≡ quota_for u q
  quota_in m e = sym (ap (λ a. quota_for a q) e)

  pub quota_out : (m : ℕ) → u ≡ Out m → q - m ≡ quota_for u q
  quota_out m e = sym (ap (λ a. quota_for a q) e)

  pub in_most : (m : ℕ) → u ≡ In m → Reckoned u q → m ≤ root_quota
  in_most m e h = subst (λ a. Reckoned a q) e h

  pub out_most : (m : ℕ) → u ≡ Out m → Reckoned u q → m ≤ q
  out_most m e h = subst (λ a. Reckoned a q) e h

-- ---- as the rules judge it

module _ (n d o : ℕ) where
  -- over its limit: an argument is malformed
  pub bad_argument : (z : ℤ) (f : Refusal) → amount_of z ≡ Err f → (good_arguments n (move_quota d o z) ≡ false) × (f ≡ BadArgument)
  unfolding amount_of good_arguments
  bad_argument (pos k) f e = go (ltb max_move k) refl e
    where
      go : (a : Bool) → ltb max_move k ≡ a → cond a (Err BadArgument) (Ok (In k)) ≡ Err f → (leb k max_move ≡ false) × (f ≡ BadArgument)
      go true g e = (lt-leb k max_move (ltb-true max_move k g), same_reason f BadArgument (sym e))
      go false g e = absurd (not_both (In k) f e)
  bad_argument (negsuc k) f e = go (ltb k max_move) refl e
    where
      go : (a : Bool) → ltb k max_move ≡ a → cond a (Ok (Out (suc k))) (Err BadArgument) ≡ Err f → (leb (suc k) max_move ≡ false) × (f ≡ BadArgument)
      go true g e = absurd (not_both (Out (suc k)) f e)
      go false g e = (lt-leb (suc k) max_move (omega (arith, ltb-false k max_move g)), same_reason f BadArgument (sym e))

  pub good_argument : (z : ℤ) (u : Amount) → amount_of z ≡ Ok u → good_arguments n (move_quota d o z) ≡ true
  unfolding amount_of good_arguments
  good_argument (pos k) u e = go (ltb max_move k) refl e
    where
      go : (a : Bool) → ltb max_move k ≡ a → cond a (Err BadArgument) (Ok (In k)) ≡ Ok u → leb k max_move ≡ true
      go true g e = absurd (not_both u BadArgument (sym e))
      go false g e = le-leb k max_move (omega (arith, ltb-false max_move k g))
  good_argument (negsuc k) u e = go (ltb k max_move) refl e
    where
      go : (a : Bool) → ltb k max_move ≡ a → cond a (Ok (Out (suc k))) (Err BadArgument) ≡ Ok u → leb (suc k) max_move ≡ true
      go true g e = le-leb (suc k) max_move (omega (arith, ltb-true k max_move g))
      go false g e = absurd (not_both u BadArgument (sym e))

-- the tests from 5 on, of an amount
abbrev pub moving : World → Obj → ℕ → ℕ → Amount → Verdict
moving w t d o u =
    must (entry w t d o) 5
    (must (is_segment (w.obj o).kind || is_container (w.obj o).kind) 6
    (must_hold (writing t.label (w.obj d).label ++ (flow t.label (w.obj o).label ∷ flow (w.obj o).label t.clearance ∷ more_for u t.label (w.obj o).label))
    (must (not (w.obj o).fixed) 9
    (must (room_for u w d o) 13
    (grant 0 [] (alter o (requota (quota_for u (w.obj o).quota))))))))

pub amount_judged : (w : World) (t : Obj) (c d o : ℕ) (z : ℤ) (u : Amount) → amount_of z ≡ Ok u
    → judge w t c (move_quota d o z) ≡ moving w t d o u
unfolding amount_of judge move
amount_judged w t c d o (pos k) u e = go (ltb max_move k) e
  where
    go : (a : Bool) → cond a (Err BadArgument) (Ok (In k)) ≡ Ok u → judge w t c (move_quota d o (pos k)) ≡ moving w t d o u
    go true e = absurd (not_both u BadArgument (sym e))
    go false e = ap (moving w t d o) (same_value (In k) u e)
amount_judged w t c d o (negsuc k) u e = go (ltb k max_move) e
  where
    go : (a : Bool) → cond a (Ok (Out (suc k))) (Err BadArgument) ≡ Ok u → judge w t c (move_quota d o (negsuc k)) ≡ moving w t d o u
    go true e = ap (moving w t d o) (same_value (Out (suc k)) u e)
    go false e = absurd (not_both u BadArgument (sym e))
