-- Call 1's labels: star and clearance 3 at a category that is new.
use Rattle.std.specs.Prelude.{ℕ, suc, ◌≤◌, Bool, ◌||◌, ◌≡◌, length}
use Rattle.std.proofs.Math.Bool.{true, false, cond}
use Rattle.std.proofs.lemmas.Bool.{false≢true}
use Rattle.std.proofs.Math.Path.{refl}
use Rattle.std.proofs.Common.{sym, ◌∙◌, arith}
use Rattle.std.proofs.Math.Dec.{eqb}
use borrow.Author.Tests.{eqb-true, eqb-false}
use Rattle.labels.specs.declared.Label.{Label}
use Rattle.labels.specs.Core.{at, well_formed, has_room, with_pair, flows, unread, star, level3}
use Rattle.labels.specs.Core.Formed.{formed_default_low}
use Rattle.labels.specs.Core.Fresh.{formed_wider, formed_fresh, pair_formed, pair_at, pair_length}
use Rattle.labels.proofs.Core.Compare.{flows_means}
use Rattle.rules.specs.Kernel.{cleared_at}

-- as many words as before
pub cleared_length : (n : ℕ) (c : Label) → length (cleared_at n c).words ≡ length c.words
unfolding cleared_at
cleared_length n c = go (eqb c.default level3)
  where
    go : (b : Bool) → length (cond b c (with_pair n level3 c)).words ≡ length c.words
    go true = refl
    go false = pair_length n level3 c

-- the label
module _ (n : ℕ) (l : Label) (new : 1 ≤ n) (f : well_formed n true l ≡ true) (room : has_room l ≡ true) where
  other : star ≡ l.default → ⊥
  other e = let d = formed_default_low n true l.default l.words f in omega arith

  pub starred_formed : well_formed (suc n) true (with_pair n star l) ≡ true
  starred_formed = pair_formed n star true l f room new (omega arith) other (λ e. absurd (false≢true (sym e)))

  pub starred_at : (x : ℕ) → at (with_pair n star l) x ≡ cond (eqb n x) star (at l x)
  starred_at = pair_at n star true l f room new (omega arith) other (λ e. absurd (false≢true (sym e)))

-- the clearance
module _ (n : ℕ) (c : Label) (new : 1 ≤ n) (f : well_formed n false c ≡ true) (room : (eqb c.default level3 || has_room c) ≡ true) where
  pub cleared_formed : well_formed (suc n) false (cleared_at n c) ≡ true
  unfolding cleared_at
  cleared_formed = go (eqb c.default level3) refl room
    where
      go : (b : Bool) → eqb c.default level3 ≡ b → (b || has_room c) ≡ true → well_formed (suc n) false (cond b c (with_pair n level3 c)) ≡ true
      go true e r = formed_wider n false c f
      go false e r = pair_formed n level3 false c f r new (omega arith) (λ q. eqb-false c.default level3 e (sym q)) (λ a z. omega arith)

  pub cleared_at_lem : (x : ℕ) → at (cleared_at n c) x ≡ cond (eqb n x) level3 (at c x)
  unfolding cleared_at
  cleared_at_lem x = go (eqb c.default level3) refl room
    where
      go : (b : Bool) → eqb c.default level3 ≡ b → (b || has_room c) ≡ true → at (cond b c (with_pair n level3 c)) x ≡ cond (eqb n x) level3 (at c x)
      go true e r = here (eqb n x) refl
        where
          here : (t : Bool) → eqb n x ≡ t → at c x ≡ cond t level3 (at c x)
          here true q = let z = eqb-true n x q in formed_fresh n false c f x (omega arith) ∙ eqb-true c.default level3 e
          here false q = refl
      go false e r = pair_at n level3 false c f r new (omega arith) (λ q. eqb-false c.default level3 e (sym q)) (λ a z. omega arith) x

-- the label still flows to the clearance
module _ (n : ℕ) (l c : Label) (new : 1 ≤ n) (fl : well_formed n true l ≡ true) (fc : well_formed n false c ≡ true) (roomL : has_room l ≡ true)
    (roomC : (eqb c.default level3 || has_room c) ≡ true) where
  pub category_flows : flows l c ≡ true → flows (with_pair n star l) (cleared_at n c) ≡ true
  category_flows p =
      (flows_means (with_pair n star l) (cleared_at n c) unread).1
      (λ x.
      let a = starred_at n l new fl roomL x in
      let b = cleared_at_lem n c new fc roomC x in
      rw (a, b) (go x (eqb n x)))
    where
      go : (x : ℕ) (t : Bool) → cond t star (at l x) ≤ cond t level3 (at c x)
      go x true = omega arith
      go x false = (flows_means l c unread).0 p x
