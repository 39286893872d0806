-- Ways down the links, the tree of a container, and the ways that are left when one link goes.
use Rattle.std.specs.Prelude.{ℕ, suc, Bool, true, not, ◌&&◌, ◌↔◌, ◌≡◌, eqb}
use Rattle.rules.specs.Kernel.{is_live, nothing, World, below}

-- a way down along the links f, of any length: from d to d itself, or on from e to what is linked in e
pub data Way (f : ℕ → ℕ → Bool) (d : ℕ) : ℕ → Type 0 where
  here : Way f d d
  down : (e o : ℕ) → Way f d e → f e o ≡ true → Way f d o

-- o is reached from d
abbrev pub Reaches : World → ℕ → ℕ → Type 0
Reaches w d o = Way w.linked d o

-- the links f without that of o in d
unfoldable pub without : ℕ → ℕ → (ℕ → ℕ → Bool) → ℕ → ℕ → Bool
without d o f e p = f e p && not (eqb e d && eqb p o)

-- p is still reached from the root along links other than that of o in d
abbrev pub StillReached : World → ℕ → ℕ → ℕ → Type 0
StillReached w d o p = Way (without d o w.linked) w.root p

-- o lies in the tree of d, d itself included; in a sound world this is `Reaches w d o`, computed (proofs/Theorems/Holds)
abbrev pub in_tree : World → ℕ → ℕ → Bool
in_tree w d o = below w d o

-- Call 8, RULES 8.8: u is what is left of w when the link of o in d goes.
pub record Unlinked (w : World) (d o : ℕ) (u : World) : Type 0 where
  pub next : u.next ≡ suc w.next
  pub root : u.root ≡ w.root
  -- RULES 8.8: "An object that is linked nowhere any more is freed, .. and so on downwards." So exactly those
  -- objects are live that were live and that the root still reaches
  pub live : (p : ℕ) → (is_live (u.obj p).kind ≡ true) ↔ ((is_live (w.obj p).kind ≡ true) × StillReached w d o p)
  -- each of them is as it was, and nothing is left of the others
  pub unchanged : (p : ℕ) → StillReached w d o p → u.obj p ≡ w.obj p
  pub freed : (p : ℕ) → (StillReached w d o p → ⊥) → u.obj p ≡ nothing
  -- the links left are the old ones without that one, in the containers that the root still reaches
  pub links : (e p : ℕ) → (u.linked e p ≡ true) ↔ ((without d o w.linked e p ≡ true) × StillReached w d o e)
  -- RULES 8.8: "The link of O in D goes, and all other links in D stay."
  pub links_here : (p : ℕ) → u.linked d p ≡ (w.linked d p && not (eqb p o))
