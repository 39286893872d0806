-- What a container that opens for the caller t, and an entry, say.
use Rattle.std.specs.Prelude.{ℕ, true, ◌≡◌}
use Rattle.labels.specs.Core.{may_read}
use Rattle.rules.specs.Kernel.{is_container, Obj, World, opens, entry}
use Rattle.rules.proofs.Laws.Bools.{and_l, and_r}

module _ (w : World) (t : Obj) where
  pub opens_container : (d : ℕ) → opens w t d ≡ true → is_container (w.obj d).kind ≡ true
  unfolding opens
  opens_container d p = and_l (is_container (w.obj d).kind) (may_read t.label (w.obj d).label) p

  pub opens_read : (d : ℕ) → opens w t d ≡ true → may_read t.label (w.obj d).label ≡ true
  unfolding opens
  opens_read d p = and_r (is_container (w.obj d).kind) (may_read t.label (w.obj d).label) p

  pub entry_opens : (d o : ℕ) → entry w t d o ≡ true → opens w t d ≡ true
  unfolding entry
  entry_opens d o p = and_l (opens w t d) (w.linked d o) p

  pub entry_link : (d o : ℕ) → entry w t d o ≡ true → w.linked d o ≡ true
  unfolding entry
  entry_link d o p = and_r (opens w t d) (w.linked d o) p
