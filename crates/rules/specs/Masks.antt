-- What stands where a mask forbids it.
use Rattle.std.specs.Prelude.{ℕ, Bool, ◌&&◌}
use Rattle.rules.specs.Kernel.{World, forbids}

-- o is linked in the container d, whose mask forbids objects of its kind. RULES 12.8: "Links made before that
-- stay, .."
unfoldable pub forbidden_in : World → ℕ → ℕ → Bool
forbidden_in w d o = w.linked d o && forbids (w.obj d).mask (w.obj o).kind
