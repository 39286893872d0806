-- Histories: a world to begin with, then any calls of any callers (Kernel has their worlds).
use Rattle.rules.specs.Kernel.{World, History, beginning, next}
use Rattle.rules.specs.Sound.{Sound}

-- the world that a history begins with
unfoldable pub first_world : History → World
first_world (beginning w) = w
first_world (next h c x) = first_world h

-- it is sound, as Start's is (`start_is_sound` in proofs/Theorems/StaysSound)
abbrev pub WellStarted : History → Type 0
WellStarted h = Sound (first_world h)
