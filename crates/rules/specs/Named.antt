-- The containers that a call names. RULES 6.5: "A container that the call names does not exist, is an object
-- of another kind, or may not be read by the caller; .."
use Rattle.std.specs.Prelude.{ℕ, Bool, true, ◌&&◌, List, [], ◌∷◌}
use Rattle.rules.specs.Kernel.{Obj, World, opens, Call, create_category, set_label, set_clearance, create_container, create_segment, create_gate, create_thread, unreference}
use Rattle.rules.specs.Kernel.{link_segment, fix_quota, move_quota, read, write, resize, enter_gate, look}

unfoldable pub containers_named : Call → List ℕ
containers_named create_category = []
containers_named (set_label l) = []
containers_named (set_clearance c) = []
containers_named (create_container d l s m q) = d ∷ []
containers_named (create_segment d l s q) = d ∷ []
containers_named (create_gate d l c e x s) = d ∷ []
containers_named (create_thread d l c s) = d ∷ []
containers_named (unreference d o) = d ∷ []
containers_named (link_segment d1 o d) = d1 ∷ d ∷ []
containers_named (fix_quota d o) = d ∷ []
containers_named (move_quota d o n) = d ∷ []
containers_named (read d s k f m) = d ∷ []
containers_named (write d s k f m b) = d ∷ []
containers_named (resize d s m) = d ∷ []
containers_named (enter_gate d g lr cr lv out) = d ∷ []
containers_named (look d o out) = d ∷ []

-- t may read each of them, and each is a container
unfoldable pub all_open : World → Obj → List ℕ → Bool
all_open w t [] = true
all_open w t (d ∷ ds) = opens w t d && all_open w t ds
