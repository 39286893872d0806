-- What an untainted caller can know of an object that it finds in a room, that is in an untainted container:
-- all of it, unless its insides can change unseen. proofs/Laws/Seen has what follows.
use Rattle.std.specs.Prelude.{ℕ, Bool, true, false, cond, ◌&&◌, []}
use Rattle.std.proofs.Math.Bool.{not}
use Rattle.rules.specs.Kernel.{Kind, absent, thread, gate, segment, container, is_thread, Obj, blank, altered}
use Rattle.tainted.specs.Tainted.{untainted}

-- ---- what is hidden

-- the kinds whose insides can change unseen: a thread's labels, a segment's bytes
unfoldable pub veiled : Kind → Bool
veiled absent = false
veiled thread = true
veiled gate = false
veiled segment = true
veiled container = false

unfoldable pub secret : ℕ → Obj → Bool
secret v x = veiled x.kind && not (untainted v x)

-- the rest of such an object: of a thread no label and clearance, of a segment no bytes
unfoldable pub outside : Obj → Obj
outside x = altered x (cond (is_thread x.kind) blank x.label) blank x.quota x.fixed []

pub record Seen : Type 0 where
  pub hidden : Bool
  pub body : Obj

unfoldable pub seen : ℕ → Obj → Seen
seen v x = record { hidden = secret v x; body = cond (secret v x) (outside x) x }
