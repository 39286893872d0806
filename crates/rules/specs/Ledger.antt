-- RULES 3.8: "The spare of a container D can be reckoned from the calls so far." A ledger of the granted
-- calls that make, link or move units, and the spare of a container by that ledger and the links that are
-- there now.
use Rattle.std.specs.Prelude.{ℕ, suc, ◌+◌, ◌-◌, ◌≤◌, Bool, true, false, cond, ◌&&◌, ◌≡◌, eqb, leb, pos, negsuc}
use Rattle.labels.specs.Core.{may_write}
use Rattle.quotas.specs.Sum.{Σ, when}
use Rattle.rules.specs.Kernel.{World, is_thread, is_container, Call, create_category, set_label, set_clearance, create_container, create_segment, create_gate, create_thread}
use Rattle.rules.specs.Kernel.{unreference, link_segment, fix_quota, move_quota, read, write, resize, enter_gate, look, or_default, container_default, segment_default, answer_of}
use Rattle.rules.specs.Kernel.{call, History, beginning, next, world_after}

-- ---- the ledger

-- A line of the ledger: o is made in d with quota q; o is linked into d; n units go from d into o; n units come back from o to d.
pub data Line : Type 0 where
  nothing_written : Line
  made : (d o q : ℕ) → Line
  tied : (d o : ℕ) → Line
  moved_in : (d o n : ℕ) → Line
  moved_back : (d o n : ℕ) → Line

-- what a call with the number n writes if it is granted. RULES 3.1: "A thread has quota 1 .., and so does a
-- gate."
unfoldable pub line_if : ℕ → Call → Line
line_if n create_category = nothing_written
line_if n (set_label l) = nothing_written
line_if n (set_clearance l) = nothing_written
line_if n (create_container d l s m q) = made d n (or_default q container_default)
line_if n (create_segment d l s q) = made d n (or_default q segment_default)
line_if n (create_gate d l k e x s) = made d n 1
line_if n (create_thread d l k s) = made d n 1
line_if n (unreference d o) = nothing_written
line_if n (link_segment d1 o d) = tied d o
line_if n (fix_quota d o) = nothing_written
line_if n (move_quota d o (pos m)) = moved_in d o m
line_if n (move_quota d o (negsuc m)) = moved_back d o (suc m)
line_if n (read d s k f m) = nothing_written
line_if n (write d s k f m b) = nothing_written
line_if n (resize d s m) = nothing_written
line_if n (enter_gate d g lr cr lv out) = nothing_written
line_if n (look d o out) = nothing_written

-- RULES 6: "If none applies the call is granted, and the answer is 0." Any other answer writes nothing.
unfoldable pub line_of : World → ℕ → Call → Line
line_of w c x = cond (eqb (answer_of (call w c x)) 0) (line_if w.next x) nothing_written

-- ---- RULES 3.8: "Take the units it was created with (the root: 256), add those moved into it, and subtract
-- those moved back out of it, .."

-- what a line makes of the units u granted to p before it
unfoldable pub granted_by : Line → (p u : ℕ) → ℕ
granted_by nothing_written p u = u
granted_by (made d o q) p u = cond (eqb p o) q u
granted_by (tied d o) p u = u
granted_by (moved_in d o n) p u = cond (eqb p o) (u + n) u
granted_by (moved_back d o n) p u = cond (eqb p o) (u - n) u

unfoldable pub granted : History → ℕ → ℕ
granted (beginning w) p = (w.obj p).quota
granted (next h c x) p = granted_by (line_of (world_after h) c x) p (granted h p)

-- ---- RULES 3.8: ".. the quota it had when that link was made and the units moved from D into it since, and
-- add the units moved back from it since."

-- what a line makes of the charge k of p in e before it; u is what had been granted to p, the quota it had then
unfoldable pub charge_by : Line → (e p u k : ℕ) → ℕ
charge_by nothing_written e p u k = k
charge_by (made d o q) e p u k = cond (eqb e d && eqb p o) q k
charge_by (tied d o) e p u k = cond (eqb e d && eqb p o) u k
charge_by (moved_in d o n) e p u k = cond (eqb e d && eqb p o) (k + n) k
charge_by (moved_back d o n) e p u k = cond (eqb e d && eqb p o) (k - n) k

unfoldable pub charge : History → ℕ → ℕ → ℕ
charge (beginning w) e p = cond (w.linked e p) (w.obj p).quota 0
charge (next h c x) e p = charge_by (line_of (world_after h) c x) e p (granted h p) (charge h e p)

-- ---- RULES 3.8: ".. and 1. Then, for each object linked in D now, subtract ..": the spare of d, reckoned

unfoldable pub reckoned : History → ℕ → ℕ
reckoned h d = granted h d - 1 - Σ (world_after h).next (λ o. when ((world_after h).linked d o) (charge h d o))

-- the units that a line moves back had been granted to o and charged in d, so that no difference above is cut off at 0
abbrev pub BackWasThere : History → Line → Type 0
BackWasThere h nothing_written = Unit {0}
BackWasThere h (made d o q) = Unit {0}
BackWasThere h (tied d o) = Unit {0}
BackWasThere h (moved_in d o n) = Unit {0}
BackWasThere h (moved_back d o n) = (n ≤ granted h o) × (n ≤ charge h d o)

-- ---- calls that ask for units

-- the lines of calls that take units from a container: those that create, that link, that move units into an object, and that take units back from a container
unfoldable pub takes_units : World → Line → Bool
takes_units w nothing_written = false
takes_units w (made d o q) = true
takes_units w (tied d o) = true
takes_units w (moved_in d o n) = true
takes_units w (moved_back d o n) = is_container (w.obj o).kind

-- the object whose spare is asked. RULES 8.11: "13 if n is above D's spare, or if n is below 0 and -n is
-- above O's spare."
unfoldable pub asked_of : Line → ℕ
asked_of nothing_written = 0
asked_of (made d o q) = d
asked_of (tied d o) = d
asked_of (moved_in d o n) = d
asked_of (moved_back d o n) = o

-- the units that it must have to spare
unfoldable pub units_asked : World → Line → ℕ
units_asked w nothing_written = 0
units_asked w (made d o q) = q
units_asked w (tied d o) = (w.obj o).quota
units_asked w (moved_in d o n) = n
units_asked w (moved_back d o n) = n

-- the same of a call: whether it creates, links or moves units out of a container, which container it draws on, and how many units it needs there
abbrev pub spends : World → Call → Bool
spends w x = takes_units w (line_if w.next x)

abbrev pub draws : World → Call → ℕ
draws w x = asked_of (line_if w.next x)

abbrev pub needs : World → Call → ℕ
needs w x = units_asked w (line_if w.next x)

-- the answer of a call that failed a check before that of spare: 1 to 12
unfoldable pub refused_earlier : ℕ → Bool
refused_earlier a = leb 1 a && leb a 12

-- ---- calls of others

-- c is a live thread whose label may write o
unfoldable pub writer : World → ℕ → ℕ → Bool
writer w c o = is_thread (w.obj c).kind && may_write (w.obj c).label (w.obj o).label

-- From one history to a longer one, where no call between them is by a thread whose label, then, may write o.
pub data Meanwhile (o : ℕ) (h : History) : History → Type 0 where
  nothing_yet : Meanwhile o h h
  another : {k : History} (c : ℕ) (x : Call) → Meanwhile o h k → writer (world_after k) c o ≡ false → Meanwhile o h (next k c x)
