-- The numbers that calls issue, in the order in which they were issued. RULES 4.3: "A call that issues an id
-- or a category issues its own number."
use Rattle.std.specs.Prelude.{ℕ, zero, suc, ◌<◌, Bool, cond, ◌&&◌, ◌||◌, ◌≡◌, List, [], ◌∷◌, length, get_or, eqb, leb}
use Rattle.rules.specs.Kernel.{World, is_live, Call, create_category, set_label, set_clearance, create_container, create_segment, create_gate, create_thread, unreference}
use Rattle.rules.specs.Kernel.{link_segment, fix_quota, move_quota, read, write, resize, enter_gate, look, call, answer_of, value_of, History, beginning, next, world_after}

-- the calls as docs/RULES.md counts them: rule 8.n is call n
unfoldable pub call_number : Call → ℕ
call_number create_category = 1
call_number (set_label l) = 2
call_number (set_clearance x) = 3
call_number (create_container d l s m q) = 4
call_number (create_segment d l s q) = 5
call_number (create_gate d l k e x s) = 6
call_number (create_thread d l k s) = 7
call_number (unreference d o) = 8
call_number (link_segment d1 o d) = 9
call_number (fix_quota d o) = 10
call_number (move_quota d o n) = 11
call_number (read d s k f n) = 12
call_number (write d s k f n b) = 13
call_number (resize d s n) = 14
call_number (enter_gate d g lr cr lv out) = 15
call_number (look d o out) = 16

-- calls 4 to 7 create an object
unfoldable pub creates : Call → Bool
creates x = leb 4 (call_number x) && leb (call_number x) 7

-- RULES 8.1: "Value: the category, which is the call's own number." 8.4: "The object is made with the call's
-- own number as its id, .. Value: its id."
unfoldable pub issues : Call → Bool
issues x = eqb (call_number x) 1 || creates x

-- the ids below n that are live in w, the greatest first
unfoldable pub live_below : World → ℕ → List ℕ
live_below w zero = []
live_below w (suc n) = cond (is_live (w.obj n).kind) (n ∷ live_below w n) (live_below w n)

-- what a history has issued, the latest first: the ids that were there at its beginning (for Start f + 1 and f), then each granted call 1 or 4 to 7 its value
unfoldable pub issued : History → List ℕ
issued (beginning w) = live_below w w.next
issued (next h c x) = cond (eqb (answer_of (call (world_after h) c x)) 0 && issues x) (value_of (call (world_after h) c x) ∷ issued h) (issued h)

-- o is one of them
abbrev pub Listed : ℕ → List ℕ → Type 0
Listed o os = (i : ℕ) × (i < length os) × (get_or os i 0 ≡ o)
