-- What the calls so far have left at each place of each segment, reckoned from the calls alone. RULES 8.13:
-- "The bytes take the place of those in S from 64k + from on." 8.14: "Bytes that it gains are zero, .. bytes
-- that it loses are set to zero in the area." 8.5: "The segment has no bytes yet, .."
use Rattle.std.specs.Prelude.{ℕ, ◌+◌, ◌*◌, ◌-◌, Bool, false, cond, ◌&&◌, length, get_or, eqb, leb, ltb}
use Rattle.rules.specs.Kernel.{Call, create_category, set_label, set_clearance, create_container, create_segment, create_gate, create_thread, unreference, link_segment, fix_quota}
use Rattle.rules.specs.Kernel.{move_quota, read, write, resize, enter_gate, look, call, answer_of, is_live, History, beginning, next, world_after, block_size}

-- place i of the segment s after a granted call, where `was` stood before it
unfoldable pub left_by : Call → ℕ → ℕ → ℕ → ℕ
left_by (write d t k from count b) s i was =
    cond (eqb s t && (leb (block_size * k + from) i && ltb i (block_size * k + from + length b))) (get_or b (i - (block_size * k + from)) 0) was
left_by (resize d t n) s i was = cond (eqb s t && leb n i) 0 was
left_by create_category s i was = was
left_by (set_label l) s i was = was
left_by (set_clearance x) s i was = was
left_by (create_container d l y m q) s i was = was
left_by (create_segment d l y q) s i was = was
left_by (create_gate d l k e x y) s i was = was
left_by (create_thread d l k y) s i was = was
left_by (unreference d o) s i was = was
left_by (link_segment d1 o d) s i was = was
left_by (fix_quota d o) s i was = was
left_by (move_quota d o n) s i was = was
left_by (read d t k from count) s i was = was
left_by (enter_gate d g lr cr lv out) s i was = was
left_by (look d o out) s i was = was

-- the byte last written at place i of the segment s; at first what the beginning has there, 0 where it has nothing or where a resize has cut it off since.
-- Any answer but 0 writes nothing (RULES 6.14).
unfoldable pub last_written : History → ℕ → ℕ → ℕ
last_written (beginning w) s i = cond (is_live (w.obj s).kind) (get_or (w.obj s).bytes i 0) 0
last_written (next h c x) s i = cond (eqb (answer_of (call (world_after h) c x)) 0) (left_by x s i (last_written h s i)) (last_written h s i)

-- the call is a write or a resize of the segment s
unfoldable pub rewrites : Call → ℕ → Bool
rewrites (write d t k from count b) s = eqb s t
rewrites (resize d t n) s = eqb s t
rewrites create_category s = false
rewrites (set_label l) s = false
rewrites (set_clearance x) s = false
rewrites (create_container d l y m q) s = false
rewrites (create_segment d l y q) s = false
rewrites (create_gate d l k e x y) s = false
rewrites (create_thread d l k y) s = false
rewrites (unreference d o) s = false
rewrites (link_segment d1 o d) s = false
rewrites (fix_quota d o) s = false
rewrites (move_quota d o n) s = false
rewrites (read d t k from count) s = false
rewrites (enter_gate d g lr cr lv out) s = false
rewrites (look d o out) s = false
