-- Which refusal numbers each call has, by sections 6 and 8 of docs/RULES.md; what a refused call leaves; what
-- answer 0 means, and how many bytes a granted call puts out.
use Rattle.std.specs.Prelude.{ℕ, suc, Bool, false, ◌||◌, ◌≡◌, List, [], ◌∷◌, eqb}
use Rattle.rules.specs.Kernel.{World, Call, create_category, set_label, set_clearance, create_container, create_segment, create_gate, create_thread, unreference, link_segment}
use Rattle.rules.specs.Kernel.{fix_quota, move_quota, read, write, resize, enter_gate, look, Change, apply, grant, call, value_of, output_of, after, text_size, look_size}

-- k stands in the list
unfoldable pub one_of : ℕ → List ℕ → Bool
one_of k [] = false
one_of k (n ∷ ns) = eqb k n || one_of k ns

-- the numbers from 4 on that a call can be refused by. RULES 8: "Refusals 1, 2 and 3 come first in every
-- call. .. The other refusals are named with each call, in order, and it has no more."
unfoldable pub numbers_of : Call → List ℕ
numbers_of create_category = 12 ∷ []
numbers_of (set_label l) = 4 ∷ 7 ∷ []
numbers_of (set_clearance c) = 4 ∷ 7 ∷ []
numbers_of (create_container d l s m q) = 4 ∷ 5 ∷ 7 ∷ 8 ∷ 13 ∷ []
numbers_of (create_segment d l s q) = 4 ∷ 5 ∷ 7 ∷ 8 ∷ 13 ∷ []
numbers_of (create_gate d l c e x s) = 4 ∷ 5 ∷ 7 ∷ 8 ∷ 13 ∷ []
numbers_of (create_thread d l c s) = 4 ∷ 5 ∷ 7 ∷ 8 ∷ 13 ∷ []
numbers_of (unreference d o) = 5 ∷ 7 ∷ []
numbers_of (link_segment d1 o d) = 5 ∷ 6 ∷ 7 ∷ 8 ∷ 9 ∷ 10 ∷ 13 ∷ []
numbers_of (fix_quota d o) = 5 ∷ 6 ∷ 7 ∷ []
numbers_of (move_quota d o n) = 4 ∷ 5 ∷ 6 ∷ 7 ∷ 9 ∷ 13 ∷ []
numbers_of (read d s k f m) = 4 ∷ 5 ∷ 6 ∷ 7 ∷ 11 ∷ []
numbers_of (write d s k f m b) = 4 ∷ 5 ∷ 6 ∷ 7 ∷ 11 ∷ []
numbers_of (resize d s m) = 4 ∷ 5 ∷ 6 ∷ 7 ∷ 13 ∷ []
numbers_of (enter_gate d g lr cr lv out) = 4 ∷ 5 ∷ 6 ∷ 7 ∷ []
numbers_of (look d o out) = 4 ∷ 5 ∷ []

-- v is w but for the next number, which has moved on by one: RULES 6.14
pub record NumberTaken (w v : World) : Type 0 where
  pub next : v.next ≡ suc w.next
  pub root : v.root ≡ w.root
  pub obj : (o : ℕ) → v.obj o ≡ w.obj o
  pub linked : (d o : ℕ) → v.linked d o ≡ w.linked d o

-- a granted call: its verdict is a grant of its value, its output and a change, and the world after has that change
pub record Granted (w : World) (c : ℕ) (x : Call) : Type 0 where
  pub change : Change
  pub verdict : call w c x ≡ grant (value_of (call w c x)) (output_of (call w c x)) change
  pub world : after w c x ≡ apply change w

-- call 12 puts out the bytes asked for (RULES 8.12), call 15 32 closure bytes (8.15), call 16 104 bytes
-- (8.16), and no other call any
unfoldable pub output_size : Call → ℕ
output_size create_category = 0
output_size (set_label l) = 0
output_size (set_clearance c) = 0
output_size (create_container d l s m q) = 0
output_size (create_segment d l s q) = 0
output_size (create_gate d l c e x s) = 0
output_size (create_thread d l c s) = 0
output_size (unreference d o) = 0
output_size (link_segment d1 o d) = 0
output_size (fix_quota d o) = 0
output_size (move_quota d o n) = 0
output_size (read d s k f n) = n
output_size (write d s k f n b) = 0
output_size (resize d s n) = 0
output_size (enter_gate d g lr cr lv out) = text_size
output_size (look d o out) = look_size
