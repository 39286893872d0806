-- Short histories, each through a rule that is easily got wrong (most are those of RULES 10.3). All start at
-- 5: the root is 5, its thread 6, the first call 7.
use Rattle.std.specs.Prelude.{ℕ, ◌≡◌, refl, List, [], ◌∷◌, replicate}
use Rattle.labels.specs.Le.{le_at, le_bytes}
use Rattle.labels.specs.Core.{level_at, every_named, holds_b, compare_b, zeros_b, words_b, formed_b, insert_w, room_b, words_at, label_of, words_bytes, label_bytes}
use Rattle.quotas.specs.Sum.{Σ, when}
use Rattle.quotas.specs.Any.{any, both, either}
use Rattle.rules.specs.Kernel.{create_category, set_label, create_container, create_segment, create_gate, create_thread, unreference, link_segment, fix_quota, read, write, resize}
use Rattle.rules.specs.Kernel.{enter_gate, start, call, after, tests, judge, unless, must, why_not, must_hold, opens, entry, make, move, access, forbids, fits, spare_of, use_of}
use Rattle.rules.specs.Kernel.{charged, units, answer_of, value_of, output_of, leaves, apply, put, link_in, under, below, stays, kept, edit, good_arguments, good_label, good_text, holds}
use Rattle.rules.specs.Kernel.{all_hold, flow, reading, writing, floor_flow, flow_join, flow_join_high, container_of, segment_of, gate_of, thread_of, cleared_at, look_bytes, overwrite}
use Rattle.rules.specs.Kernel.{resized, or_default, kind_code, is_live, is_thread, is_gate, is_segment, is_container, has_clearance, blank, nothing}
use Rattle.examples.specs.Play.{Turn, Said, Day, turn, said, day, run, played, written, words_for, lent, zeros32}

-- the labels {1}, {2}, {7:3, 1}, {7:star, 1}, {7:3, 2}
one : List ℕ
one = lent 2 []

two : List ℕ
two = lent 3 []

secret : List ℕ
secret = lent 2 ((7, 4) ∷ [])

owner : List ℕ
owner = lent 2 ((7, 0) ∷ [])

clearance : List ℕ
clearance = lent 3 ((7, 4) ∷ [])

-- RULES 10.3: "(a) to answer 7 where a container may not be read and 5 where there is none, which tells that
-- it exists;" Container 8 is unreadable to thread 9, 77 is nobody.
existence : List Turn
existence =
    turn 6 create_category
    ∷ turn 6 (create_container 5 secret zeros32 0 20)
    ∷ turn 6 (create_thread 5 one two zeros32)
    ∷ turn 9 (create_segment 8 one zeros32 1)
    ∷ turn 9 (create_segment 77 one zeros32 1)
    ∷ turn 6 (create_segment 8 secret zeros32 1)
    ∷ []

existence_said : List Said
existence_said = said 0 7 [] ∷ said 0 8 [] ∷ said 0 9 [] ∷ said 5 0 [] ∷ said 5 0 [] ∷ said 0 12 [] ∷ []

-- RULES 10.3: "(b) to compare labels only at the categories that they name;" Nobody names a category here:
-- {2} does not flow to {1}, so the thread at {1} cannot read, nor that at {2} write below it.
unnamed : List Turn
unnamed =
    turn 6 (create_segment 5 two zeros32 0)
    ∷ turn 6 (read 5 7 0 0 0)
    ∷ turn 6 (set_label two)
    ∷ turn 6 (read 5 7 0 0 0)
    ∷ turn 6 (create_segment 5 two zeros32 0)
    ∷ []

unnamed_said : List Said
unnamed_said = said 0 7 [] ∷ said 7 0 [] ∷ said 0 0 [] ∷ said 0 0 [] ∷ said 7 0 [] ∷ []

-- RULES 10.3: "(c) to give the number of a refused call to the next one;" The root has 254 to spare; call 7
-- wants 255 and takes its number all the same.
numbers : List Turn
numbers = turn 6 (create_segment 5 one zeros32 255) ∷ turn 6 (create_segment 5 one zeros32 254) ∷ turn 6 (create_segment 5 one zeros32 1) ∷ []

numbers_said : List Said
numbers_said = said 13 0 [] ∷ said 0 8 [] ∷ said 13 0 [] ∷ []

-- RULES 10.3: "(d) to set a block to zero when it is freed, and rely on that when it is taken again;" What
-- was cut off reads as zero when the segment grows again.
cleared : List Turn
cleared =
    turn 6 (create_segment 5 one zeros32 0)
    ∷ turn 6 (resize 5 7 4)
    ∷ turn 6 (write 5 7 0 0 4 (9 ∷ 8 ∷ 7 ∷ 6 ∷ []))
    ∷ turn 6 (resize 5 7 2)
    ∷ turn 6 (resize 5 7 4)
    ∷ turn 6 (read 5 7 0 0 4)
    ∷ turn 6 (read 5 7 0 1 4)
    ∷ turn 6 (read 5 7 0 4 0)
    ∷ turn 6 (read 5 7 0 5 0)
    ∷ []

cleared_said : List Said
cleared_said =
    said 0 7 [] ∷ said 0 0 [] ∷ said 0 0 [] ∷ said 0 0 [] ∷ said 0 0 [] ∷ said 0 0 (9 ∷ 8 ∷ 0 ∷ 0 ∷ []) ∷ said 11 0 [] ∷ said 0 0 [] ∷ said 11 0 [] ∷ []

-- RULES 10.3: "(e) to charge a segment that is linked twice only once." Segment 8 (quota 6) lies in the root
-- and in container 7 (quota 10), and is charged in both; cutting one link gives back six there.
charged_twice : List Turn
charged_twice =
    turn 6 (create_container 5 one zeros32 0 10)
    ∷ turn 6 (create_segment 5 one zeros32 6)
    ∷ turn 6 (link_segment 5 8 7)
    ∷ turn 6 (fix_quota 5 8)
    ∷ turn 6 (link_segment 5 8 7)
    ∷ turn 6 (link_segment 5 8 7)
    ∷ turn 6 (create_segment 7 one zeros32 4)
    ∷ turn 6 (create_segment 7 one zeros32 3)
    ∷ turn 6 (create_segment 5 one zeros32 239)
    ∷ turn 6 (create_segment 5 one zeros32 238)
    ∷ turn 6 (unreference 5 8)
    ∷ turn 6 (resize 7 8 64)
    ∷ turn 6 (create_segment 5 one zeros32 7)
    ∷ turn 6 (create_segment 5 one zeros32 6)
    ∷ []

charged_twice_said : List Said
charged_twice_said =
    said 0 7 [] ∷ said 0 8 [] ∷ said 9 0 [] ∷ said 0 0 [] ∷ said 0 0 [] ∷ said 10 0 [] ∷ said 13 0 [] ∷ said 0 14 [] ∷ said 13 0 [] ∷ said 0 16 [] ∷ said 0 0 []
    ∷ said 0 0 [] ∷ said 13 0 [] ∷ said 0 20 [] ∷ []

-- Container 7 forbids segments (bit 2), and 9 in it gets the bit too. RULES 8.4: "Of the other calls only
-- call 9 looks at a mask." So a link brings none in either.
masked : List Turn
masked =
    turn 6 (create_container 5 one zeros32 4 20)
    ∷ turn 6 (create_segment 7 one zeros32 1)
    ∷ turn 6 (create_container 7 one zeros32 0 10)
    ∷ turn 6 (create_segment 9 one zeros32 1)
    ∷ turn 6 (create_thread 9 one two zeros32)
    ∷ turn 6 (create_segment 5 one zeros32 3)
    ∷ turn 6 (fix_quota 5 12)
    ∷ turn 6 (link_segment 5 12 9)
    ∷ []

masked_said : List Said
masked_said = said 0 7 [] ∷ said 8 0 [] ∷ said 0 9 [] ∷ said 8 0 [] ∷ said 0 11 [] ∷ said 0 12 [] ∷ said 0 0 [] ∷ said 8 0 [] ∷ []

-- A gate passes on ownership: floor(T, G) has star where G has it (as join would not). Thread 10 gets star at 7 and can then use container 8.
ownership : List Turn
ownership =
    turn 6 create_category
    ∷ turn 6 (create_container 5 secret zeros32 0 20)
    ∷ turn 6 (create_gate 5 owner clearance 77 (replicate 32 1) zeros32)
    ∷ turn 6 (create_thread 5 one two zeros32)
    ∷ turn 10 (create_segment 8 secret zeros32 1)
    ∷ turn 10 (enter_gate 5 9 owner clearance (lent 4 []) 31)
    ∷ turn 10 (enter_gate 5 9 owner clearance (lent 4 []) 32)
    ∷ turn 10 (create_segment 8 secret zeros32 1)
    ∷ []

ownership_said : List Said
ownership_said =
    said 0 7 [] ∷ said 0 8 [] ∷ said 0 9 [] ∷ said 0 10 [] ∷ said 5 0 [] ∷ said 4 0 [] ∷ said 0 77 (replicate 32 1) ∷ said 0 14 [] ∷ []

pub days : List Day
days =
    day 5 existence existence_said
    ∷ day 5 unnamed unnamed_said
    ∷ day 5 numbers numbers_said
    ∷ day 5 cleared cleared_said
    ∷ day 5 charged_twice charged_twice_said
    ∷ day 5 masked masked_said
    ∷ day 5 ownership ownership_said
    ∷ []

-- every call of these histories says what is written beside it
pub easy_errors : played days ≡ written days
unfolding days existence existence_said unnamed unnamed_said numbers numbers_said cleared cleared_said charged_twice charged_twice_said masked masked_said ownership
    ownership_said one two secret owner clearance run played written words_for lent zeros32 start call after tests judge unless must why_not must_hold opens entry make move
    access forbids fits spare_of use_of charged units answer_of value_of output_of leaves apply put link_in under below stays kept edit good_arguments good_label good_text holds
    all_hold flow reading writing floor_flow flow_join flow_join_high container_of segment_of gate_of thread_of cleared_at look_bytes overwrite resized or_default kind_code is_live
    is_thread is_gate is_segment is_container has_clearance blank nothing Σ when any both either le_at le_bytes level_at every_named holds_b compare_b zeros_b words_b formed_b insert_w
    room_b words_at label_of words_bytes label_bytes
easy_errors = refl
