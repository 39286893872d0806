-- The day `grantday` of RULES 10.2, computed from the rules.
use Rattle.std.specs.Prelude.{ℕ, ◌≡◌, refl, List, [], ◌∷◌}
use Rattle.labels.specs.Le.{le_at, le_bytes}
use Rattle.labels.specs.Core.{level_at, every_named, holds_b, compare_b, zeros_b, words_b, formed_b, insert_w, room_b, words_at, label_of, words_bytes, label_bytes}
use Rattle.quotas.specs.Sum.{Σ, when}
use Rattle.quotas.specs.Any.{any, both, either}
use Rattle.rules.specs.Kernel.{create_category, set_label, create_container, create_segment, create_thread, unreference, move_quota, read, resize, start, call, after, tests, judge}
use Rattle.rules.specs.Kernel.{unless, must, why_not, must_hold, opens, entry, make, move, access, forbids, fits, spare_of, use_of, charged, units, answer_of, value_of, output_of, leaves}
use Rattle.rules.specs.Kernel.{apply, put, link_in, under, below, stays, kept, edit, good_arguments, good_label, good_text, holds, all_hold, flow, reading, writing, floor_flow, flow_join}
use Rattle.rules.specs.Kernel.{flow_join_high, container_of, segment_of, gate_of, thread_of, cleared_at, look_bytes, overwrite, resized, or_default, kind_code, is_live, is_thread, is_gate}
use Rattle.rules.specs.Kernel.{is_segment, is_container, has_clearance, blank, nothing}
use Rattle.examples.specs.Play.{Turn, Said, Day, turn, said, day, run, played, written, words_for, lent, zeros32, into}

plain1 : List ℕ
plain1 = lent 2 []

plain2 : List ℕ
plain2 = lent 3 []

-- {102:3, 1}
tainted : List ℕ
tainted = lent 2 ((102, 4) ∷ [])

turns : List Turn
turns =
    turn 101 create_category
    ∷ turn 101 (create_container 100 tainted zeros32 0 20)
    ∷ turn 101 (create_segment 103 tainted zeros32 0)
    ∷ turn 101 (resize 103 104 256)
    ∷ turn 101 (resize 103 104 257)
    ∷ turn 101 (create_thread 100 plain1 plain2 zeros32)
    ∷ turn 107 (read 103 104 0 0 1)
    ∷ turn 107 (set_label tainted)
    ∷ turn 107 (create_segment 100 plain1 zeros32 234)
    ∷ turn 107 (create_segment 100 plain1 zeros32 233)
    ∷ turn 101 (move_quota 100 103 (into 1))
    ∷ turn 101 (create_segment 103 tainted zeros32 14)
    ∷ turn 101 (create_segment 103 tainted zeros32 1)
    ∷ turn 101 (unreference 100 111)
    ∷ turn 111 create_category
    ∷ turn 101 (move_quota 100 103 (into 1))
    ∷ []

-- the sixteen lines of RULES 10.2: answer and value
printed : List Said
printed =
    said 0 102 []
    ∷ said 0 103 []
    ∷ said 0 104 []
    ∷ said 0 0 []
    ∷ said 13 0 []
    ∷ said 0 107 []
    ∷ said 5 0 []
    ∷ said 7 0 []
    ∷ said 13 0 []
    ∷ said 0 111 []
    ∷ said 13 0 []
    ∷ said 0 113 []
    ∷ said 13 0 []
    ∷ said 0 0 []
    ∷ said 3 0 []
    ∷ said 0 0 []
    ∷ []

pub days : List Day
days = day 100 turns printed ∷ []

pub grantday : played days ≡ written days
unfolding days turns printed plain1 plain2 tainted run played written words_for lent zeros32 start call after tests judge unless must why_not must_hold opens entry make move
    access forbids fits spare_of use_of charged units answer_of value_of output_of leaves apply put link_in under below stays kept edit good_arguments good_label good_text holds
    all_hold flow reading writing floor_flow flow_join flow_join_high container_of segment_of gate_of thread_of cleared_at look_bytes overwrite resized or_default kind_code is_live
    is_thread is_gate is_segment is_container has_clearance blank nothing Σ when any both either le_at le_bytes level_at every_named holds_b compare_b zeros_b words_b formed_b insert_w
    room_b words_at label_of words_bytes label_bytes
grantday = refl
