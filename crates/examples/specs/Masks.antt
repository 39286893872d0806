-- W2: call 9 asks the mask too, and what was linked before it did goes on (RULES 12.7 and 12.8). Histories
-- start at 5: the root is 5, its thread 6, the first call 7. Container 7 forbids segments.
use Rattle.std.specs.Prelude.{ℕ, Bool, true, not, cond, ◌≡◌, refl, List, [], ◌∷◌, ◌++◌, replicate, leb}
use Rattle.std.proofs.Common.{arith}
use Rattle.labels.specs.Le.{le_at, le_bytes}
use Rattle.labels.specs.Core.{level_at, every_named, holds_b, compare_b, zeros_b, words_b, formed_b, insert_w, room_b, words_at, label_of, words_bytes, label_bytes}
use Rattle.quotas.specs.Sum.{Σ, when}
use Rattle.quotas.specs.Any.{any, both, either}
use Rattle.rules.specs.Kernel.{create_category, set_label, set_clearance, create_container, create_segment, create_gate, create_thread, unreference, link_segment, fix_quota, move_quota}
use Rattle.rules.specs.Kernel.{read, write, resize, enter_gate, look, World, link, segment, last_number, History, started, next, world_after, startable, start, call, after, tests}
use Rattle.rules.specs.Kernel.{judge, unless, must, why_not, must_hold, opens, entry, make, move, access, forbids, fits, spare_of, use_of, charged, units, answer_of, value_of}
use Rattle.rules.specs.Kernel.{output_of, leaves, apply, put, link_in, under, below, stays, kept, edit, good_arguments, good_label, good_text, holds, all_hold, flow, reading, writing}
use Rattle.rules.specs.Kernel.{floor_flow, flow_join, flow_join_high, container_of, segment_of, gate_of, thread_of, cleared_at, look_bytes, overwrite, resized, or_default, kind_code}
use Rattle.rules.specs.Kernel.{is_live, is_thread, is_gate, is_segment, is_container, has_clearance, blank, nothing}
use Rattle.rules.specs.Sound.{Sound}
use Rattle.rules.specs.Fair.{Linked}
use Rattle.rules.specs.Histories.{first_world, WellStarted}
use Rattle.rules.specs.Masks.{forbidden_in}
use Rattle.rules.proofs.Laws.Keep.{keep_sound}
use Rattle.rules.proofs.Theorems.StaysSound.{start_is_sound, history_sound}
use Rattle.examples.specs.Play.{Turn, Said, turn, said, run, words_for, lent, zeros32, into}

unfoldable pub one : List ℕ
one = lent 2 []

unfoldable pub two : List ℕ
two = lent 3 []

-- ---- a link from before W2

-- calls 7 to 9: container 7, which forbids segments, and segment 8 in the root, its quota fixed
unfoldable pub morning : History
morning =
    next (next (next (started 5)
    6 (create_container 5 one zeros32 4 20))
    6 (create_segment 5 one zeros32 3))
    6 (fix_quota 5 8)

-- call 10 as page 01 had it: segment 8 is linked in container 7
unfoldable pub old : World
old = apply (link 7 8) (world_after morning)

pub record Linking : Type 0 where
  -- all that call 9 asked for then, and the mask is not among it
  pub fair : Linked (world_after morning) 7 8
  pub going : leb (world_after morning).next last_number ≡ true
  -- the container forbids segments and has one, has it still after a granted read of it, and one more link into it answers 8
  pub stands : forbidden_in old 7 8 ≡ true
  pub reads : answer_of (call old 6 (read 7 8 0 0 0)) ≡ 0
  pub stays : forbidden_in (after old 6 (read 7 8 0 0 0)) 7 8 ≡ true
  pub further : answer_of (call old 6 (link_segment 5 8 7)) ≡ 8

pub linking : Linking
unfolding morning old forbidden_in one words_for lent zeros32
    world_after start call after tests judge unless must why_not must_hold opens entry make move access forbids fits spare_of use_of charged units answer_of value_of output_of leaves
    apply put link_in under below stays kept edit good_arguments good_label good_text holds all_hold flow reading writing floor_flow flow_join flow_join_high container_of segment_of
    gate_of thread_of cleared_at look_bytes overwrite resized or_default kind_code is_live is_thread is_gate is_segment is_container has_clearance blank nothing Σ when any both either
    le_at le_bytes level_at every_named holds_b compare_b zeros_b words_b formed_b insert_w room_b words_at label_of words_bytes label_bytes
linking =
    record {
      fair = record { is_container_lem = refl; is_segment_lem = refl; is_fixed_lem = refl; is_new = refl; room = omega arith };
      going = refl;
      stands = refl;
      reads = refl;
      stays = refl;
      further = refl;
    }

pub started_well : WellStarted morning
unfolding morning first_world startable
started_well = start_is_sound 5 refl

-- So the world with that link is sound: soundness does not ask what a mask says of a segment.
pub old_sound : Sound old
unfolding old
old_sound = keep_sound (world_after morning) (history_sound morning started_well) linking.going (link 7 8) linking.fair

-- Calls 11 to 34 on it. Each of the sixteen is granted at least once, where it can be in container 7 or on segment 8. Only what would bring a segment into 7 is refused, by 8: a create
-- (17), a link of 8 itself (21), of segment 22 while its quota is not fixed (23) and when it is (25), and of 8 again when the old link is cut (34). Call 27 links 8 out of 7.
pub afternoon : List Turn
afternoon =
    turn 6 (read 7 8 0 0 0)
    ∷ turn 6 (resize 7 8 4)
    ∷ turn 6 (write 7 8 0 1 2 (9 ∷ 8 ∷ []))
    ∷ turn 6 (read 7 8 0 0 4)
    ∷ turn 6 (fix_quota 7 8)
    ∷ turn 6 (look 7 8 104)
    ∷ turn 6 (create_segment 7 one zeros32 1)
    ∷ turn 6 (create_container 7 one zeros32 0 5)
    ∷ turn 6 (create_gate 7 one two 77 (replicate 32 1) zeros32)
    ∷ turn 6 (create_thread 7 one two zeros32)
    ∷ turn 6 (link_segment 5 8 7)
    ∷ turn 6 (create_segment 5 one zeros32 2)
    ∷ turn 6 (link_segment 5 22 7)
    ∷ turn 6 (fix_quota 5 22)
    ∷ turn 6 (link_segment 5 22 7)
    ∷ turn 6 (create_container 5 one zeros32 0 9)
    ∷ turn 6 (link_segment 7 8 26)
    ∷ turn 6 (move_quota 7 18 (into 1))
    ∷ turn 20 (enter_gate 7 19 one two one 32)
    ∷ turn 20 (set_label two)
    ∷ turn 20 (set_clearance two)
    ∷ turn 6 create_category
    ∷ turn 6 (unreference 7 8)
    ∷ turn 6 (link_segment 5 8 7)
    ∷ []

pub afternoon_said : List Said
afternoon_said =
    said 0 0 [] ∷ said 0 0 [] ∷ said 0 0 [] ∷ said 0 0 (0 ∷ 9 ∷ 8 ∷ 0 ∷ []) ∷ said 0 0 [] ∷ said 0 0 (replicate 32 0 ++ (3 ∷ 1 ∷ 2 ∷ replicate 69 0))
    ∷ said 8 0 [] ∷ said 0 18 [] ∷ said 0 19 [] ∷ said 0 20 [] ∷ said 8 0 [] ∷ said 0 22 [] ∷ said 8 0 [] ∷ said 0 0 [] ∷ said 8 0 [] ∷ said 0 26 []
    ∷ said 0 0 [] ∷ said 0 0 [] ∷ said 0 77 (replicate 32 1) ∷ said 0 0 [] ∷ said 0 0 [] ∷ said 0 32 [] ∷ said 0 0 [] ∷ said 8 0 [] ∷ []

-- every call says what is written
pub goes_on : run afternoon old ≡ afternoon_said
unfolding afternoon afternoon_said run morning old one two words_for lent zeros32
    world_after start call after tests judge unless must why_not must_hold opens entry make move access forbids fits spare_of use_of charged units answer_of value_of output_of leaves
    apply put link_in under below stays kept edit good_arguments good_label good_text holds all_hold flow reading writing floor_flow flow_join flow_join_high container_of segment_of
    gate_of thread_of cleared_at look_bytes overwrite resized or_default kind_code is_live is_thread is_gate is_segment is_container has_clearance blank nothing Σ when any both either
    le_at le_bytes level_at every_named holds_b compare_b zeros_b words_b formed_b insert_w room_b words_at label_of words_bytes label_bytes
goes_on = refl

-- ---- the order 7, 8, 9, 10, 13

-- Containers 7 (forbids segments, quota 20), 8 (quota 4) and 16 (quota 20). Segments in the root, fixed: 9 (quota 3, also in 8), 11 (quota 30), 18 (quota 3); not fixed:
-- 13 (quota 2), 14 (quota 40). Thread 17 at {2} may read the containers, and write none. Then segment 9 is linked in 7, as in a book from before W2.
unfoldable pub crowd : History
crowd =
    next (next (next (next (next (next (next (next (next (next (next (next (next (started 5)
    6 (create_container 5 one zeros32 4 20))
    6 (create_container 5 one zeros32 0 4))
    6 (create_segment 5 one zeros32 3))
    6 (fix_quota 5 9))
    6 (create_segment 5 one zeros32 30))
    6 (fix_quota 5 11))
    6 (create_segment 5 one zeros32 2))
    6 (create_segment 5 one zeros32 40))
    6 (link_segment 5 9 8))
    6 (create_container 5 one zeros32 0 20))
    6 (create_thread 5 two two zeros32))
    6 (create_segment 5 one zeros32 3))
    6 (fix_quota 5 18)

unfoldable pub crowded : World
crowded = apply (link 7 9) (world_after crowd)

-- It is sound too, so a book can spell it.
crowd_fair : Linked (world_after crowd) 7 9
unfolding crowd one two words_for lent zeros32
    world_after start call after tests judge unless must why_not must_hold opens entry make move access forbids fits spare_of use_of charged units answer_of value_of output_of leaves
    apply put link_in under below stays kept edit good_arguments good_label good_text holds all_hold flow reading writing floor_flow flow_join flow_join_high container_of segment_of
    gate_of thread_of cleared_at look_bytes overwrite resized or_default kind_code is_live is_thread is_gate is_segment is_container has_clearance blank nothing Σ when any both either
    le_at le_bytes level_at every_named holds_b compare_b zeros_b words_b formed_b insert_w room_b words_at label_of words_bytes label_bytes
crowd_fair = record { is_container_lem = refl; is_segment_lem = refl; is_fixed_lem = refl; is_new = refl; room = omega arith }

crowd_going : leb (world_after crowd).next last_number ≡ true
unfolding crowd one two words_for lent zeros32
    world_after start call after tests judge unless must why_not must_hold opens entry make move access forbids fits spare_of use_of charged units answer_of value_of output_of leaves
    apply put link_in under below stays kept edit good_arguments good_label good_text holds all_hold flow reading writing floor_flow flow_join flow_join_high container_of segment_of
    gate_of thread_of cleared_at look_bytes overwrite resized or_default kind_code is_live is_thread is_gate is_segment is_container has_clearance blank nothing Σ when any both either
    le_at le_bytes level_at every_named holds_b compare_b zeros_b words_b formed_b insert_w room_b words_at label_of words_bytes label_bytes
crowd_going = refl

crowd_well : WellStarted crowd
unfolding crowd first_world startable
crowd_well = start_is_sound 5 refl

pub crowded_sound : Sound crowded
unfolding crowded
crowded_sound = keep_sound (world_after crowd) (history_sound crowd crowd_well) crowd_going (link 7 9) crowd_fair

-- a link that is asked for: by whom, of which segment of the root, into which container
pub record Asked : Type 0 where
  pub caller : ℕ
  pub object : ℕ
  pub into : ℕ

abbrev pub asked : ℕ → ℕ → ℕ → Asked
asked c o d = record { caller = c; object = o; into = d }

-- k is added where the test fails
unfoldable pub failing : Bool → ℕ → List ℕ → List ℕ
failing p k ks = cond p ks (k ∷ ks)

-- which of the numbers apply to it, each test made by itself
unfoldable pub applying : World → Asked → List ℕ
applying w l =
    let t = w.obj l.caller in
    let o = w.obj l.object in
    let d = w.obj l.into in
    failing (all_hold (writing t.label d.label ++ (flow o.label t.clearance ∷ []))) 7
    (failing (not (forbids d.mask segment)) 8
    (failing o.fixed 9
    (failing (not (w.linked l.into l.object)) 10
    (failing (fits w l.into o.quota) 13 []))))

-- with the answer
unfoldable pub told : World → List Asked → List (List ℕ × ℕ)
told w [] = []
told w (l ∷ ls) = (applying w l, answer_of (call w l.caller (link_segment 5 l.object l.into))) ∷ told w ls

-- none; each number alone; each pair
pub links : List Asked
links =
    asked 6 18 16
    ∷ asked 17 18 16
    ∷ asked 6 18 7
    ∷ asked 6 13 16
    ∷ asked 6 9 5
    ∷ asked 6 11 16
    ∷ asked 17 18 7
    ∷ asked 17 13 16
    ∷ asked 17 9 5
    ∷ asked 17 11 16
    ∷ asked 6 13 7
    ∷ asked 6 9 7
    ∷ asked 6 11 7
    ∷ asked 6 13 5
    ∷ asked 6 14 16
    ∷ asked 6 9 8
    ∷ []

pub in_order : List (List ℕ × ℕ)
in_order =
    ([], 0)
    ∷ (7 ∷ [], 7)
    ∷ (8 ∷ [], 8)
    ∷ (9 ∷ [], 9)
    ∷ (10 ∷ [], 10)
    ∷ (13 ∷ [], 13)
    ∷ (7 ∷ 8 ∷ [], 7)
    ∷ (7 ∷ 9 ∷ [], 7)
    ∷ (7 ∷ 10 ∷ [], 7)
    ∷ (7 ∷ 13 ∷ [], 7)
    ∷ (8 ∷ 9 ∷ [], 8)
    ∷ (8 ∷ 10 ∷ [], 8)
    ∷ (8 ∷ 13 ∷ [], 8)
    ∷ (9 ∷ 10 ∷ [], 9)
    ∷ (9 ∷ 13 ∷ [], 9)
    ∷ (10 ∷ 13 ∷ [], 10)
    ∷ []

-- Of two numbers that apply to a link the lower one is answered, whichever two.
pub lower_first : told crowded links ≡ in_order
unfolding crowd crowded failing applying told links in_order one two words_for lent zeros32
    world_after start call after tests judge unless must why_not must_hold opens entry make move access forbids fits spare_of use_of charged units answer_of value_of output_of leaves
    apply put link_in under below stays kept edit good_arguments good_label good_text holds all_hold flow reading writing floor_flow flow_join flow_join_high container_of segment_of
    gate_of thread_of cleared_at look_bytes overwrite resized or_default kind_code is_live is_thread is_gate is_segment is_container has_clearance blank nothing Σ when any both either
    le_at le_bytes level_at every_named holds_b compare_b zeros_b words_b formed_b insert_w room_b words_at label_of words_bytes label_bytes
lower_first = refl
