-- The premises of the theorems over histories are met: `grantday` (RULES 10.2), taken up to several of its
-- calls, has what they ask for, and what they promise is what it computes. Container 103 is granted 20 units
-- for thread 101's work; thread 107 is a neighbour that may not write it.
use Rattle.std.specs.Prelude.{ℕ, ◌<◌, true, false, ◌≡◌, refl, List, [], ◌∷◌, negsuc}
use Rattle.std.proofs.Common.{arith}
use Rattle.labels.specs.Le.{le_at, le_bytes}
use Rattle.labels.specs.Core.{level_at, every_named, holds_b, compare_b, zeros_b, words_b, formed_b, insert_w, room_b, words_at, label_of, words_bytes, label_bytes}
use Rattle.quotas.specs.Sum.{Σ, when}
use Rattle.quotas.specs.Any.{any, both, either}
use Rattle.rules.specs.Kernel.{Call, create_category, set_label, create_container, create_segment, create_thread, unreference, move_quota, read, write, resize, History, started, next}
use Rattle.rules.specs.Kernel.{world_after, startable, start, call, after, tests, judge, unless, must, why_not, must_hold, opens, entry, make, move, access, forbids, fits, spare_of}
use Rattle.rules.specs.Kernel.{use_of, hold_of, charged, units, answer_of, leaves, apply, put, link_in, under, below, stays, kept, edit, good_arguments, good_label, good_text, holds}
use Rattle.rules.specs.Kernel.{all_hold, flow, reading, writing, floor_flow, flow_join, flow_join_high, container_of, segment_of, gate_of, thread_of, cleared_at, overwrite, resized}
use Rattle.rules.specs.Kernel.{or_default, kind_code, is_live, is_thread, is_gate, is_segment, is_container, has_clearance, blank, nothing}
use Rattle.rules.specs.Sound.{Sound}
use Rattle.rules.specs.Histories.{first_world, WellStarted}
use Rattle.rules.specs.Ledger.{line_if, line_of, granted, granted_by, charge, charge_by, reckoned, takes_units, asked_of, units_asked, refused_earlier, writer, Meanwhile, nothing_yet, another}
use Rattle.rules.specs.Trees.{in_tree}
use Rattle.rules.specs.Written.{last_written, left_by}
use Rattle.rules.proofs.Theorems.StaysSound.{start_is_sound, history_sound}
use Rattle.rules.proofs.Theorems.Granted.{room_is_kept, growth_is_kept}
use Rattle.rules.proofs.Theorems.Shrinks.{reckoned_shrinks_by}
use Rattle.examples.specs.Play.{words_for, lent, zeros32, bytes_b, into}

unfoldable pub one : List ℕ
one = lent 2 []

unfoldable pub two : List ℕ
two = lent 3 []

unfoldable pub tainted : List ℕ
tainted = lent 2 ((102, 4) ∷ [])

-- call 103: the job's container, granted 20 units
unfoldable pub room : Call
room = create_container 100 tainted zeros32 0 20

-- call 104: the segment in it, for its list
unfoldable pub list : Call
list = create_segment 103 tainted zeros32 0

-- calls 102 and 103: the first create
unfoldable pub morning : History
morning = next (next (started 100) 101 create_category) 101 room

-- calls 102 to 105: the list has grown as far as its quota
unfoldable pub grown : History
grown = next (next morning 101 list) 101 (resize 103 104 256)

-- calls 102 to 107: the job has its container and its segment, and the neighbour its thread
unfoldable pub granting : History
granting =
    next (next grown
    101 (resize 103 104 257))
    101 (create_thread 100 one two zeros32)

-- calls 108 to 111: the neighbour looks, raises its label, and takes what it can get of the root
unfoldable pub crowding : History
crowding =
    next (next (next (next granting
    107 (read 103 104 0 0 1))
    107 (set_label tainted))
    107 (create_segment 100 one zeros32 234))
    107 (create_segment 100 one zeros32 233)

-- the job's next create, for all that is left of its container
unfoldable pub fill : Call
fill = create_segment 103 tainted zeros32 14

-- calls 112 to 114: the root has no unit left, the job's container has its 14, and then none
unfoldable pub filled : History
filled = next (next crowding 101 (move_quota 100 103 (into 1))) 101 fill

unfoldable pub one_more : Call
one_more = create_segment 103 tainted zeros32 1

-- the whole day, to call 117: the neighbour's segment goes, and there is room again
unfoldable pub whole_day : History
whole_day =
    next (next (next (next filled
    101 one_more)
    101 (unreference 100 111))
    111 create_category)
    101 (move_quota 100 103 (into 1))

-- beside the day: two bytes written to the list
unfoldable pub noted : History
noted = next granting 101 (write 103 104 0 0 2 (7 ∷ 9 ∷ []))

-- and then the job's container goes, with the list in it
unfoldable pub gone : History
gone = next noted 101 (unreference 100 103)

-- all that 103 has to spare, taken back
unfoldable pub take_back : Call
take_back = move_quota 100 103 (negsuc 13)

started_well : WellStarted granting
unfolding granting grown morning first_world startable
started_well = start_is_sound 100 refl

crowded_well : WellStarted crowding
unfolding crowding granting grown morning first_world startable
crowded_well = start_is_sound 100 refl

-- soundness (theorem 2) speaks of this history
pub crowded_sound : Sound (world_after crowding)
crowded_sound = history_sound crowding crowded_well

pub record Met : Type 0 where
  -- theorem 4: by the ledger container 103 has 14 units to spare, and that is its spare
  pub room : reckoned granting 103 ≡ 14
  pub spare : spare_of (world_after granting) 103 ≡ 14
  -- theorem 9: none of the calls 108 to 111 is by a thread that may write 103, or 104 in it
  pub neighbours : Meanwhile 103 granting crowding
  pub neighbours_of_list : Meanwhile 104 granting crowding
  -- the create that fills 103 passes all earlier checks
  pub passes : refused_earlier (answer_of (call (world_after crowding) 101 fill)) ≡ false
  pub grows : refused_earlier (answer_of (call (world_after crowding) 101 (resize 103 104 200))) ≡ false
  -- and so does taking its 14 units back
  pub goes_back : refused_earlier (answer_of (call (world_after crowding) 101 take_back)) ≡ false
  -- theorem 6: and it makes the spare of 103 smaller
  pub shrinks : reckoned (next crowding 101 fill) 103 < reckoned crowding 103

-- ---- calls of the day by themselves

pub record OfTheDay : Type 0 where
  -- after call 107 there is container 103, and in it segment 104 of quota 5; 103 is there after call 111, and after a create that fills it
  pub is_container_lem : is_container ((world_after granting).obj 103).kind ≡ true
  pub is_segment_lem : is_segment ((world_after granting).obj 104).kind ≡ true
  pub quota_five : ((world_after granting).obj 104).quota ≡ 5
  pub crowded_container : is_container ((world_after crowding).obj 103).kind ≡ true
  pub crowded_live : is_live ((world_after (next crowding 101 fill)).obj 103).kind ≡ true
  -- call 102 is granted; the same of a caller that is no thread is refused
  pub category : answer_of (call (world_after (started 100)) 101 create_category) ≡ 0
  pub stranger : answer_of (call (world_after (started 100)) 111 create_category) ≡ 3
  -- calls 103 and 104, the first two creates, are granted
  pub first_create : answer_of (call (world_after (next (started 100) 101 create_category)) 101 room) ≡ 0
  pub second_create : answer_of (call (world_after morning) 101 list) ≡ 0
  -- what they are lent is bytes
  pub label_bytes_lem : bytes_b tainted ≡ true
  pub text_bytes : bytes_b zeros32 ≡ true
  -- call 106, one byte more than the list's quota allows
  pub too_long : answer_of (call (world_after grown) 101 (resize 103 104 257)) ≡ 13
  -- after call 107 container 103 has quota 20, and the list in its tree holds 5 of them
  pub quota : ((world_after granting).obj 103).quota ≡ 20
  pub tree : in_tree (world_after granting) 103 104 ≡ true
  pub held : hold_of (world_after granting) 104 ≡ 5
  -- after call 113 it has no unit left by the ledger, and call 114 passes all checks but that of spare
  pub full : reckoned filled 103 ≡ 0
  pub passed : refused_earlier (answer_of (call (world_after filled) 101 one_more)) ≡ false
  -- two bytes written can be read
  pub reads : answer_of (call (world_after noted) 101 (read 103 104 0 0 2)) ≡ 0
  pub byte_0 : last_written noted 104 0 ≡ 7
  pub byte_1 : last_written noted 104 1 ≡ 9
  -- the container goes, and no segment is left
  pub goes : answer_of (call (world_after noted) 101 (unreference 100 103)) ≡ 0
  pub no_segment : any (world_after gone).next (λ o. is_segment ((world_after gone).obj o).kind) ≡ false

pub of_the_day : OfTheDay
unfolding whole_day filled one_more gone noted crowding fill granting grown morning room list reckoned granted granted_by charge charge_by line_if line_of last_written left_by
    hold_of one two tainted words_for lent zeros32 world_after start call after tests judge unless must why_not must_hold opens entry make move access forbids fits spare_of
    use_of charged units answer_of leaves apply put link_in under below stays kept edit good_arguments good_label good_text holds all_hold flow reading writing floor_flow
    flow_join flow_join_high container_of segment_of gate_of thread_of cleared_at overwrite resized or_default kind_code is_live is_thread is_gate is_segment is_container has_clearance
    blank nothing Σ when any both either le_at le_bytes level_at every_named holds_b compare_b zeros_b words_b formed_b insert_w room_b words_at label_of words_bytes label_bytes
    refused_earlier bytes_b
of_the_day =
    record {
      is_container_lem = refl;
      is_segment_lem = refl;
      quota_five = refl;
      crowded_container = refl;
      crowded_live = refl;
      category = refl;
      stranger = refl;
      first_create = refl;
      second_create = refl;
      label_bytes_lem = refl;
      text_bytes = refl;
      too_long = refl;
      quota = refl;
      tree = refl;
      held = refl;
      full = refl;
      passed = refl;
      reads = refl;
      byte_0 = refl;
      byte_1 = refl;
      goes = refl;
      no_segment = refl;
    }

pub met : Met
unfolding granting grown morning room list crowding fill take_back reckoned granted granted_by charge charge_by line_if line_of refused_earlier writer one two tainted words_for
    lent zeros32 world_after start call after tests judge unless must why_not must_hold opens entry make move access forbids fits spare_of use_of charged units answer_of leaves
    apply put link_in under below stays kept edit good_arguments good_label good_text holds all_hold flow reading writing floor_flow flow_join flow_join_high container_of segment_of
    gate_of thread_of cleared_at overwrite resized or_default kind_code is_live is_thread is_gate is_segment is_container has_clearance blank nothing Σ when any both either le_at
    le_bytes level_at every_named holds_b compare_b zeros_b words_b formed_b insert_w room_b words_at label_of words_bytes label_bytes
met =
    record {
      room = refl;
      spare = refl;
      neighbours = another 107 _ (another 107 _ (another 107 _ (another 107 _ nothing_yet refl) refl) refl) refl;
      neighbours_of_list = another 107 _ (another 107 _ (another 107 _ (another 107 _ nothing_yet refl) refl) refl) refl;
      passes = refl;
      grows = refl;
      goes_back = refl;
      shrinks = omega arith;
    }

-- So the promise of theorem 9 is about this day: after the neighbour took all it could, the job's container still takes the 14 units, they can still be taken
-- back from it, and its list still grows.
pub still_granted : answer_of (call (world_after crowding) 101 fill) ≡ 0
unfolding fill line_if takes_units asked_of units_asked or_default
still_granted =
    room_is_kept granting started_well crowding 101 103 14 of_the_day.is_container_lem (omega (arith, met.room)) met.neighbours fill refl refl (omega arith) met.passes

pub still_goes_back : answer_of (call (world_after crowding) 101 take_back) ≡ 0
unfolding take_back line_if takes_units asked_of units_asked
still_goes_back =
    room_is_kept granting started_well crowding 101 103 14 of_the_day.is_container_lem (omega (arith, met.room)) met.neighbours take_back
    of_the_day.crowded_container refl (omega arith) met.goes_back

pub still_grows : answer_of (call (world_after crowding) 101 (resize 103 104 200)) ≡ 0
unfolding units
still_grows =
    growth_is_kept granting started_well crowding 101 104 200 of_the_day.is_segment_lem (omega (arith, of_the_day.quota_five)) met.neighbours_of_list 103 met.grows

-- and who made the spare smaller may write the container
pub writer_did_it : writer (world_after crowding) 101 103 ≡ true
writer_did_it = reckoned_shrinks_by crowding crowded_well 101 fill 103 of_the_day.crowded_container of_the_day.crowded_live met.shrinks
