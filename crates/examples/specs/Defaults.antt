-- W7: quota 0 for a container (RULES 3.7, 12.9 to 12.11). Histories start at 5: the root is 5, its thread 6, the first call 7.
use Rattle.std.specs.Prelude.{ℕ, ◌≡◌, refl, List, [], ◌∷◌}
use Rattle.std.proofs.Common.{sym, subst}
use Rattle.labels.specs.Le.{le_at, le_bytes}
use Rattle.labels.specs.Core.{plain, level1, level_at, every_named, holds_b, compare_b, zeros_b, words_b, formed_b, insert_w, room_b, words_at, label_of, words_bytes, label_bytes}
use Rattle.quotas.specs.Sum.{Σ, when}
use Rattle.quotas.specs.Any.{any, both, either}
use Rattle.rules.specs.Kernel.{create_container, create_segment, unreference, move_quota, resize, World, create, History, started, next, world_after}
use Rattle.rules.specs.Kernel.{startable, start, call, after, tests, judge, unless, must, why_not, must_hold, opens, entry, make, move, access, forbids, fits, spare_of, use_of, charged}
use Rattle.rules.specs.Kernel.{units, answer_of, value_of, output_of, leaves, apply, put, link_in, under, below, stays, kept, edit, good_arguments, good_label, good_text, holds, all_hold}
use Rattle.rules.specs.Kernel.{flow, reading, writing, floor_flow, flow_join, flow_join_high, container_of, segment_of, gate_of, thread_of, cleared_at, look_bytes, overwrite, resized}
use Rattle.rules.specs.Kernel.{or_default, kind_code, is_live, is_thread, is_gate, is_segment, is_container, has_clearance, blank, nothing}
use Rattle.rules.specs.Sound.{Sound}
use Rattle.rules.specs.Histories.{first_world, WellStarted}
use Rattle.rules.proofs.Theorems.StaysSound.{start_is_sound, history_sound}
use Rattle.examples.specs.Play.{Turn, Said, turn, said, run, end, words_for, lent, zeros32, into}

unfoldable pub one : List ℕ
one = lent 2 []

-- ---- what 0 stands for

-- container 7 is created with quota 0
unfoldable pub fresh : World
fresh = after (start 5) 6 (create_container 5 one zeros32 0 0)

-- Calls 8 to 19. A container of 0 does not fit in 7 (8), one of 7 does (9) and takes all (10). When it is gone (11) and a unit is moved in (12), 7 has 8 to spare: a container of 0
-- fits (13) and takes all (14), and in it a container of 0 does not fit (15). A segment of 0 in the root (16) has 5 units as before: 256 bytes (17) and not one more (18). A
-- container that is to have 16 is created with 16 (19).
pub morning : List Turn
morning =
    turn 6 (create_container 7 one zeros32 0 0)
    ∷ turn 6 (create_container 7 one zeros32 0 7)
    ∷ turn 6 (create_segment 7 one zeros32 1)
    ∷ turn 6 (unreference 7 9)
    ∷ turn 6 (move_quota 5 7 (into 1))
    ∷ turn 6 (create_container 7 one zeros32 0 0)
    ∷ turn 6 (create_segment 7 one zeros32 1)
    ∷ turn 6 (create_container 13 one zeros32 0 0)
    ∷ turn 6 (create_segment 5 one zeros32 0)
    ∷ turn 6 (resize 5 16 256)
    ∷ turn 6 (resize 5 16 257)
    ∷ turn 6 (create_container 5 one zeros32 0 16)
    ∷ []

pub morning_said : List Said
morning_said =
    said 13 0 [] ∷ said 0 9 [] ∷ said 13 0 [] ∷ said 0 0 [] ∷ said 0 0 [] ∷ said 0 13 [] ∷ said 13 0 [] ∷ said 13 0 [] ∷ said 0 16 [] ∷ said 0 0 [] ∷ said 13 0 [] ∷ said 0 19 []
    ∷ []

-- ---- a book from before W7

-- Container 7 as page 01's call 4 with quota 0 made it, of 16 units.
unfoldable pub old : World
old = apply (create 5 (container_of (plain level1) zeros32 0 16)) (start 5)

-- Who counts on 16 gives it now.
unfoldable pub given : History
given = next (started 5) 6 (create_container 5 one zeros32 0 16)

-- Calls 8 to 13 on the world from before. Of the 15 units that 7 has to spare a container of 7 (8) and one of 0 (9) take all (10). When the container of 0 is gone (11), one of 9 does not
-- fit (12) and one of 8 does (13).
pub evening : List Turn
evening =
    turn 6 (create_container 7 one zeros32 0 7)
    ∷ turn 6 (create_container 7 one zeros32 0 0)
    ∷ turn 6 (create_segment 7 one zeros32 1)
    ∷ turn 6 (unreference 7 9)
    ∷ turn 6 (create_container 7 one zeros32 0 9)
    ∷ turn 6 (create_container 7 one zeros32 0 8)
    ∷ []

pub evening_said : List Said
evening_said = said 0 8 [] ∷ said 0 9 [] ∷ said 13 0 [] ∷ said 0 0 [] ∷ said 13 0 [] ∷ said 0 13 [] ∷ []

-- ---- computed

pub record Defaults : Type 0 where
  -- a container created with 0 has 8 units, and 7 to spare; the root's 256 are less by these 8, by the thread's one and by its own
  pub fresh_quota : (fresh.obj 7).quota ≡ 8
  pub fresh_spare : spare_of fresh 7 ≡ 7
  pub root_spare : spare_of fresh 5 ≡ 246
  -- every call says what is written
  pub morning_goes : run morning fresh ≡ morning_said
  -- the world from before is the one that a create with 16 leaves now; every call on it says what is written, and container 7 keeps its quota
  pub old_is_given : old ≡ world_after given
  pub old_spare : spare_of old 7 ≡ 15
  pub evening_goes : run evening old ≡ evening_said
  pub old_keeps : ((end evening old).obj 7).quota ≡ 16

pub defaults : Defaults
unfolding fresh morning morning_said old given evening evening_said one run end words_for lent zeros32
    world_after start call after tests judge unless must why_not must_hold opens entry make move access forbids fits spare_of use_of charged units answer_of value_of output_of leaves
    apply put link_in under below stays kept edit good_arguments good_label good_text holds all_hold flow reading writing floor_flow flow_join flow_join_high container_of segment_of
    gate_of thread_of cleared_at look_bytes overwrite resized or_default kind_code is_live is_thread is_gate is_segment is_container has_clearance blank nothing Σ when any both either
    le_at le_bytes level_at every_named holds_b compare_b zeros_b words_b formed_b insert_w room_b words_at label_of words_bytes label_bytes
defaults =
    record {
      fresh_quota = refl;
      fresh_spare = refl;
      root_spare = refl;
      morning_goes = refl;
      old_is_given = refl;
      old_spare = refl;
      evening_goes = refl;
      old_keeps = refl;
    }

given_well : WellStarted given
unfolding given first_world startable
given_well = start_is_sound 5 refl

-- So the world from before is sound.
pub old_sound : Sound old
old_sound = subst Sound (sym defaults.old_is_given) (history_sound given given_well)
