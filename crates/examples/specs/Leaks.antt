-- What W5 (docs/RULES.md, section 12) shuts out: two kernels that leak. Each is that of the rules but for one
-- answer, and neither hides tainted work: after two alike histories of the day in Unseen, thread 6 asks one
-- question and is told two things.
use Rattle.std.specs.Prelude.{ℕ, Bool, true, false, not, cond, ◌&&◌, ◌||◌, ◌≡◌, refl, List, [], ◌∷◌, eqb, leb}
use Rattle.std.proofs.Common.{arith, sym, ◌∙◌, ap}
use Rattle.labels.specs.Le.{le_at, le_bytes}
use Rattle.labels.specs.Core.{may_read, level_at, every_named, holds_b, compare_b, zeros_b, words_b, formed_b, insert_w, room_b, words_at, label_of, words_bytes, label_bytes}
use Rattle.quotas.specs.Sum.{Σ, when}
use Rattle.quotas.specs.Any.{any, both, either}
use Rattle.rules.specs.Kernel.{Obj, World, Call, create_category, set_label, create_container, create_segment, look, number_of, Verdict, refused, refuse, grant}
use Rattle.rules.specs.Kernel.{world_after, start, call, after, tests, judge, unless, must, why_not, must_hold, opens, entry, make, move, access, forbids}
use Rattle.rules.specs.Kernel.{fits, spare_of, use_of, charged, units, answer_of, value_of, output_of, leaves, apply, put, link_in, under, below, stays, kept, edit}
use Rattle.rules.specs.Kernel.{good_arguments, good_label, good_text, holds, all_hold, flow, reading, writing, floor_flow, flow_join, flow_join_high, container_of}
use Rattle.rules.specs.Kernel.{segment_of, gate_of, thread_of, cleared_at, look_bytes, overwrite, resized, or_default, kind_code, is_live, is_thread, is_gate, is_segment}
use Rattle.rules.specs.Kernel.{is_container, has_clearance, blank, nothing}
use Rattle.rules.specs.Named.{containers_named}
use Rattle.tainted.specs.Tainted.{untainted, untainted_caller, tainted_caller, Kernel, AlikeHistories, same_start, turn, Hides}
use Rattle.examples.specs.Play.{words_for, lent, zeros32}
use Rattle.examples.specs.Unseen.{not_untainted, plainly, dim, dark, cleared, morning, noon, noon_sound, noon_untainted}

-- ---- one question, two histories

module _ (kernel : Kernel) where
  -- At noon the tainted thread 9 raises its label; then it makes the call x.
  unfoldable pub raised : World
  raised = leaves (kernel noon 9 (set_label dark)) noon

  unfoldable pub then : Call → World
  then x = leaves (kernel raised 9 x) raised

  -- Thread 9 made the call x, or y. Then thread 6 asks z, and what it is told is m after the one and n after
  -- the other, where `part` is a part of a verdict.
  pub record Told (x y z : Call) (part : Verdict → ℕ) (m n : ℕ) : Type 0 where
    pub tainted : tainted_caller 7 (raised.obj 9) ≡ true
    pub untainted : untainted_caller 7 ((then x).obj 6) ≡ true
    pub one : part (kernel (then x) 6 z) ≡ m
    pub other : part (kernel (then y) 6 z) ≡ n

  -- If these differ, the kernel does not hide tainted work.
  pub shows : (x y z : Call) (part : Verdict → ℕ) (m n : ℕ) → Told x y z part m n → (m ≡ n → ⊥) → Hides kernel → ⊥
  shows x y z part m n t apart h =
      apart (sym t.one ∙ ap part ((h 7 noon noon_sound noon_untainted (then x) (then y) alike).0 6 z t.untainted) ∙ t.other)
    where
      alike : AlikeHistories kernel 7 noon (then x) (then y)
      alike =
          unfold raised then in
          (turn raised raised 9 x y (turn noon noon 9 (set_label dark) (set_label dark) same_start (λ u. refl))
          (λ u. not_untainted 7 (raised.obj 9) t.tainted u))

-- ---- RULES 10.3: "(a) to answer 7 where a container may not be read and 5 where there is none, which tells
-- that it exists;"

-- one of these containers is there, and t may not read it
unfoldable pub unreadable : World → Obj → List ℕ → Bool
unreadable w t [] = false
unreadable w t (d ∷ ds) = (is_container (w.obj d).kind && not (may_read t.label (w.obj d).label)) || unreadable w t ds

-- 7 in place of 5 if so
unfoldable pub instead : Bool → Verdict → Verdict
instead u (refused r) = cond (u && eqb (number_of r) 5) (refuse 7) (refused r)
instead u (grant v b h) = grant v b h

unfoldable pub tells_existence : Kernel
tells_existence w c x = instead (unreadable w (w.obj c) (containers_named x)) (call w c x)

-- ---- demand 3 (docs/DEMANDS.md): "Nothing is ever refused for want of room elsewhere."

-- 13 if the store is full
unfoldable pub crowded : Bool → Verdict → Verdict
crowded full (refused r) = refused r
crowded full (grant v b h) = cond full (refuse 13) (grant v b h)

-- a kernel with room for six objects
unfoldable pub tells_room : Kernel
tells_room w c x = crowded (leb 6 (Σ w.next (λ o. when (is_live (w.obj o).kind) 1))) (call w c x)

-- ---- what thread 6 is told

-- Thread 9 makes container 13 in container 8, the sixth object, or a category. Thread 6 asks for container
-- 13, or for a new segment in the root.
record Asked : Type 0 where
  existence : Told tells_existence (create_container 8 dark zeros32 0 5) create_category (look 13 13 104) answer_of 7 5
  room : Told tells_room (create_container 8 dark zeros32 0 5) create_category (create_segment 5 plainly zeros32 1) answer_of 13 0

asked : Asked
unfolding tells_existence instead unreadable containers_named tells_room crowded raised then morning noon plainly dim dark cleared untainted untainted_caller
    tainted_caller words_for lent zeros32 world_after start call after tests judge unless must why_not must_hold opens entry make move access forbids fits spare_of use_of charged units
    answer_of value_of output_of leaves apply put link_in under below stays kept edit good_arguments good_label good_text holds all_hold flow reading writing
    floor_flow flow_join flow_join_high container_of segment_of gate_of thread_of cleared_at look_bytes overwrite resized or_default kind_code is_live is_thread is_gate
    is_segment is_container has_clearance blank nothing Σ when any both either le_at le_bytes level_at every_named holds_b compare_b zeros_b words_b formed_b insert_w
    room_b words_at label_of words_bytes label_bytes
asked =
    record {
      existence = record { tainted = refl; untainted = refl; one = refl; other = refl };
      room = record { tainted = refl; untainted = refl; one = refl; other = refl };
    }

pub existence_leaks : Hides tells_existence → ⊥
existence_leaks = shows tells_existence _ _ _ answer_of 7 5 asked.existence (λ e. omega arith)

pub room_leaks : Hides tells_room → ⊥
room_leaks = shows tells_room _ _ _ answer_of 13 0 asked.room (λ e. omega arith)
