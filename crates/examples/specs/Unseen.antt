-- W5 (docs/RULES.md, section 12) at work. Thread 6 makes category 7, a container and a thread tainted in it,
-- and gives up its star. From there on two histories go side by side: the tainted thread does one thing in
-- the one and another in the other, and thread 6, which looks, creates, writes and reads, is told the same in
-- both.
use Rattle.std.specs.Prelude.{ℕ, ◌<◌, Bool, true, false, not, ◌&&◌, ◌≡◌, refl, eqb, replicate}
use mathlib.Core.List.{List, [], ◌∷◌, ◌++◌}
use Rattle.std.proofs.Common.{eq-eqb, arith}
use Rattle.std.proofs.lemmas.Bool.{not-true}
use Rattle.labels.specs.Le.{le_at, le_bytes}
use Rattle.labels.specs.Core.{at, star, level_at, every_named, holds_b, compare_b, zeros_b, words_b, formed_b, insert_w, room_b, words_at, label_of, words_bytes, label_bytes}
use Rattle.quotas.specs.Sum.{Σ, when}
use Rattle.quotas.specs.Any.{any, any_of, both, either}
use Rattle.rules.specs.Kernel.{Obj, World, Call, create_category, set_label, create_container, create_segment, create_thread, unreference, read, write, resize, look}
use Rattle.rules.specs.Kernel.{History, started, next, world_after, startable, start, call, after, tests, judge, unless, must, why_not, must_hold, opens, entry, make, move, access, forbids}
use Rattle.rules.specs.Kernel.{fits, spare_of, use_of, charged, units, answer_of, value_of, output_of, leaves, apply, put, link_in, under, below, stays, kept, edit}
use Rattle.rules.specs.Kernel.{good_arguments, good_label, good_text, holds, all_hold, flow, reading, writing, floor_flow, flow_join, flow_join_high, container_of}
use Rattle.rules.specs.Kernel.{segment_of, gate_of, thread_of, cleared_at, look_bytes, overwrite, resized, or_default, kind_code, is_live, is_thread, is_gate, is_segment}
use Rattle.rules.specs.Kernel.{is_container, has_clearance, blank, nothing}
use Rattle.rules.specs.Sound.{Sound}
use Rattle.rules.specs.Histories.{first_world}
use Rattle.rules.proofs.Laws.Bools.{and_l, and_r, not_both, and_i, bool_cases}
use Rattle.rules.proofs.Laws.Usage.{held_below, holder_below}
use Rattle.rules.proofs.Theorems.StaysSound.{start_is_sound, history_sound}
use Rattle.tainted.specs.Tainted.{untainted, untainted_container, untainted_caller, tainted_caller, UntaintedStart, AlikeHistories, same_start, SameUntainted}
use Rattle.tainted.specs.Tainted as taint
use Rattle.tainted.proofs.Theorem.{tainted_work_does_not_show}
use Rattle.examples.specs.Play.{Turn, Said, turn, said, run, end, words_for, lent, zeros32}

-- ---- the terms of the start, as tests that compute

unfoldable pub holds_star : ℕ → World → ℕ → Bool
holds_star v w o = is_live (w.obj o).kind && eqb (at (w.obj o).label v) star

-- an untainted object is linked in what is no untainted container
unfoldable pub strays : ℕ → World → ℕ → ℕ → Bool
strays v w d o = w.linked d o && (untainted v (w.obj o) && not (untainted_container v (w.obj d)))

unfoldable pub some_star : ℕ → World → Bool
some_star v w = any w.next (λ o. holds_star v w o)

unfoldable pub some_stray : ℕ → World → Bool
some_stray v w = any w.next (λ d. any w.next (λ o. strays v w d o))

pub terms_tested : (v : ℕ) (w : World) → Sound w → v < w.next → some_star v w ≡ false → some_stray v w ≡ false → UntaintedStart v w
unfolding some_star some_stray
terms_tested v w s l p q =
    record {
      below_next = l;
      no_star = λ o h e. not_both _ (any_of w.next (λ o. holds_star v w o) o (s.ids o h).1 (starred o h e)) p;
      only_in_such = λ d o k u.
          bool_cases (untainted_container v (w.obj d)) (λ h. h)
          (λ h. not_both _
          (any_of w.next (λ d. any w.next (λ o. strays v w d o)) d (holder_below w s d o k)
          (any_of w.next (λ o. strays v w d o) o (held_below w s d o k) (strayed d o k u h)))
          q);
    }
  where
    starred : (o : ℕ) → is_live (w.obj o).kind ≡ true → at (w.obj o).label v ≡ star → holds_star v w o ≡ true
    starred o h e = unfold holds_star in (and_i (is_live (w.obj o).kind) _ h (eq-eqb (at (w.obj o).label v) star e))

    strayed : (d o : ℕ) → w.linked d o ≡ true → untainted v (w.obj o) ≡ true → untainted_container v (w.obj d) ≡ false → strays v w d o ≡ true
    strayed d o k u h = unfold strays in (rw (k, u, h))

-- ---- two histories side by side

-- at each turn a caller makes one call in both, or two
pub data Side : Type 0 where
  one : (caller : ℕ) → Call → Side
  two : (caller : ℕ) → (left right : Call) → Side

unfoldable pub lefts : List Side → List Turn
lefts [] = []
lefts (one c x ∷ ts) = turn c x ∷ lefts ts
lefts (two c x y ∷ ts) = turn c x ∷ lefts ts

unfoldable pub rights : List Side → List Turn
rights [] = []
rights (one c x ∷ ts) = turn c x ∷ rights ts
rights (two c x y ∷ ts) = turn c y ∷ rights ts

-- the history that turns lead to
unfoldable pub grown : History → List Turn → History
grown h [] = h
grown h (t ∷ ts) = grown (next h t.caller t.call) ts

-- whoever makes two calls is a tainted caller, in both worlds
unfoldable pub by_tainted : ℕ → World → World → List Side → Bool
by_tainted v a b [] = true
by_tainted v a b (one c x ∷ ts) = by_tainted v (after a c x) (after b c x) ts
by_tainted v a b (two c x y ∷ ts) = (tainted_caller v (a.obj c) && tainted_caller v (b.obj c)) && by_tainted v (after a c x) (after b c y) ts

-- a tainted caller is no untainted one
pub not_untainted : {C : Type 0} (v : ℕ) (x : Obj) → tainted_caller v x ≡ true → untainted_caller v x ≡ true → C
unfolding tainted_caller untainted_caller
not_untainted v x t u = not_both (untainted v x) (and_r (is_thread x.kind) _ u) (not-true (untainted v x) (and_r (is_thread x.kind) _ t))

-- a history that grew by turns leads where they lead
pub grown_world : (h : History) (ts : List Turn) → world_after (grown h ts) ≡ end ts (world_after h)
unfolding grown end world_after
grown_world h [] = refl
grown_world h (t ∷ ts) = grown_world (next h t.caller t.call) ts

module _ (v : ℕ) (w : World) where
  -- such histories are alike
  pub sides_alike : (a b : World) → AlikeHistories call v w a b → (ts : List Side) → by_tainted v a b ts ≡ true
      → AlikeHistories call v w (end (lefts ts) a) (end (rights ts) b)
  unfolding end lefts rights by_tainted after
  sides_alike a b h [] e = h
  sides_alike a b h (one c x ∷ ts) e = sides_alike (after a c x) (after b c x) (taint.turn a b c x x h (λ u. refl)) ts e
  sides_alike a b h (two c x y ∷ ts) e =
      let t = and_l (tainted_caller v (a.obj c)) _ (and_l _ (by_tainted v (after a c x) (after b c y) ts) e) in
      sides_alike (after a c x) (after b c y) (taint.turn a b c x y h (λ u. not_untainted v (a.obj c) t u)) ts
      (and_r (tainted_caller v (a.obj c) && tainted_caller v (b.obj c)) _ e)

-- ---- the day

-- the labels {1}, {7:2, 1} and {7:3, 1}, and the clearance {7:3, 2}
unfoldable pub plainly : List ℕ
plainly = lent 2 []

unfoldable pub dim : List ℕ
dim = lent 2 ((7, 3) ∷ [])

unfoldable pub dark : List ℕ
dark = lent 2 ((7, 4) ∷ [])

unfoldable pub cleared : List ℕ
cleared = lent 3 ((7, 4) ∷ [])

-- calls 7 to 11: container 8 is tainted, and so is thread 9, which hangs in the root; segment 10 is not
unfoldable pub morning : History
morning =
    next (next (next (next (next (started 5)
    6 create_category)
    6 (create_container 5 dark zeros32 0 20))
    6 (create_thread 5 dim cleared zeros32))
    6 (create_segment 5 plainly zeros32 5))
    6 (set_label plainly)

unfoldable pub noon : World
noon = world_after morning

-- calls 12 to 25
unfoldable pub sides : List Side
sides =
    -- the tainted thread raises its label; or it is refused: container 8 is still unreadable to it
    two 9 (set_label dark) (create_segment 8 dark zeros32 3)
    -- a look at the thread, whose label is hidden
    ∷ one 6 (look 5 9 104)
    -- it creates a segment in container 8; or it raises its label now
    ∷ two 9 (create_segment 8 dark zeros32 3) (set_label dark)
    -- it lengthens the segment; or it creates a container
    ∷ two 9 (resize 8 14 4) (create_container 8 dark zeros32 0 5)
    ∷ two 9 (write 8 14 0 0 4 (9 ∷ 8 ∷ 7 ∷ 6 ∷ [])) create_category
    -- thread 6 creates a segment
    ∷ one 6 (create_segment 5 plainly zeros32 2)
    -- a write into segment 10 is refused: it would go down; or the tainted thread looks at the root
    ∷ two 9 (write 5 10 0 0 0 []) (look 5 5 104)
    -- container 15 is there in one of the worlds, and unreadable; in the other it is absent
    ∷ one 6 (look 15 15 104)
    ∷ one 6 (resize 5 10 2)
    ∷ one 6 (write 5 10 0 0 2 (7 ∷ 9 ∷ []))
    -- the tainted thread frees what is its own
    ∷ two 9 (unreference 8 14) (unreference 8 15)
    ∷ one 6 (read 5 10 0 0 2)
    -- thread 6 cuts container 8 off, and looks at the root
    ∷ one 6 (unreference 5 8)
    ∷ one 6 (look 5 5 104)
    ∷ []

-- what call 16 puts out: a thread whose label is hidden, and the root, of label {1}
unfoldable pub hidden_thread : List ℕ
hidden_thread = zeros32 ++ (1 ∷ replicate 71 0)

unfoldable pub plain_root : List ℕ
plain_root = zeros32 ++ (4 ∷ 1 ∷ 2 ∷ replicate 69 0)

-- the tainted thread is told different things, thread 6 the same
unfoldable pub left_said : List Said
left_said =
    said 0 0 [] ∷ said 0 0 hidden_thread ∷ said 0 14 [] ∷ said 0 0 [] ∷ said 0 0 [] ∷ said 0 17 [] ∷ said 7 0 [] ∷ said 5 0 [] ∷ said 0 0 [] ∷ said 0 0 []
    ∷ said 0 0 [] ∷ said 0 0 (7 ∷ 9 ∷ []) ∷ said 0 0 [] ∷ said 0 0 plain_root ∷ []

unfoldable pub right_said : List Said
right_said =
    said 5 0 [] ∷ said 0 0 hidden_thread ∷ said 0 0 [] ∷ said 0 15 [] ∷ said 0 16 [] ∷ said 0 17 [] ∷ said 0 0 plain_root ∷ said 5 0 [] ∷ said 0 0 [] ∷ said 0 0 []
    ∷ said 0 0 [] ∷ said 0 0 (7 ∷ 9 ∷ []) ∷ said 0 0 [] ∷ said 0 0 plain_root ∷ []

pub record Computed : Type 0 where
  pub number : noon.next ≡ 12
  pub no_star : some_star 7 noon ≡ false
  pub no_stray : some_stray 7 noon ≡ false
  pub by_tainted_lem : by_tainted 7 noon noon sides ≡ true
  pub asks : untainted_caller 7 ((end (lefts sides) noon).obj 6) ≡ true
  pub left : run (lefts sides) noon ≡ left_said
  pub right : run (rights sides) noon ≡ right_said
  -- the two worlds are not the same: thread 9 has not the same label
  pub category_made : at ((end (rights sides) noon).obj 9).label 16 ≡ 0
  pub none_made : at ((end (lefts sides) noon).obj 9).label 16 ≡ 2

pub computed : Computed
unfolding sides morning noon plainly dim dark cleared hidden_thread plain_root left_said right_said holds_star strays some_star some_stray by_tainted lefts rights end
    run untainted untainted_container untainted_caller tainted_caller words_for lent zeros32 world_after start call after tests judge unless must why_not must_hold opens entry make move access forbids
    fits spare_of use_of charged units answer_of value_of output_of leaves apply put link_in under below stays kept edit good_arguments good_label good_text holds
    all_hold flow reading writing floor_flow flow_join flow_join_high container_of segment_of gate_of thread_of cleared_at look_bytes overwrite resized or_default
    kind_code is_live is_thread is_gate is_segment is_container has_clearance blank nothing Σ when any both either le_at le_bytes level_at every_named holds_b
    compare_b zeros_b words_b formed_b insert_w room_b words_at label_of words_bytes label_bytes
computed = record { number = refl; no_star = refl; no_stray = refl; by_tainted_lem = refl; asks = refl; left = refl; right = refl; category_made = refl; none_made = refl }

pub noon_sound : Sound noon
unfolding noon
noon_sound = history_sound morning (unfold morning first_world startable in start_is_sound 5 refl)

pub noon_untainted : UntaintedStart 7 noon
noon_untainted = terms_tested 7 noon noon_sound (omega (arith, computed.number)) computed.no_star computed.no_stray

-- So W5 speaks of this day: whatever thread 6 asks after it, it is told the same, and what it can reach is
-- the same.
pub not_shown : ((c : ℕ) (x : Call) → untainted_caller 7 ((end (lefts sides) noon).obj c) ≡ true
    → call (end (lefts sides) noon) c x ≡ call (end (rights sides) noon) c x)
    × SameUntainted 7 (end (lefts sides) noon) (end (rights sides) noon)
not_shown = tainted_work_does_not_show 7 noon noon_sound noon_untainted _ _ (sides_alike 7 noon noon noon same_start sides computed.by_tainted_lem)
