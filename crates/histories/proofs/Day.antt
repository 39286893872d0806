-- The day of docs/RULES.md 10.2 on the areas, up to several of its calls, and a few calls beside it. Here the premises of Demand1, NextAsRuled, ReadShows, ClearingShows,
-- StaysSound, TreeHolds, Exactly, ReckonedIsSpare, ShrinksBy, RoomIsKept and ListCanGrow are met, and what they promise is what the day computes. That there are areas which the
-- day itself left is what the program grantday is proved to show.
use Rattle.std.specs.Prelude.{ℕ, ◌+◌, ◌≤◌, ◌<◌, true, false, ◌≡◌, refl, List, [], length, get_or}
use Rattle.std.proofs.Common.{arith, sym, ap, subst, ◌∙◌, eq-eqb}
use Rattle.labels.specs.Le.{le_at, le_set}
use Rattle.quotas.specs.Sum.{Σ, when}
use Rattle.quotas.specs.Any.{any, any_of}
use Rattle.rules.specs.Kernel.{World, segment_code, read, resize, is_live, is_container, is_segment, units, hold_of, spare_of, or_default, world_after, next}
use Rattle.rules.specs.Ledger.{line_if, takes_units, asked_of, units_asked, refused_earlier, writer}
use Rattle.rules.specs.Trees.{in_tree}
use Rattle.rules.proofs.Laws.Bools.{not_both}
use Rattle.tables.specs.Layout.{view}
use Rattle.book.specs.Book.{id_of, code_of}
use Rattle.book.specs.Sound.{Sound}
use Rattle.book.specs.Laws.Tie.{code_live, segment_at, world_next}
use Rattle.book.specs.Laws.WorldSound.{placed}
use Rattle.examples.specs.Met.{granting, grown, crowding, filled, noted, gone, fill, take_back, one_more, met, of_the_day}
use Rattle.flytewood.specs.Called.{Bytes, Called}
use Rattle.histories.specs.Areas.{world, After}
use Rattle.histories.proofs.Theorems.{demand_1, next_as_ruled, spells_the_world, clearing_shows, stays_sound, tree_holds, reckoned_is_the_spare, reads_show, granted_exactly}
use Rattle.histories.proofs.Theorems.{shrinks_by, room_kept, list_can_grow}

-- call 107's container, as the areas have it
job_room : (b area : List ℕ) → After granting b area → is_container ((world b area).obj 103).kind ≡ true
job_room b area a = subst (λ (w : World). is_container (w.obj 103).kind ≡ true) (sym (spells_the_world granting b area a)) of_the_day.is_container_lem

job_list : (b area : List ℕ) → After granting b area → (is_segment ((world b area).obj 104).kind ≡ true) × (((world b area).obj 104).quota ≡ 5)
job_list b area a =
    subst (λ (w : World). (is_segment (w.obj 104).kind ≡ true) × ((w.obj 104).quota ≡ 5)) (sym (spells_the_world granting b area a)) (of_the_day.is_segment_lem, of_the_day.quota_five)

-- ---- Demand 1: call 106 is refused by 13, and leaves everything but the number.
pub too_long : (b area : List ℕ) → Bytes b → After grown b area
    → (answer value : ℕ) (b' area' : List ℕ) → Called b area 101 (resize 103 104 257) [] answer value b' area' []
    → (answer ≡ 13) × (value ≡ 0) × (area' ≡ area) × (b' ≡ le_set 8 b 0 (le_at 8 b 0 + 1))
too_long b area h a answer value b' area' d =
    let e : answer ≡ 13 = (next_as_ruled grown b area a 101 (resize 103 104 257) [] answer value b' area' [] d).answer_is ∙ of_the_day.too_long in
    let r = demand_1 b area 101 (resize 103 104 257) [] answer value b' area' [] h d (λ z. omega arith) in
    (e, r.value_zero, r.area_same, r.number_on (omega arith))

-- ---- Demand 2: beside the day, two bytes are written to the list, and can be read.
pub reads_back : (b area : List ℕ) → After noted b area
    → (answer value : ℕ) (b' area' part : List ℕ) → Called b area 101 (read 103 104 0 0 2) [] answer value b' area' part
    → (answer ≡ 0) × (length part ≡ 2) × (get_or part 0 0 ≡ 7) × (get_or part 1 0 ≡ 9)
reads_back b area a answer value b' area' part d =
    let e : answer ≡ 0 = (next_as_ruled noted b area a 101 (read 103 104 0 0 2) [] answer value b' area' part d).answer_is ∙ of_the_day.reads in
    let (l, shown) = reads_show noted b area a 101 103 104 0 0 2 answer value b' area' part d e in
    (e, l, shown 0 (omega arith) ∙ of_the_day.byte_0, shown 1 (omega arith) ∙ of_the_day.byte_1)

-- Then the job's container goes, with the list in it: no segment is left, and not one byte of the data area.
pub secret_gone : (b area : List ℕ) → After gone b area → (j : ℕ) → j < length area → get_or area j 0 ≡ 0
secret_gone b area a j l = clearing_shows gone b area a j l (λ r i x.
    let s = stays_sound gone b area a in
    let live = code_live (view b) r segment_code x.low x.segment (omega arith) in
    let here : is_segment ((world b area).obj (id_of (view b) r)).kind ≡ true = segment_at (view b) area (placed (view b) s) r live ∙ eq-eqb (code_of (view b) r) segment_code x.segment in
    let e = spells_the_world gone b area a in
    let low : id_of (view b) r < (world_after gone).next = omega (arith, s.ids_below r live, world_next (view b) area, ap (λ (w : World). w.next) e) in
    not_both (any (world_after gone).next (λ o. is_segment ((world_after gone).obj o).kind))
    (any_of (world_after gone).next (λ o. is_segment ((world_after gone).obj o).kind) (id_of (view b) r) low (subst (λ (w : World). is_segment (w.obj (id_of (view b) r)).kind ≡ true) e here))
    of_the_day.no_segment)

-- ---- Demand 3: the book is sound after the neighbour took all it could,
pub crowded_sound : (b area : List ℕ) → After crowding b area → Sound (view b)
crowded_sound = stays_sound crowding

-- container 103 has its 14 units to spare, as the history tells and as the areas spell, and its tree holds no more than its 20,
pub job_spare : (b area : List ℕ) → After granting b area → spare_of (world b area) 103 ≡ 14
job_spare b area a = sym (reckoned_is_the_spare granting b area a 103 (job_room b area a)) ∙ met.room

pub job_holds : (b area : List ℕ) → After granting b area → Σ (world b area).next (λ o. when (in_tree (world b area) 103 o) (hold_of (world b area) o)) ≤ 20
job_holds b area a =
    let q : ((world b area).obj 103).quota ≡ 20 = ap (λ (w : World). (w.obj 103).quota) (spells_the_world granting b area a) ∙ of_the_day.quota in
    omega (arith, tree_holds granting b area a 103 (job_room b area a), q)

-- call 114 passes all earlier checks and does not fit the spare reckoned from the history, which is 0: 13.
pub no_more : (b area : List ℕ) → After filled b area
    → (answer value : ℕ) (b' area' : List ℕ) → Called b area 101 one_more [] answer value b' area' [] → answer ≡ 13
unfolding one_more line_if takes_units asked_of units_asked or_default
no_more b area a answer value b' area' d =
    let e = (next_as_ruled filled b area a 101 one_more [] answer value b' area' [] d).answer_is in
    granted_exactly filled b area a 101 one_more [] answer value b' area' [] d refl (subst (λ (n : ℕ). refused_earlier n ≡ false) (sym e) of_the_day.passed)
    ∙ rw of_the_day.full

-- and who made the spare of 103 smaller may write it.
pub who_did_it : (b area : List ℕ) → After crowding b area → (b' area' : List ℕ) → After (next crowding 101 fill) b' area' → writer (world b area) 101 103 ≡ true
who_did_it b area a b' area' a' =
    shrinks_by crowding b area a 101 fill b' area' a' 103
    (subst (λ (w : World). is_container (w.obj 103).kind ≡ true) (sym (spells_the_world crowding b area a)) of_the_day.crowded_container)
    (subst (λ (w : World). is_live (w.obj 103).kind ≡ true) (sym (spells_the_world (next crowding 101 fill) b' area' a')) of_the_day.crowded_live)
    met.shrinks

-- ---- The fault cannot happen: after the neighbour took all it could, the job's container still takes the 14 units it had to spare,
pub still_granted : (b area : List ℕ) → After granting b area → (b₂ area₂ : List ℕ) → After crowding b₂ area₂
    → (answer value : ℕ) (b' area' : List ℕ) → Called b₂ area₂ 101 fill [] answer value b' area' [] → answer ≡ 0
unfolding fill line_if takes_units asked_of units_asked or_default
still_granted b area a b₂ area₂ a₂ answer value b' area' d =
    let e = (next_as_ruled crowding b₂ area₂ a₂ 101 fill [] answer value b' area' [] d).answer_is in
    room_kept granting b area a 103 14 (job_room b area a) (omega (arith, met.room)) crowding b₂ area₂ a₂ met.neighbours 101 fill [] answer value b' area' [] d
    refl refl (omega arith) (subst (λ (n : ℕ). refused_earlier n ≡ false) (sym e) met.passes)

-- those can still be taken back from it,
pub still_goes_back : (b area : List ℕ) → After granting b area → (b₂ area₂ : List ℕ) → After crowding b₂ area₂
    → (answer value : ℕ) (b' area' : List ℕ) → Called b₂ area₂ 101 take_back [] answer value b' area' [] → answer ≡ 0
unfolding take_back line_if takes_units asked_of units_asked
still_goes_back b area a b₂ area₂ a₂ answer value b' area' d =
    let e = (next_as_ruled crowding b₂ area₂ a₂ 101 take_back [] answer value b' area' [] d).answer_is in
    room_kept granting b area a 103 14 (job_room b area a) (omega (arith, met.room)) crowding b₂ area₂ a₂ met.neighbours 101 take_back [] answer value b' area' [] d
    (subst (λ (w : World). is_container (w.obj 103).kind ≡ true) (sym (spells_the_world crowding b₂ area₂ a₂)) of_the_day.crowded_container)
    refl (omega arith) (subst (λ (n : ℕ). refused_earlier n ≡ false) (sym e) met.goes_back)

-- and its list still grows.
pub still_grows : (b area : List ℕ) → After granting b area → (b₂ area₂ : List ℕ) → After crowding b₂ area₂
    → (answer value : ℕ) (b' area' : List ℕ) → Called b₂ area₂ 101 (resize 103 104 200) [] answer value b' area' [] → answer ≡ 0
unfolding units
still_grows b area a b₂ area₂ a₂ answer value b' area' d =
    let e = (next_as_ruled crowding b₂ area₂ a₂ 101 (resize 103 104 200) [] answer value b' area' [] d).answer_is in
    let (segment, five) = job_list b area a in
    list_can_grow granting b area a 104 200 segment (omega (arith, five)) crowding b₂ area₂ a₂ met.neighbours_of_list 101 103 [] answer value b' area' [] d
    (subst (λ (n : ℕ). refused_earlier n ≡ false) (sym e) met.grows)
