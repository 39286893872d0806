-- No program that ends and meets the contracts is of one of the four kinds of Programs. It starts at 100 and makes the first calls of the day of docs/RULES.md 10.2; by the
-- rules their answers and objects are not such a program's.
use Prim.Native.Nat.{ℕ, zero, suc, ◌<◌}
use Rattle.std.proofs.Common.{arith, sym, ap, ◌∙◌, eq-eqb}
use Rattle.std.specs.Prelude.{true, ◌≡◌, List, [], length, get_or, replicate, eqb}
use Rattle.std.proofs.Math.Bool.{false}
use Rattle.std.proofs.Math.Path.{refl, subst}
use Rattle.std.proofs.lemmas.List.{length-replicate}
use Rattle.rules.specs.Kernel.{World, Call, create_category, is_live, startable, call, after, answer_of, History, started, next, world_after}
use Rattle.rules.specs.Issued.{call_number, creates, issues}
use Rattle.rules.proofs.Laws.Bools.{bool_cases, not_both, or_i_r}
use Rattle.rules.proofs.Theorems.StaysSound.{history_sound}
use Rattle.rules.proofs.Theorems.Numbers.{issuing_value, created_live}
use Rattle.tables.specs.Layout.{size}
use Rattle.book.specs.Enact.{area_size}
use Rattle.calls.specs.Started.{lengths_right, start_answer}
use Rattle.examples.specs.Play.{zeros32, bytes_below}
use Rattle.examples.specs.Met.{tainted, room, list, morning, of_the_day}
use Rattle.flytewood.specs.Called.{Bytes, Called, Started}
use Rattle.histories.specs.Areas.{world, After, begun, called}
use Rattle.histories.specs.Programs as the
use Rattle.histories.specs.Programs.{Word, Handed, Program, Ends, Meets, has_created}
use Rattle.histories.proofs.Laws.Spelled.{spelled, ruled}
use Rattle.histories.proofs.Theorems.{next_as_ruled}

-- ---- how such a program lives

-- the areas that it has after a history
record Reached (h : History) : Type 0 where
  book : List ℕ
  area : List ℕ
  after : After h book area
  bytes : Bytes book
  area_bytes : Bytes area

-- one call more, and what it did
record Done (p : Program) (h : History) (b area : List ℕ) (c : ℕ) (x : Call) : Type 0 where
  answer : ℕ
  value : ℕ
  b' : List ℕ
  area' : List ℕ
  out' : List ℕ
  did : p.does b area c x [] answer value b' area' out'
  met : Called b area c x [] answer value b' area' out'

zeros : (n k : ℕ) → get_or (replicate n 0) k 0 < 256
zeros zero k = omega arith
zeros (suc n) zero = omega arith
zeros (suc n) (suc k) = zeros n k

granted : (b area : List ℕ) → length b ≡ size → length area ≡ area_size → start_answer b area 100 ≡ 0
unfolding start_answer lengths_right startable
granted b area l m = rw (eq-eqb (length b) size l, eq-eqb (length area) area_size m)

module _ (p : Program) (e : Ends p) (m : Meets p) where
  begin : Reached (started 100)
  begin =
      let b₀ : List ℕ = replicate size 0 in
      let area₀ : List ℕ = replicate area_size 0 in
      let (answer, b, area, s) = e.start_ends b₀ area₀ 100 (zeros size) (zeros area_size) (omega arith) in
      let t = m.start_meets b₀ area₀ 100 answer b area s in
      let z = t.made.answer ∙ granted b₀ area₀ (length-replicate {A = ℕ} size 0) (length-replicate {A = ℕ} area_size 0) in
      record {
        book = b;
        area = area;
        after = begun 100 b₀ area₀ b area (subst (λ (n : ℕ). Started b₀ area₀ 100 n b area) z t);
        bytes = t.book_bytes;
        area_bytes = t.area_bytes;
      }

  next_call : {h : History} (r : Reached h) (c : ℕ) (x : Call) → Word c → Handed x [] → Done p h r.book r.area c x
  next_call r c x w g =
      let (answer, value, b', area', out', q) = e.call_ends r.book r.area c x [] r.bytes r.area_bytes w g in
      record {
        answer = answer;
        value = value;
        b' = b';
        area' = area';
        out' = out';
        did = q;
        met = m.call_meets r.book r.area c x [] answer value b' area' out' q;
      }

  step : {h : History} → Reached h → (c : ℕ) (x : Call) → Word c → Handed x [] → Reached (next h c x)
  step {h = h} r c x w g =
      let d = next_call r c x w g in
      record {
        book = d.b';
        area = d.area';
        after = called h r.book r.area c x [] d.answer d.value d.b' d.area' d.out' r.after d.met;
        bytes = d.met.book_bytes;
        area_bytes = d.met.area_bytes;
      }

  -- what the rules say of it
  answered : {h : History} (r : Reached h) (c : ℕ) (x : Call) (d : Done p h r.book r.area c x) → d.answer ≡ answer_of (call (world_after h) c x)
  answered {h = h} r c x d = (next_as_ruled h r.book r.area r.after c x [] d.answer d.value d.b' d.area' d.out' d.met).answer_is

-- ---- the four

-- After Start at 100 the thread 101 asks for a category: by the rules it is granted.
pub not_always_refuses : the.NotAlwaysRefuses
not_always_refuses p e m refuses =
    let r = begin p e m in
    let d = next_call p e m r 101 create_category (omega arith) refl in
    refuses _ _ _ _ _ _ _ _ _ _ d.did (answered p e m r 101 create_category d ∙ of_the_day.category)

-- After Start at 100 the caller 111, which is no thread, asks for a category: by the rules it is refused by 3.
pub not_answers_zero : the.NotAnswersZero
not_answers_zero p e m grants =
    let r = begin p e m in
    let d = next_call p e m r 111 create_category (omega arith) refl in
    let three = answered p e m r 111 create_category d ∙ of_the_day.stranger in
    let none = grants _ _ _ _ _ _ _ _ _ _ d.did in
    omega arith

-- ---- a granted create

-- The object that a granted create answers is there after it, and was not before.
pub create_is_there : (h : History) (b area : List ℕ) → After h b area
    → (c : ℕ) (x : Call) (out : List ℕ) (answer value : ℕ) (b' area' out' : List ℕ) → Called b area c x out answer value b' area' out' → creates x ≡ true → answer ≡ 0
    → (is_live ((world b' area').obj value).kind ≡ true) × (is_live ((world b area).obj value).kind ≡ false)
create_is_there h b area a c x out answer value b' area' out' d made granted =
    let p = spelled h b area a in
    let r = ruled h b area p c x out answer value b' area' out' d in
    let zero = sym r.answer_is ∙ granted in
    let own : value ≡ (world_after h).next = r.value_is ∙ issuing_value (world_after h) c x zero (unfold issues in or_i_r (eqb (call_number x) 1) (creates x) made) in (
      subst (λ (w : World). is_live (w.obj value).kind ≡ true) (sym r.world_is)
          (subst (λ (o : ℕ). is_live ((after (world_after h) c x).obj o).kind ≡ true) (sym own) (created_live (world_after h) c x zero made)),
      subst (λ (w : World). is_live (w.obj value).kind ≡ false) (sym p.spells) (new own),
    )
  where
    new : value ≡ (world_after h).next → is_live ((world_after h).obj value).kind ≡ false
    new own =
        bool_cases (is_live ((world_after h).obj value).kind)
        (λ l. absurd (let below = (history_sound h (spelled h b area a).started_well).ids value l in omega (arith, below.1, own)))
        (λ l. l)

-- so a program that leaves the objects as they were cannot have answered 0 to it
unchanged_refused : (h : History) (b area : List ℕ) → After h b area
    → (c : ℕ) (x : Call) (out : List ℕ) (answer value : ℕ) (b' area' out' : List ℕ) → Called b area c x out answer value b' area' out' → creates x ≡ true
    → ((o : ℕ) → (world b' area').obj o ≡ (world b area).obj o) → answer_of (call (world_after h) c x) ≡ 0 → ⊥
unchanged_refused h b area a c x out answer value b' area' out' d made same none =
    let r = next_as_ruled h b area a c x out answer value b' area' out' d in
    let there = create_is_there h b area a c x out answer value b' area' out' d made (r.answer_is ∙ none) in
    not_both (is_live ((world b' area').obj value).kind) there.0 (ap (λ y. is_live y.kind) (same value) ∙ there.1)

-- what is lent with the first two creates of the day
room_handed : Handed room []
unfolding room
room_handed = (omega arith, bytes_below tainted of_the_day.label_bytes_lem, bytes_below zeros32 of_the_day.text_bytes, omega arith, omega arith, refl)

list_handed : Handed list []
unfolding list
list_handed = (omega arith, bytes_below tainted of_the_day.label_bytes_lem, bytes_below zeros32 of_the_day.text_bytes, omega arith, refl)

-- After Start and a category the thread 101 makes a container, the first create: by the rules it is granted, and the object is there.
pub not_changes_nothing : the.NotChangesNothing
not_changes_nothing p e m same =
    let r = step p e m (begin p e m) 101 create_category (omega arith) refl in
    let d = next_call p e m r 101 room (omega arith) room_handed in
    unchanged_refused _ _ _ r.after 101 room [] _ _ _ _ _ d.met (unfold room creates call_number in refl) (same _ _ _ _ _ _ _ _ _ _ d.did) of_the_day.first_create

-- After the first create the thread 101 makes a segment in the container, the second: by the rules it is granted, and the object is there.
pub not_only_pretends : the.NotOnlyPretends
unfolding morning
not_only_pretends p e m pretends =
    let r = step p e m (step p e m (begin p e m) 101 create_category (omega arith) refl) 101 room (omega arith) room_handed in
    let d = next_call p e m r 101 list (omega arith) list_handed in
    unchanged_refused _ _ _ r.after 101 list [] _ _ _ _ _ d.met is_create (pretends _ _ _ r.after made 101 list [] _ _ _ _ _ is_create d.did) of_the_day.second_create
  where
    is_create : creates list ≡ true
    is_create = unfold list creates call_number in refl

    made : has_created (next (next (started 100) 101 create_category) 101 room) ≡ true
    made = unfold has_created room creates call_number in rw of_the_day.first_create
