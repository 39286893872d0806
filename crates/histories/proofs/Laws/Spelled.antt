-- What two areas are after a history: good, and they spell the rules' world of that history.
use Rattle.std.specs.Prelude.{ℕ, Bool, true, false, cond, ◌≡◌, refl, List, [], eqb}
use Rattle.std.proofs.Common.{arith, sym, ◌∙◌}
use Rattle.std.proofs.Math.Path.{ap, ap₂, subst}
use Rattle.std.proofs.Math.ListN.{length, length-replicate}
use borrow.Author.Tests.{eqb-true, eq-eqb}
use Rattle.rules.specs.Kernel.{World, Call, Verdict, startable, answer_of, value_of, History, started, next, world_after}
use Rattle.rules.proofs.Laws.Bools.{then_l}
use Rattle.rules.specs.Histories.{first_world, WellStarted}
use Rattle.rules.proofs.Theorems.StaysSound.{start_is_sound}
use Rattle.tables.specs.Layout.{view, size}
use Rattle.book.specs.Book.{world_of}
use Rattle.book.specs.Enact.{area_size, start_area}
use Rattle.book.specs.Sound.{Sound}
use Rattle.book.specs.Test.{areas_b}
use Rattle.book.specs.Laws.Clear.{Wiped, start_wiped}
use Rattle.book.proofs.Laws.Means.{areas_mean}
use Rattle.book.specs.Laws.Start as book
use Rattle.book.specs.Laws.Start.{start_world}
use Rattle.calls.specs.Outcome.{verdict_on, output_left, Left}
use Rattle.calls.specs.Started.{lengths_right, start_answer}
use Rattle.calls.specs.Started as calls
use Rattle.calls.specs.Theorems.Kept.{verdict_is, stays_good, world_after_lem}
use Rattle.calls.specs.Theorems.Clear.{stays_wiped}
use Rattle.flytewood.specs.Called.{Bytes, Called}
use Rattle.flytewood.specs.Laws.{Typed, typed_bytes, starts}
use Rattle.histories.specs.Areas.{world, After, begun, called}
use Rattle.histories.specs.Demands.{AsRuled}

pub record Spelled (h : History) (b area : List ℕ) : Type 0 where
  pub started_well : WellStarted h
  pub good : areas_b b area ≡ true
  pub spells : world b area ≡ world_after h
  pub wiped : Wiped (view b) area
  pub bytes : Bytes b

-- ---- Start

-- a Start that answered 0 was lent the right lengths, and a number to start at
lengths_right_lem : (p q : Bool) → ◌≡◌ {A = ℕ} (cond p (cond q 0 4) 1) 0 → (p ≡ true) × (q ≡ true)
lengths_right_lem true true e = (refl, refl)
lengths_right_lem true false e = absurd (omega arith)
lengths_right_lem false q e = absurd (omega arith)

module _ (b area : List ℕ) (f : ℕ) (b' area' : List ℕ) (s : calls.Started b area f 0 b' area') (whole : Bytes b') where
  granted : (lengths_right b area ≡ true) × (startable f ≡ true)
  unfolding start_answer
  granted = lengths_right_lem (lengths_right b area) (startable f) (sym s.answer)

  book_long : length b' ≡ size
  unfolding lengths_right
  book_long = s.length_same ∙ eqb-true (length b) size (then_l (eqb (length b) size) _ granted.0)

  area_long : length area' ≡ area_size
  unfolding start_area
  area_long = ap length (s.area_made (sym s.answer)) ∙ length-replicate {A = ℕ} area_size 0

  begun_spelled : Spelled (started f) b' area'
  unfolding first_world world_after
  begun_spelled =
      record {
        started_well = start_is_sound f granted.1;
        good = (areas_mean b' area').1 (book_long, area_long, subst Sound (sym (s.book_made (sym s.answer))) (book.start_is_sound f granted.1));
        spells = ap₂ world_of (s.book_made (sym s.answer)) (s.area_made (sym s.answer)) ∙ start_world f;
        wiped = subst (Wiped (view b')) (sym (s.area_made (sym s.answer))) (start_wiped (view b'));
        bytes = whole;
      }

-- ---- a call

module _ (b area : List ℕ) (good : areas_b b area ≡ true) (c : ℕ) (x : Call) (out : List ℕ) (answer value : ℕ) (b' area' out' : List ℕ)
    (d : Called b area c x out answer value b' area' out') where
  -- on good areas, as the rules say of the world that they spell
  pub ruled_on : AsRuled (world b area) c x out answer value b' area' out'
  ruled_on =
      let e = verdict_is b area good c x in
      record {
        answer_is = d.said.answer_is ∙ ap answer_of e;
        value_is = d.said.value_is ∙ ap value_of e;
        output_is = d.output ∙ ap (λ (v : Verdict). output_left v out) e;
        world_is = world_after_lem b area good c x b' area' d.said.left;
      }

module _ (h : History) (b area : List ℕ) (p : Spelled h b area) (c : ℕ) (x : Call) (out : List ℕ) (answer value : ℕ) (b' area' out' : List ℕ)
    (d : Called b area c x out answer value b' area' out') where
  -- so of the history's world
  pub ruled : AsRuled (world_after h) c x out answer value b' area' out'
  ruled = subst (λ (w : World). AsRuled w c x out answer value b' area' out') p.spells (ruled_on b area p.good c x out answer value b' area' out' d)

  called_spelled : Spelled (next h c x) b' area'
  unfolding first_world world_after
  called_spelled =
      record {
        started_well = p.started_well;
        good = stays_good b area p.good c x b' area' d.said.left;
        spells = ruled.world_is;
        wiped = stays_wiped b area p.good p.wiped c x b' area' d.said.left;
        bytes = d.book_bytes;
      }

-- ---- every history

along : {h : History} {b area : List ℕ} → After h b area → Spelled h b area
along (begun f b₀ area₀ b area s) = begun_spelled b₀ area₀ f b area s.made s.book_bytes
along (called h b₀ area₀ c x out answer value b area out' p d) = called_spelled h b₀ area₀ (along p) c x out answer value b area out' d

pub spelled : (h : History) (b area : List ℕ) → After h b area → Spelled h b area
spelled h b area a = along a

-- ---- how a history grows

-- A call that left b' and area', by whatever contract says so, is the history's next.
pub left_after : (h : History) (b area : List ℕ) (c : ℕ) (x : Call) (b' area' : List ℕ) → After h b area → Left b area c x b' area' → Typed b' → Typed area'
    → After (next h c x) b' area'
left_after h b area c x b' area' a l t u =
    called h b area c x [] (answer_of (verdict_on b area c x)) (value_of (verdict_on b area c x)) b' area' (output_left (verdict_on b area c x) []) a
    (record {
      said = record { answer_is = refl; value_is = refl; left = l };
      output = refl;
      book_bytes = typed_bytes b' t;
      area_bytes = typed_bytes area' u;
    })

-- Start on areas of the right lengths, with a number that it takes, begins one.
pub start_begins : (b area : List ℕ) (f r : ℕ) (b' area' : List ℕ) → length b ≡ size → length area ≡ area_size → startable f ≡ true → calls.Started b area f r b' area'
    → Typed b' → Typed area' → After (started f) b' area'
unfolding start_answer lengths_right
start_begins b area f r b' area' l m g s t u =
    let e : r ≡ 0 = s.answer ∙ rw (eq-eqb (length b) size l, eq-eqb (length area) area_size m, g) in
    begun f b area b' area' (starts b area f 0 b' area' (subst (λ (n : ℕ). calls.Started b area f n b' area') e s) t u)
