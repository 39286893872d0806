-- From the contracts of `calls` to those of the exports.
use Rattle.std.specs.Prelude.{ℕ, Bool, ◌≡◌, refl, get_or, drop}
use Rattle.std.proofs.Math.Bool.{true, false, cond}
use Rattle.std.proofs.Common.{sym, subst, ◌∙◌, eqb-true, Fits}
use Rattle.std.proofs.Math.Path.{ap, ap₂}
use mathlib.Core.List.{List, []}
use Rattle.std.proofs.Math.ListN.{take}
use Rattle.std.proofs.Math.Dec.{eqb}
use Rattle.std.specs.Int.{w8}
use Rattle.rules.specs.Kernel as kernel
use Rattle.rules.specs.Kernel.{Call, Verdict, refused, grant, answer_of, value_of, output_of}
use Rattle.rules.specs.Answers.{output_size}
use Rattle.rules.proofs.Laws.Bools.{bool_cases}
use Rattle.rules.proofs.Theorems.Outputs.{no_output}
use Rattle.tables.specs.Layout.{view}
use Rattle.book.specs.Book.{world_of}
use Rattle.book.specs.Test.{areas_b}
use Rattle.calls.specs.Read.{PartAt, NoPart}
use Rattle.calls.specs.declared.Refusal.{Refusal}
use Rattle.calls.specs.Outcome.{Answer, verdict_on, output_left, number_of, value_in, ruled, Said, Done}
use Rattle.calls.specs.Started as calls
use Rattle.calls.specs.Laws.Prelude.{verdict_one}
use Rattle.calls.specs.Theorems.Kept.{verdict_is}
use Rattle.flytewood.specs.Called.{Bytes, Called, Started, place_given, count_given, ReadAs}

-- what the logic knows of a slice of bytes by its type
abbrev pub Typed : List ℕ → Type 0
Typed l = (i : ℕ) → Fits w8 (get_or l i 0)

pub typed_bytes : (l : List ℕ) → Typed l → Bytes l
typed_bytes l t k = (t k).fits

-- ---- Start

pub starts : (b area : List ℕ) (f answer : ℕ) (b' area' : List ℕ) → calls.Started b area f answer b' area' → Typed b' → Typed area' → Started b area f answer b' area'
starts b area f answer b' area' s t u = record { made = s; book_bytes = typed_bytes b' t; area_bytes = typed_bytes area' u }

-- ---- a call

-- what an empty output becomes is the rules' output
pub handed_out : (v : Verdict) → output_left v [] ≡ output_of v
unfolding output_left output_of
handed_out (refused r) = refl
handed_out (grant v o h) = refl

module _ (b area : List ℕ) (c : ℕ) (x : Call) (r : Answer) (b' area' : List ℕ) (answer value : ℕ) (e : answer ≡ number_of r) (f : value ≡ value_in r)
    (d : Done b area c x r b' area') (book-typed : Typed b') (area-typed : Typed area') where
  -- a call that is done, spread into number and value
  said : Said b area c x answer value b' area'
  said = record { answer_is = e ∙ d.answer_is; value_is = f ∙ d.value_is; left = d.left }

  -- Calls 15 and 16: the buffer is as their contract says.
  pub with_buffer : (out out' : List ℕ) → out' ≡ output_left (verdict_on b area c x) out → Called b area c x out answer value b' area' out'
  with_buffer out out' o = record { said = said; output = o; book_bytes = typed_bytes b' book-typed; area_bytes = typed_bytes area' area-typed }

  -- All others but the read: there is nothing to put out.
  pub no_buffer : output_size x ≡ 0 → Called b area c x [] answer value b' area' []
  unfolding output_of
  no_buffer n =
      with_buffer [] []
      (sym (handed_out (verdict_on b area c x)
      ∙ bool_cases (areas_b b area)
      (λ g. ap output_of (verdict_is b area g c x) ∙ no_output (world_of (view b) area) c x n)
      (λ g. ap output_of (verdict_one b area c x g))))

-- ---- call 12

module _ (b area : List ℕ) (c d s k f n : ℕ) (b' : List ℕ) (book-typed : Typed b') (area-typed : Typed area) where
  -- refused
  pub read_refused : (r : Refusal) (m y : ℕ) → m ≡ kernel.number_of (ruled r) → y ≡ 0 → NoPart b area c d s k f n b' r → ReadAs b area c d s k f n m y 0 0 b' area
  unfolding output_left place_given count_given
  read_refused r m y i j x =
      record {
        called =
            record {
              said = record { answer_is = i ∙ x.done.answer_is; value_is = j ∙ x.done.value_is; left = x.done.left };
              output = rw x.verdict;
              book_bytes = typed_bytes b' book-typed;
              area_bytes = typed_bytes area area-typed;
            };
        place_is = rw x.verdict;
        count_is = rw x.verdict;
      }

  empty_part : (m p q : ℕ) → eqb m 0 ≡ true → take m (drop p area) ≡ take m (drop q area)
  empty_part m p q e = subst (λ (i : ℕ). take i (drop p area) ≡ take i (drop q area)) (sym (eqb-true m 0 e)) refl

  -- granted
  pub read_granted : (p m place : ℕ) → PartAt b area c d s k f n b' p m → place ≡ cond (eqb m 0) 0 p → ReadAs b area c d s k f n 0 0 place m b' area
  unfolding answer_of value_of output_left place_given count_given
  read_granted p m place x e =
      record {
        called =
            record {
              said = record { answer_is = rw x.granted; value_is = rw x.granted; left = x.left };
              output = rw x.granted (go (eqb m 0) refl);
              book_bytes = typed_bytes b' book-typed;
              area_bytes = typed_bytes area area-typed;
            };
        place_is = rw x.granted (e ∙ ap₂ (λ (i j : ℕ). cond (eqb i 0) 0 j) x.count x.place);
        count_is = rw x.granted x.count;
      }
    where
      go : (t : Bool) → eqb m 0 ≡ t → take m (drop place area) ≡ take m (drop p area)
      go true q = empty_part m place p q
      go false q = ap (λ (i : ℕ). take m (drop i area)) (e ∙ ap (λ (t : Bool). cond t 0 p) q)
