-- The lowest place at which a test holds, and a list made of what stands at each place.
use Rattle.std.specs.Prelude.{ℕ, zero, suc, ◌+◌, ◌-◌, ◌<◌, ◌≤◌, Bool, true, false, cond, ◌≡◌, refl, List, [], ◌∷◌, length, get_or, Option, Some, None}
use Rattle.std.proofs.Common.{not-suc-le-zero, arith, sym, ◌∙◌, ap, subst, ext_get_or}
use Rattle.std.proofs.Math.Decide.{ℕ_discrete}
use Rattle.std.proofs.lemmas.Iterator.{YieldsList}
use Rattle.std.specs.Bool.{⊤}
use Rattle.std.specs.Fn.{CalledAt}
use Rattle.std.specs.Iterator.{Yields, AlwaysYields, FindsItem}
use Rattle.std.specs.List.{FoldsTo, range_with_len}
use Rattle.std.specs.Option.{MatchOption}
use Rattle.std.specs.Range.{range_inclusive_start, range_inclusive_end, range_inclusive_exhausted, range_inclusive_len, range_inclusive_left, range_inclusive_steps}
use Rattle.std.specs.declared.ops.RangeInclusive.{RangeInclusive}
use denote.Param.Members.{Mut}
use denote.Ref.{Bor}
use native.Mathlib.Numerals.{unary_clauses}
use Rattle.quotas.specs.Any.{no_both}
use Rattle.book.specs.Book.{first_from, first, on_found, collect}

-- ---- a place or nothing

-- a place is not nothing
pub no_place : (i : ℕ) → Some i ≡ None → ⊥
no_place i e = let z : ◌≡◌ {A = ℕ} 0 1 = cc in omega arith

-- two places that are one
pub same_place : (i j : ℕ) → Some i ≡ Some j → i ≡ j
same_place i j e = cc

-- What was found is looked at.
pub on_at : {X : Type 0} (x : Option ℕ) (i : ℕ) (hit : ℕ → X) (miss : X) → x ≡ Some i → on_found x hit miss ≡ hit i
on_at x i hit miss e = rw e

pub on_nothing : {X : Type 0} (x : Option ℕ) (hit : ℕ → X) (miss : X) → x ≡ None → on_found x hit miss ≡ miss
on_nothing x hit miss e = rw e

-- By whether a place was found, with the equation that says so.
pub found_cases : {C : Type 0} (x : Option ℕ) → ((i : ℕ) → x ≡ Some i → C) → (x ≡ None → C) → C
found_cases (Some i) f g = f i refl
found_cases None f g = g refl

-- ---- from i on

-- the first place is looked at
from_one : (n i : ℕ) (f : ℕ → Bool) (b : Bool) → f i ≡ b → first_from (suc n) i f ≡ cond b (Some i) (first_from n (suc i) f)
unfolding first_from
from_one n i f b e = rw e

-- The test fails below k and holds there: k is found.
pub from_at : (n i : ℕ) (f : ℕ → Bool) (k : ℕ) → i ≤ k → k < i + n → f k ≡ true → ((j : ℕ) → i ≤ j → j < k → f j ≡ false) → first_from n i f ≡ Some k
from_at zero i f k a b t u = absurd (omega arith)
from_at (suc n) i f k a b t u = elim (ℕ_discrete i k) [
  | yes e ↦ from_one n i f true (ap f e ∙ t) ∙ ap Some e
  | no ne ↦ from_one n i f false (u i (omega arith) (omega arith)) ∙ from_at n (suc i) f k (omega arith) (omega arith) t (λ j p q. u j (omega arith) q)
]

-- The test fails throughout: nothing is found.
pub from_nothing : (n i : ℕ) (f : ℕ → Bool) → ((j : ℕ) → i ≤ j → j < i + n → f j ≡ false) → first_from n i f ≡ None
unfolding first_from
from_nothing zero i f u = refl
from_nothing (suc n) i f u = rw (u i (omega arith) (omega arith)) (from_nothing n (suc i) f (λ j p q. u j (omega arith) (omega arith)))

-- what it means that k is found
from_found : (n i : ℕ) (f : ℕ → Bool) (k : ℕ) → first_from n i f ≡ Some k → (k < i + n) × (f k ≡ true)
unfolding first_from
from_found zero i f k e = absurd (no_place k (sym e))
from_found (suc n) i f k e = go (λ q. from_found n (suc i) f k q) (f i) refl e
  where
    go : (first_from n (suc i) f ≡ Some k → (k < suc i + n) × (f k ≡ true)) → (b : Bool) → f i ≡ b → cond b (Some i) (first_from n (suc i) f) ≡ Some k
        → (k < i + suc n) × (f k ≡ true)
    go more true t e = let z = same_place i k e in (omega arith, ap f (sym z) ∙ t)
    go more false t e = let (low, hit) = more e in (omega arith, hit)

-- what it means that nothing is found
pub from_none : (n i : ℕ) (f : ℕ → Bool) → first_from n i f ≡ None → (j : ℕ) → i ≤ j → j < i + n → f j ≡ false
unfolding first_from
from_none zero i f e j p q = absurd (omega arith)
from_none (suc n) i f e j p q = go (λ z. from_none n (suc i) f z j) (f i) refl e
  where
    go : (first_from n (suc i) f ≡ None → suc i ≤ j → j < suc i + n → f j ≡ false) → (b : Bool) → f i ≡ b → cond b (Some i) (first_from n (suc i) f) ≡ None → f j ≡ false
    go more true t e = absurd (no_place i e)
    go more false t e = elim (ℕ_discrete i j) [ yes z ↦ ap f (sym z) ∙ t | no z ↦ more e (omega arith) (omega arith) ]

-- Equal tests find the same.
pub from_cong : (n i : ℕ) (f g : ℕ → Bool) → ((j : ℕ) → i ≤ j → j < i + n → f j ≡ g j) → first_from n i f ≡ first_from n i g
unfolding first_from
from_cong zero i f g h = refl
from_cong (suc n) i f g h = rw (h i (omega arith) (omega arith), from_cong n (suc i) f g (λ j p q. h j (omega arith) (omega arith)))

-- ---- below n

module _ (n : ℕ) (f : ℕ → Bool) where
  -- The lowest place at which the test holds is found.
  pub first_at : (k : ℕ) → k < n → f k ≡ true → ((j : ℕ) → j < k → f j ≡ false) → first n f ≡ Some k
  first_at k l t u = from_at n 0 f k (omega arith) (omega arith) t (λ j p q. u j q)

  -- Where the test holds at one place only, that is found.
  pub first_only : (k : ℕ) → k < n → f k ≡ true → ((j : ℕ) → j < n → f j ≡ true → j ≡ k) → first n f ≡ Some k
  first_only k l t u = first_at k l t (λ j q. off j q (f j) refl)
    where
      off : (j : ℕ) → j < k → (b : Bool) → f j ≡ b → f j ≡ false
      off j q true e = absurd (let z = u j (omega arith) e in omega arith)
      off j q false e = e

  -- Where the test fails everywhere, nothing is found.
  pub first_nothing : ((j : ℕ) → j < n → f j ≡ false) → first n f ≡ None
  first_nothing u = from_nothing n 0 f (λ j p q. u j (omega arith))

  -- What is found is below n
  pub first_low : (k : ℕ) → first n f ≡ Some k → k < n
  first_low k e = omega (arith, (from_found n 0 f k e).0)

  -- and passes the test.
  pub first_hit : (k : ℕ) → first n f ≡ Some k → f k ≡ true
  first_hit k e = (from_found n 0 f k e).1

  -- Where nothing is found, the test fails everywhere.
  pub first_none : first n f ≡ None → (j : ℕ) → j < n → f j ≡ false
  first_none e j l = from_none n 0 f e j (omega arith) (omega arith)

  -- Where the test holds somewhere, a place is found.
  pub first_some : (k : ℕ) → k < n → f k ≡ true → (r : ℕ) × (first n f ≡ Some r)
  first_some k l t =
      found_cases {C = (r : ℕ) × (first n f ≡ Some r)} (first n f) (λ r e. (r, e)) (λ e. absurd (no_both (f k) t (first_none e k l)))

-- ---- as `find` finds

module _ {S F : Type 0} (steps : S → Option ℕ → S → Type 0) (g : Mut F (Bor ℕ × Unit {0}) Bool) (test : ℕ → Bool) (u : S) (f : F)
    (answers : (x : ℕ) (b : Bool) (q : F) → CalledAt g f x b q → (q ≡ f) × (b ≡ test x)) where
  -- what comes first is what was found: the source gives number i and more
  ends : (n i : ℕ) (r : Option ℕ) (s : S) → AlwaysYields steps (λ x. x) s (range_with_len i n) → steps s r u → MatchOption r ⊤ (λ x. (h : F) × CalledAt g f x true h)
      → r ≡ first_from n i test
  unfolding first_from
  ends zero i None s gives l w = refl
  ends zero i (Some x) s gives l w = absurd (gives x u l)
  ends (suc n) i None s gives l w = absurd (gives.0 u l)
  ends (suc n) i (Some x) s gives l w =
      let e = (gives.1 x u l).0 in
      ap Some e ∙ sym (from_one n i test true (ap test (sym e) ∙ sym (answers x true w.0 w.1).1))

  -- The test fails at what comes before that.
  from_ran : (n i : ℕ) (r : Option ℕ) (s : S) → AlwaysYields steps (λ x. x) s (range_with_len i n) → (xs : List ℕ) (j : F) (t : S) → Yields steps s xs t → steps t r u
      → FoldsTo (λ p x q. CalledAt g p x false q) f xs j → MatchOption r ⊤ (λ x. (h : F) × CalledAt g j x true h) → r ≡ first_from n i test
  from_ran n i r s gives [] j t y l q w =
      ends n i r s gives (subst (λ (z : S). steps z r u) (sym y) l) (subst (λ (z : F). MatchOption r ⊤ (λ x. (h : F) × CalledAt g z x true h)) (sym q) w)
  from_ran zero i r s gives (x ∷ xs) j t y l q w = absurd (gives x y.0 y.1)
  from_ran (suc n) i r s gives (x ∷ xs) j t y l q w =
      let (e, more) = gives.1 x y.0 y.1 in
      let (stays, off) = answers x false q.0 q.1 in
      from_ran n (suc i) r y.0 (simp unary_clauses at more) xs j t y.2 l (subst (λ (z : F). FoldsTo (λ p x q. CalledAt g p x false q) z xs j) stays q.2) w
      ∙ sym (from_one n i test false (ap test (sym e) ∙ sym off))

  -- The source gives 0, 1, .. and n - 1, and the closure answers the test and stays as it is.
  pub found_first : (n : ℕ) (r : Option ℕ) (s : S) → YieldsList steps (λ x. x) s (range_with_len 0 n) → FindsItem steps g s f r u → r ≡ first n test
  found_first n r s gives (xs, j, (t, y, l), q, w) = from_ran n 0 r s gives.runs xs j t y l q w

-- Tests that are equal below n find the same below n.
pub first_cong : (n : ℕ) (f g : ℕ → Bool) → ((j : ℕ) → j < n → f j ≡ g j) → first n f ≡ first n g
first_cong n f g h = from_cong n 0 f g (λ j p q. h j (omega arith))

-- ---- what 0..=m gives

abbrev pub up_to_steps : RangeInclusive ℕ → Option ℕ → RangeInclusive ℕ → Type 0
up_to_steps = range_inclusive_steps (λ x y. y - x) (λ x y. y ≡ x + 1)

-- one that has numbers left is not spent
alive : (s : RangeInclusive ℕ) → 0 < range_inclusive_left (λ x y. y - x) s → range_inclusive_exhausted s ≡ false
alive s l = go (range_inclusive_exhausted s) refl
  where
    go : (b : Bool) → range_inclusive_exhausted s ≡ b → range_inclusive_exhausted s ≡ false
    go true e = absurd (omega (arith, l, ap (range_inclusive_len (λ x y. y - x) (range_inclusive_start s) (range_inclusive_end s)) e))
    go false e = e

-- n numbers are left, the first of which is i
up_from : (n i : ℕ) (s : RangeInclusive ℕ) → range_inclusive_left (λ x y. y - x) s ≡ n → (0 < n → range_inclusive_start s ≡ i) → AlwaysYields up_to_steps (λ x. x) s (range_with_len i n)
up_from zero i s e a = λ x t l. omega (arith, l.1.1, e)
up_from (suc n) i s e a = (
  λ t l. omega (arith, l.1.0, e),
  λ x t l. (l.1.0 ∙ a (omega arith), up_from n (i + 1) t (omega (arith, l.1.1, e)) (λ p. l.1.2 (alive t (omega arith)) ∙ ap (λ (k : ℕ). k + 1) (a (omega arith)))),
)

-- It gives 0, 1, .. and m.
pub up_to : (m : ℕ) (s : RangeInclusive ℕ) → range_inclusive_start s ≡ 0 → range_inclusive_end s ≡ m → range_inclusive_exhausted s ≡ false
    → YieldsList up_to_steps (λ x. x) s (range_with_len 0 (m + 1))
up_to m s a b e = record { runs = up_from (m + 1) 0 s (ap (range_inclusive_len (λ x y. y - x) (range_inclusive_start s) (range_inclusive_end s)) e ∙ omega (arith, a, b)) (λ p. a) }

-- ---- a list made of what stands at each place

pub collect_length : {A : Type 0} (n : ℕ) (f : ℕ → A) → length (collect n f) ≡ n
unfolding collect
collect_length zero f = refl
collect_length (suc n) f = ap suc (collect_length n (λ i. f (suc i)))

pub collected_at : {A : Type 0} (d : A) (n : ℕ) (f : ℕ → A) (i : ℕ) → i < n → get_or (collect n f) i d ≡ f i
unfolding collect
collected_at d zero f i l = absurd (not-suc-le-zero l)
collected_at d (suc n) f zero l = refl
collected_at d (suc n) f (suc i) l = collected_at d n (λ j. f (suc j)) i (omega arith)

-- A list of length n with f i at each place i is what is collected.
pub collected_is : {A : Type 0} (d : A) (n : ℕ) (f : ℕ → A) (l : List A) → length l ≡ n → ((i : ℕ) → i < n → get_or l i d ≡ f i) → collect n f ≡ l
collected_is d n f l e h =
    ext_get_or d (collect n f) l (collect_length n f ∙ sym e)
    (λ i k. let m : i < n = subst (λ (x : ℕ). i < x) (collect_length n f) k in collected_at d n f i m ∙ sym (h i m))

-- Both of numbers.
pub collect_at : (n : ℕ) (f : ℕ → ℕ) (i : ℕ) → i < n → get_or (collect n f) i 0 ≡ f i
collect_at n f = collected_at 0 n f

pub collect_is : (n : ℕ) (f : ℕ → ℕ) (l : List ℕ) → length l ≡ n → ((i : ℕ) → i < n → get_or l i 0 ≡ f i) → collect n f ≡ l
collect_is n f = collected_is 0 n f

pub collect_cong : (n : ℕ) (f g : ℕ → ℕ) → ((i : ℕ) → i < n → f i ≡ g i) → collect n f ≡ collect n g
collect_cong n f g h = collect_is n f (collect n g) (collect_length n g) (λ i l. collect_at n g i l ∙ sym (h i l))
