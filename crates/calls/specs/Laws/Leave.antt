-- The way out of a refused call.
use Rattle.std.specs.Prelude.{ℕ, zero, suc, ◌-◌, ◌≤◌, ◌<◌, true, false, not, ◌≡◌, refl, List, [], ◌∷◌, get_or, length, Option, Some, None, MatchOption, Result, Ok, Err}
use Rattle.std.specs.Option.{ok_or}
use Rattle.std.specs.Result.{IsErr, IsErrAnd}
use Rattle.std.proofs.lemmas.Bool.{false≢true, lt-leb}
use Rattle.std.proofs.lemmas.Result.{err_from_is_err_and}
use Rattle.std.proofs.Common.{arith, sym, ap, subst, ◌∙◌, le-leb}
use Rattle.rules.specs.Kernel as kernel
use Rattle.rules.specs.Kernel.{Verdict, refused}
use Rattle.tables.specs.Layout.{view, size}
use Rattle.book.specs.Book.{next_of}
use Rattle.book.specs.Enact.{moved_on}
use Rattle.calls.specs.declared.Refusal.{Refusal}
use Rattle.calls.specs.declared.Refusal.TheVariants.{BadArea, NumbersEnded, NoCaller, BadArgument, NoEntry, WrongKind, LabelForbids, MaskForbids, QuotaFixed, AlreadyLinked}
use Rattle.calls.specs.declared.Refusal.TheVariants.{BeyondLength, NinthPair, NoSpare}
use Rattle.calls.specs.Outcome.{Answer, verdict_on, output_left, number_of, value_in, Ready, ruled, late, Told, Leavable, LeavesBy, Means}
use Rattle.calls.specs.Laws.Ways.{same_reason, not_both}
use Rattle.calls.specs.Laws.Prelude.{book_long, done_stopped, done_refused}

-- ---- a number means one refusal

-- the refusal that has it, for numbers from 1 to 13
pub numbered : ℕ → Refusal
numbered n =
    get_or (BadArea ∷ NumbersEnded ∷ NoCaller ∷ BadArgument ∷ NoEntry ∷ WrongKind ∷ LabelForbids ∷ MaskForbids ∷ QuotaFixed ∷ AlreadyLinked ∷ BeyondLength ∷ NinthPair ∷ NoSpare ∷ [])
    (n - 1) NoSpare

back_to : (r : Refusal) → numbered (kernel.number_of (ruled r)) ≡ r
unfolding numbered
back_to BadArea = refl
back_to NumbersEnded = refl
back_to NoCaller = refl
back_to BadArgument = refl
back_to NoEntry = refl
back_to WrongKind = refl
back_to LabelForbids = refl
back_to MaskForbids = refl
back_to QuotaFixed = refl
back_to AlreadyLinked = refl
back_to BeyondLength = refl
back_to NinthPair = refl
back_to NoSpare = refl

pub numbered_is : (n : ℕ) → 1 ≤ n → n ≤ 13 → kernel.number_of (ruled (numbered n)) ≡ n
unfolding numbered
numbered_is zero l m = absurd (omega arith)
numbered_is (suc zero) l m = refl
numbered_is (suc (suc zero)) l m = refl
numbered_is (suc (suc (suc zero))) l m = refl
numbered_is (suc (suc (suc (suc zero)))) l m = refl
numbered_is (suc (suc (suc (suc (suc zero))))) l m = refl
numbered_is (suc (suc (suc (suc (suc (suc zero)))))) l m = refl
numbered_is (suc (suc (suc (suc (suc (suc (suc zero))))))) l m = refl
numbered_is (suc (suc (suc (suc (suc (suc (suc (suc zero)))))))) l m = refl
numbered_is (suc (suc (suc (suc (suc (suc (suc (suc (suc zero))))))))) l m = refl
numbered_is (suc (suc (suc (suc (suc (suc (suc (suc (suc (suc zero)))))))))) l m = refl
numbered_is (suc (suc (suc (suc (suc (suc (suc (suc (suc (suc (suc zero))))))))))) l m = refl
numbered_is (suc (suc (suc (suc (suc (suc (suc (suc (suc (suc (suc (suc zero)))))))))))) l m = refl
numbered_is (suc (suc (suc (suc (suc (suc (suc (suc (suc (suc (suc (suc (suc zero))))))))))))) l m = refl
numbered_is (suc (suc (suc (suc (suc (suc (suc (suc (suc (suc (suc (suc (suc (suc n)))))))))))))) l m = absurd (omega arith)

pub ruled_once : (r s : Refusal) → kernel.number_of (ruled r) ≡ kernel.number_of (ruled s) → r ≡ s
ruled_once r s e = sym (back_to r) ∙ ap numbered e ∙ back_to s

not_zero : (r : Refusal) → kernel.number_of (ruled r) ≡ 0 → ⊥
not_zero BadArea e = omega arith
not_zero NumbersEnded e = omega arith
not_zero NoCaller e = omega arith
not_zero BadArgument e = omega arith
not_zero NoEntry e = omega arith
not_zero WrongKind e = omega arith
not_zero LabelForbids e = omega arith
not_zero MaskForbids e = omega arith
not_zero QuotaFixed e = omega arith
not_zero AlreadyLinked e = omega arith
not_zero BeyondLength e = omega arith
not_zero NinthPair e = omega arith
not_zero NoSpare e = omega arith

-- Answers with one number and one value are one.
pub told_apart : (a b : Answer) → number_of a ≡ number_of b → value_in a ≡ value_in b → a ≡ b
told_apart (Ok v) (Ok w) e f = ap Ok f
told_apart (Ok v) (Err s) e f = absurd (not_zero s (sym e))
told_apart (Err r) (Ok w) e f = absurd (not_zero r e)
told_apart (Err r) (Err s) e f = ap Err (ruled_once r s e)

-- ---- the ways out

-- A `?` hands on the refusal that it was given, f,
pub handed_on : {A : Type 0} (r : Result A Refusal) (f : Refusal) → IsErr r × IsErrAnd r (λ e. e ≡ f) → r ≡ Err f
handed_on r f h = let (g, e, q) = err_from_is_err_and r h.1 in e ∙ ap Err q

-- and the judge's answer is that, where it is right.
pub told_on : {A : Type 0} {b area : List ℕ} {v : Verdict} (go : A → Type 0) (r : Result A Refusal) {f : Refusal} → IsErr r × IsErrAnd r (λ e. e ≡ f)
    → Told b area v f → Means b area v go r
told_on {b = b} {area = area} {v = v} go r {f = f} h t = subst (Means b area v go) (sym (handed_on r f h)) t

-- The same where the `?` is of what was found, or of g where nothing is.
pub told_none : {A B : Type 0} {b area : List ℕ} {v : Verdict} (go : A → Type 0) (r : Result A Refusal) {f : Refusal} → IsErr r × IsErrAnd r (λ e. e ≡ f)
    → (o : Option B) {bad : Type 0} (well : B → Type 0) (g : Refusal) → MatchOption o bad well → ok_or o g ≡ Err f → (bad → Told b area v g) → Means b area v go r
told_none go r {f = f} k (Some q) well g h e t = absurd (not_both q f e)
told_none {b = b} {area = area} {v = v} go r {f = f} k None well g h e t = told_on go r k (subst (Told b area v) (same_reason g f e) (t h))

module _ {b area : List ℕ} {v : Verdict} {r : Refusal} where
  -- a refusal after 1 and 2
  pub told : v ≡ refused (ruled r) → Ready b area → Told b area v r
  told e ready = record { verdict = e; ready = λ z. ready }

  -- and one of the two, after which no number moves on
  pub told_early : late r ≡ false → v ≡ refused (ruled r) → Told b area v r
  told_early e q = record { verdict = q; ready = λ z. absurd (false≢true (sym e ∙ z)) }

  -- a refusal that is right for the verdict can be left by
  pub leavable : Told b area v r → Leavable b r
  leavable t = record { moves = λ e. (book_long b area (t.ready e).areas, (t.ready e).number) }

-- what every call asks of its judge's answer: that it can be left by, and the book's length
pub ruleset call_steps = (leavable, book_long)

is_late : (r : Refusal) (n : ℕ) → n ≡ kernel.number_of (ruled r) → 2 < n → late r ≡ true
is_late r n e l = ap not (lt-leb (kernel.number_of (ruled r)) 2 (subst (λ m. 2 < m) e l))

is_early : (r : Refusal) (n : ℕ) → n ≡ kernel.number_of (ruled r) → n ≤ 2 → late r ≡ false
is_early r n e l = ap not (le-leb (kernel.number_of (ruled r)) 2 (subst (λ m. m ≤ 2) e l))

-- the number moves on after it, so it can
pub can_move : (b : List ℕ) (r : Refusal) → Leavable b r → (n : ℕ) → n ≡ kernel.number_of (ruled r) → 2 < n
    → (length b ≡ size) × (next_of (view b) ≤ kernel.last_number)
can_move b r l n e h = l.moves (is_late r n e h)

-- a refusal leaves an output buffer as it was
output_kept : (v : Verdict) (f : kernel.Refusal) → v ≡ refused f → (out : List ℕ) → out ≡ output_left v out
unfolding output_left
output_kept v f e out = sym (ap (λ (y : Verdict). output_left y out) e)

module _ {A : Type 0} (b : List ℕ) (r : Refusal) (n : ℕ) (e : n ≡ kernel.number_of (ruled r)) where
  -- by 1 or 2: nothing changed
  pub left_early : n ≤ 2 → LeavesBy {A = A} b r (Err r) b
  left_early l =
      record {
        answer = refl;
        length_same = refl;
        moved = λ t. absurd (false≢true (sym (is_early r n e l) ∙ t));
        kept = λ t. refl;
        done = λ area c x t. done_stopped b area c x (ruled r) _ refl t.verdict (subst (λ (m : ℕ). m ≤ 2) e l);
        output = λ area c x t. output_kept (verdict_on b area c x) _ t.verdict;
      }

  -- by a later number: the next number moved on
  pub left_late : 2 < n → (b' : List ℕ) → length b' ≡ length b → view b' ≡ moved_on (view b) → LeavesBy {A = A} b r (Err r) b'
  left_late l b' long m =
      record {
        answer = refl;
        length_same = long;
        moved = λ t. m;
        kept = λ t. absurd (false≢true (sym t ∙ is_late r n e l));
        done = λ area c x t. done_refused b area c x (t.ready (is_late r n e l)) b' long (ruled r) _ refl t.verdict (subst (λ (m : ℕ). 2 < m) e l) m;
        output = λ area c x t. output_kept (verdict_on b area c x) _ t.verdict;
      }
