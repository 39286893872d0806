-- Call 16: the place looked up, the bytes put out, and the verdict at each way out of its judging.
use Rattle.std.specs.Prelude.{ℕ, ◌+◌, ◌*◌, ◌≤◌, Bool, true, false, not, cond, ◌&&◌, ◌||◌, ◌≡◌, refl, List, ◌∷◌, ◌++◌, length, replicate, eqb, Result, Ok, Err}
use Rattle.std.specs.Result.{IsErr, IsErrAnd}
use Rattle.std.proofs.Common.{arith, sym, ap₂, subst, ◌∙◌, eq-eqb, ne_eqb, eqb-true}
use Rattle.std.proofs.Math.Path.{ap}
use Rattle.std.proofs.lemmas.Bool.{eqb-false}
use Rattle.labels.specs.declared.Label.{Label}
use Rattle.labels.specs.Core.{may_read, words_bytes, word_count}
use Rattle.labels.specs.Core.Formed.{formed_default_top}
use Rattle.rules.specs.Kernel.{thread_code, max_code, Obj, grant, must, judge, opens, entry, look, keep, kind_code, look_bytes, look_size, good_arguments}
use Rattle.rules.proofs.Laws.Kinds.{code_from}
use Rattle.tables.specs.Layout.{View, view}
use Rattle.book.specs.Book.{next_of, code_of, label_of, object_at, world_of, is_thread_or_gate}
use Rattle.book.specs.Sound.{Live}
use Rattle.book.specs.Enact.{moved_on, enact_view, enact_area}
use Rattle.book.specs.Laws.Find.{container_found}
use Rattle.book.specs.Laws.Tie.{object_kind, object_label, object_description, object_thread}
use Rattle.calls.specs.declared.Refusal.{Refusal}
use Rattle.calls.specs.declared.Refusal.TheVariants.{BadArgument, NoEntry}
use Rattle.book.specs.declared.find.Entry.{Entry}
use Rattle.calls.specs.Outcome.{verdict_on, Done, Ready, Told}
use Rattle.calls.specs.Begun.{Caller}
use Rattle.calls.specs.Lookup.{open_container, open_entry}
use Rattle.calls.specs.Look.{object_at_place, open_look, shown_bytes, hidden_bytes, look_at, ToLook, LookJudged}
use Rattle.calls.specs.Laws.Begun.{caller_four, caller_judged, caller_label, sound_by_caller}
use Rattle.calls.specs.Laws.Entry.{no_entry, is_entry, object_there, object_is}
use Rattle.calls.specs.Laws.Ways.{same_value, not_both}
use Rattle.calls.specs.Laws.Lookup.{shut_is, five_told, not_open, is_open, holder_row, holder_there}
use Rattle.calls.specs.Laws.Leave.{told, told_on}
use Rattle.calls.specs.Laws.Prelude.{must_passed, must_failed, done_granted}

-- ---- the place

module _ (v : View) (t d o : ℕ) where
  -- the container itself
  place_own : o ≡ d → open_look v t d o ≡ open_container v t d
  unfolding open_look
  place_own e = ap (λ (x : Bool). cond x (open_container v t d) (object_at_place (open_entry v t d o))) (eq-eqb o d e)

  -- another object: where the entry has it
  pub place_other : (o ≡ d → ⊥) → open_look v t d o ≡ object_at_place (open_entry v t d o)
  unfolding open_look
  place_other ne = ap (λ (x : Bool). cond x (open_container v t d) (object_at_place (open_entry v t d o))) (ne_eqb o d ne)

no_object : (x : Result Entry Refusal) (f : Refusal) → object_at_place x ≡ Err f → x ≡ Err f
no_object (Ok p) f e = absurd (not_both p.object f e)
no_object (Err g) f e = let q : g ≡ f = cc in ap Err q

one_object : (x : Result Entry Refusal) (r : ℕ) → object_at_place x ≡ Ok r → (p : Entry) × (x ≡ Ok p) × (p.object ≡ r)
one_object (Ok p) r e = (p, refl, same_value p.object r e)
one_object (Err f) r e = absurd (not_both r f (sym e))

-- what a place that is found says
pub record Looked (v : View) (area : List ℕ) (t : Obj) (d o r : ℕ) : Type 0 where
  pub opened : (opens (world_of v area) t d && (eqb o d || (world_of v area).linked d o)) ≡ true
  pub object_live : Live v r
  pub object_is : (world_of v area).obj o ≡ object_at v area r

same_or_other : {C : Type 0} (o d : ℕ) → (o ≡ d → C) → ((o ≡ d → ⊥) → C) → C
same_or_other {C} o d f g = go (eqb o d) refl
  where
    go : (x : Bool) → eqb o d ≡ x → C
    go true e = f (eqb-true o d e)
    go false e = g (eqb-false o d e)

and_true : (a : Bool) → (a && true) ≡ a
and_true true = refl
and_true false = refl

module _ (v : View) (area : List ℕ) (t : Obj) (d o : ℕ) where
  -- of the container itself, its being open is asked
  own_asked : o ≡ d → (opens (world_of v area) t d && (eqb o d || (world_of v area).linked d o)) ≡ opens (world_of v area) t d
  own_asked e = ap (λ (x : Bool). opens (world_of v area) t d && (x || (world_of v area).linked d o)) (eq-eqb o d e) ∙ and_true (opens (world_of v area) t d)

  -- of another object, the entry
  other_asked : (o ≡ d → ⊥) → (opens (world_of v area) t d && (eqb o d || (world_of v area).linked d o)) ≡ entry (world_of v area) t d o
  unfolding entry
  other_asked ne = ap (λ (x : Bool). opens (world_of v area) t d && (x || (world_of v area).linked d o)) (ne_eqb o d ne)

module _ (b area : List ℕ) (c t d o : ℕ) (by : Caller b area c t) where
  look_none : (f : Refusal) → open_look (view b) t d o ≡ Err f
      → ((opens (world_of (view b) area) ((world_of (view b) area).obj c) d && (eqb o d || (world_of (view b) area).linked d o)) ≡ false) × (f ≡ NoEntry)
  look_none f h =
      same_or_other o d
      (λ e. let i = sym (place_own (view b) t d o e) ∙ h in
      (own_asked (view b) area ((world_of (view b) area).obj c) d o e ∙ not_open b area c t d by f i, shut_is (view b) t d f i))
      (λ ne. let (n, q) = no_entry b area c t d o by f (no_object _ f (sym (place_other (view b) t d o ne) ∙ h)) in
      (other_asked (view b) area ((world_of (view b) area).obj c) d o ne ∙ n, q))

  look_found : (r : ℕ) → open_look (view b) t d o ≡ Ok r → Looked (view b) area ((world_of (view b) area).obj c) d o r
  look_found r h =
      same_or_other o d
      (λ e. let i = sym (place_own (view b) t d o e) ∙ h in
      record {
        opened = own_asked (view b) area ((world_of (view b) area).obj c) d o e ∙ is_open b area c t d by r i;
        object_live = holder_there b area c t d by r i;
        object_is = ap (world_of (view b) area).obj e ∙ (container_found (view b) area d r (holder_row b area c t d by r i)).1;
      })
      (λ ne. let (p, i, y) = one_object _ r (sym (place_other (view b) t d o ne) ∙ h) in
      record {
        opened = other_asked (view b) area ((world_of (view b) area).obj c) d o ne ∙ is_entry b area c t d o by p i;
        object_live = subst (Live (view b)) y (object_there b area c t d o by p i);
        object_is = object_is b area c t d o by p i ∙ ap (object_at (view b) area) y;
      })

-- ---- the bytes

choose : {X : Type 0} (x : Bool) (a b : X) → cond x a b ≡ cond (not x) b a
choose true a b = refl
choose false a b = refl

under_cons : (x : Bool) (k : ℕ) (a b : List ℕ) → (k ∷ cond x a b) ≡ cond x (k ∷ a) (k ∷ b)
under_cons true k a b = refl
under_cons false k a b = refl

-- what the rules put out of an object is what its row has
pub look_bytes_lem : (v : View) (area : List ℕ) (mine : Label) (r : ℕ) → code_of v r ≤ max_code → look_bytes mine (object_at v area r) ≡ look_at v mine r
unfolding look_bytes
look_bytes_lem v area mine r small =
    ap₂ (λ (s : List ℕ) (z : List ℕ). s ++ z) (object_description v area r)
    ((λ i. (kind_code (object_kind v area r i)
    ∷ cond (object_thread v area r i && not (may_read mine (object_label v area r i))) (replicate (7 + word_count * 8) 0)
    (1 ∷ (object_label v area r i).default ∷ (replicate 5 0 ++ words_bytes (object_label v area r i).words))))
    ∙ (ap (λ (k : ℕ). k ∷ cond (eqb (code_of v r) thread_code && not (may_read mine (label_of v r))) (replicate (7 + word_count * 8) 0)
    (1 ∷ (label_of v r).default ∷ (replicate 5 0 ++ words_bytes (label_of v r).words))) (code_from (code_of v r) small)
    ∙ (under_cons (eqb (code_of v r) thread_code && not (may_read mine (label_of v r))) (code_of v r) (replicate (7 + word_count * 8) 0)
    (1 ∷ (label_of v r).default ∷ (replicate 5 0 ++ words_bytes (label_of v r).words))
    ∙ choose (eqb (code_of v r) thread_code && not (may_read mine (label_of v r))) (hidden_bytes (code_of v r)) (shown_bytes (code_of v r) (label_of v r)))))

-- ---- the verdict, of the book that was lent

module _ (b area : List ℕ) (c t d o n : ℕ) (book : List ℕ) (lent : book ≡ b) (by : Caller book area c t) where
  -- an output of another length: 4
  pub look_four : (n ≡ look_size → ⊥) → Told b area (verdict_on b area c (look d o n)) BadArgument
  unfolding good_arguments
  look_four ne =
      rw (sym lent)
      (told (caller_four book area c t by (look d o n) (ne_eqb n look_size ne)) by.ready)

  module _ (sized : n ≡ look_size) where
    judged : verdict_on book area c (look d o n)
        ≡ must (opens (world_of (view book) area) ((world_of (view book) area).obj c) d && (eqb o d || (world_of (view book) area).linked d o)) 5
        (grant 0 (look_bytes ((world_of (view book) area).obj c).label ((world_of (view book) area).obj o)) keep)
    unfolding judge good_arguments
    judged = caller_judged book area c t by (look d o n) (eq-eqb n look_size sized)

    -- no such place: 5
    pub look_five : (f : Refusal) → open_look (view book) t d o ≡ Err f → (r : Result (ℕ × ℕ) Refusal) → IsErr r × IsErrAnd r (λ e. e ≡ f) → LookJudged b area c d o n r
    look_five f e r h =
        let (m, q) = look_none book area c t d o by f e in
        rw (sym lent) (told_on _ r h (five_told by.ready f q (judged ∙ must_failed _ 5 _ m)))

    granted : (r : ℕ) → open_look (view book) t d o ≡ Ok r → ToLook book area c d o n t r
    granted r e =
        let seen = look_found book area c t d o by r e in
        record {
          granted =
              judged ∙ (must_passed _ 5 _ seen.opened
              ∙ (ap₂ (λ (x : Label) (y : Obj). grant 0 (look_bytes x y) keep) (caller_label book area c t by) seen.object_is
              ∙ ap (λ (x : List ℕ). grant 0 x keep) (look_bytes_lem (view book) area (label_of (view book) t) r ((sound_by_caller book area c t by).ranges r seen.object_live).code_most)));
          sized = sized;
          label_fits =
              omega (
                arith,
                formed_default_top (next_of (view book)) (is_thread_or_gate (code_of (view book) r)) (label_of (view book) r).default (label_of (view book) r).words
                    ((sound_by_caller book area c t by).labels r seen.object_live),
              );
        }

    pub to_look : (r : ℕ) → open_look (view book) t d o ≡ Ok r → LookJudged b area c d o n (Ok (t, r))
    to_look r e = rw (sym lent) (by.ready, granted r e)

-- what its judging needs at each way out but the granted one
pub ruleset ways_out = (look_four, look_five)

-- the number moves on and nothing else is changed
pub look_done : (b area : List ℕ) (c d o n t r : ℕ) → Ready b area → ToLook b area c d o n t r → (b' : List ℕ) → length b' ≡ length b
    → view b' ≡ moved_on (view b) → Done b area c (look d o n) (Ok 0) b' area
unfolding enact_view enact_area
look_done b area c d o n t r ready go b' long m = done_granted b area c (look d o n) ready b' long 0 _ keep area go.granted m refl
