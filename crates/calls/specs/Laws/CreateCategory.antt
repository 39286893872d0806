-- Call 1: the verdict at each way out of its judging.
use Rattle.std.specs.Prelude.{ℕ, ◌<◌, Bool, true, false, cond, ◌&&◌, ◌≡◌, refl, List, [], eqb, Option, Some, None, Result, Ok, Err}
use Rattle.std.specs.Option.{ok_or}
use Rattle.std.specs.Result.{IsErr, IsErrAnd}
use Rattle.std.proofs.Common.{sym, ap, subst, ◌∙◌}
use Rattle.labels.specs.declared.Label.{Label}
use Rattle.labels.specs.Core.{has_room, with_pair, star, level3}
use Rattle.rules.specs.Kernel.{refuse, grant, must, judge, create_category, cleared_at, alter, relabel, good_arguments}
use Rattle.tables.specs.Layout.{view}
use Rattle.book.specs.Book.{next_of, label_of, clearance_of}
use Rattle.book.specs.Laws.Tie.{world_next}
use Rattle.calls.specs.declared.Refusal.{Refusal}
use Rattle.calls.specs.declared.Refusal.TheVariants.{NinthPair}
use Rattle.calls.specs.Outcome.{verdict_on, Told}
use Rattle.calls.specs.Begun.{Caller}
use Rattle.calls.specs.Relabel.{Relabels}
use Rattle.calls.specs.CreateCategory.{clears_b, CategoryJudged}
use Rattle.calls.specs.Laws.Begun.{caller_judged, caller_label, caller_clearance}
use Rattle.calls.specs.Laws.Leave.{told, told_on}
use Rattle.calls.specs.Laws.Prelude.{must_passed, must_failed}
use Rattle.calls.specs.Laws.Relabel.{caller_row, caller_label_fits, caller_clearance_fits}
use Rattle.calls.specs.Laws.Ways.{tried_ok, tried_none}

-- ---- the clearance

module _ (n : ℕ) (c : Label) where
  -- the default stays
  pub cleared_default : (cleared_at n c).default ≡ c.default
  unfolding cleared_at
  cleared_default = go (eqb c.default level3)
    where
      go : (x : Bool) → (cond x c (with_pair n level3 c)).default ≡ c.default
      go true = refl
      go false = refl

-- ---- the verdict

module _ (b area : List ℕ) (c t : ℕ) (by : Caller b area c t) where
  judged : verdict_on b area c create_category
      ≡ must (has_room (label_of (view b) t) && clears_b (clearance_of (view b) t)) 12
      (grant (next_of (view b)) [] (alter c (relabel (with_pair (next_of (view b)) star (label_of (view b) t)) (cleared_at (next_of (view b)) (clearance_of (view b) t)))))
  unfolding judge good_arguments
  judged =
      caller_judged b area c t by create_category refl
      ∙ (λ i. must (has_room (caller_label b area c t by i) && clears_b (caller_clearance b area c t by i)) 12
      (grant (world_next (view b) area i) [] (alter c (relabel (with_pair (world_next (view b) area i) star (caller_label b area c t by i))
      (cleared_at (world_next (view b) area i) (caller_clearance b area c t by i))))))

  -- no room in the label: 12
  pub label_twelve : has_room (label_of (view b) t) ≡ false → verdict_on b area c create_category ≡ refuse 12
  label_twelve e = judged ∙ must_failed _ 12 _ (ap (λ (x : Bool). x && clears_b (clearance_of (view b) t)) e)

  module _ (room : has_room (label_of (view b) t) ≡ true) where
    both_asked : (has_room (label_of (view b) t) && clears_b (clearance_of (view b) t)) ≡ clears_b (clearance_of (view b) t)
    both_asked = ap (λ (x : Bool). x && clears_b (clearance_of (view b) t)) room

    -- none in the clearance: 12
    pub clearance_twelve : clears_b (clearance_of (view b) t) ≡ false → verdict_on b area c create_category ≡ refuse 12
    clearance_twelve e = judged ∙ must_failed _ 12 _ (both_asked ∙ e)

    -- granted
    taken : clears_b (clearance_of (view b) t) ≡ true
        → Relabels b area c create_category (next_of (view b)) [] (with_pair (next_of (view b)) star (label_of (view b) t)) (cleared_at (next_of (view b)) (clearance_of (view b) t)) t
    taken e =
        record {
          granted = judged ∙ must_passed _ 12 _ (both_asked ∙ e);
          row = caller_row b area c t by;
          label_fits = caller_label_fits b area c t by;
          clearance_fits = subst (λ (d : ℕ). d < 256) (sym (cleared_default (next_of (view b)) (clearance_of (view b) t))) (caller_clearance_fits b area c t by);
        }

-- ---- the judge's answers, of a book with the bytes w

module _ (w b area : List ℕ) (c t : ℕ) (same : w ≡ b) (by : Caller w area c t) (o : Option Label)
    (e : o ≡ cond (has_room (label_of (view w) t)) (Some (with_pair (next_of (view w)) star (label_of (view w) t))) None) where
  pub label_full : (f : Refusal) → ok_or o NinthPair ≡ Err f → (r : Result (ℕ × Label × Label) Refusal) → IsErr r × IsErrAnd r (λ x. x ≡ f) → CategoryJudged b area c r
  label_full f h r k =
      let (n, q) = tried_none _ _ NinthPair f (ap (λ (x : Option Label). ok_or x NinthPair) (sym e) ∙ h) in
      subst (λ (z : List ℕ). CategoryJudged z area c r) same
      (told_on _ r k (subst (Told w area (verdict_on w area c create_category)) q (told (label_twelve w area c t by n) by.ready)))

  module _ (l : Label) (g : ok_or o NinthPair ≡ Ok l) (p : Option Label)
      (d : p ≡ cond (clears_b (clearance_of (view w) t)) (Some (cleared_at (next_of (view w)) (clearance_of (view w) t))) None) where
    its_label : (has_room (label_of (view w) t) ≡ true) × (with_pair (next_of (view w)) star (label_of (view w) t) ≡ l)
    its_label = tried_ok _ _ NinthPair l (ap (λ (x : Option Label). ok_or x NinthPair) (sym e) ∙ g)

    pub clearance_full : (f : Refusal) → ok_or p NinthPair ≡ Err f → (r : Result (ℕ × Label × Label) Refusal) → IsErr r × IsErrAnd r (λ x. x ≡ f) → CategoryJudged b area c r
    clearance_full f h r k =
        let (n, q) = tried_none _ _ NinthPair f (ap (λ (x : Option Label). ok_or x NinthPair) (sym d) ∙ h) in
        subst (λ (z : List ℕ). CategoryJudged z area c r) same
        (told_on _ r k (subst (Told w area (verdict_on w area c create_category)) q (told (clearance_twelve w area c t by its_label.0 n) by.ready)))

    pub both_taken : (k : Label) → ok_or p NinthPair ≡ Ok k → CategoryJudged b area c (Ok (t, l, k))
    both_taken k h =
        let (n, q) = tried_ok _ _ NinthPair k (ap (λ (x : Option Label). ok_or x NinthPair) (sym d) ∙ h) in
        subst (λ (z : List ℕ). CategoryJudged z area c (Ok (t, l, k))) same (
          by.ready,
          subst (λ (x : Label). Relabels w area c create_category (next_of (view w)) [] x k t) its_label.1
              (subst (λ (y : Label). Relabels w area c create_category (next_of (view w)) [] (with_pair (next_of (view w)) star (label_of (view w) t)) y t) q
              (taken w area c t by its_label.0 n)),
        )

-- what its judging needs at each way out but the granted one
pub ruleset ways_out = (label_full, clearance_full)
