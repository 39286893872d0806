-- Call 14: the verdict at each way out of its judging, and what it does.
use Rattle.std.specs.Prelude.{ℕ, ◌<◌, ◌≤◌, true, ◌≡◌, List, [], length, leb, Ok, Err, Some, Result}
use Rattle.std.proofs.Common.{arith, sym, ap, subst, ◌∙◌, eq-eqb, ne_eqb, le-leb}
use Rattle.std.proofs.lemmas.Bool.{lt-leb}
use Rattle.rules.specs.Kernel.{segment_code, grant, must, must_hold, judge, writing, resize, resized, alter, rewrite, units, good_arguments, max_length, last_number}
use Rattle.tables.specs.Layout.{View, view, row_count}
use Rattle.book.specs.Book.{next_of, code_of, quota_of, label_of, bytes_of, row_of, world_of}
use Rattle.book.specs.Enact.{moved_on, lengthened, area_after, enact_view, enact_area}
use Rattle.book.specs.Sound.{Sound}
use Rattle.book.specs.Laws.Lengthened.{lengthened_is}
use Rattle.book.specs.Laws.Resize.{resized_view, resized_enacted}
use Rattle.book.specs.Laws.Tie.{row_is}
use Rattle.calls.specs.declared.Refusal.{Refusal}
use Rattle.book.specs.declared.find.Entry.{Entry}
use Rattle.calls.specs.Outcome.{verdict_on, Ready, Told, Done}
use Rattle.calls.specs.Conditions.{passed, tested}
use Rattle.calls.specs.Begun.{Caller}
use Rattle.calls.specs.Access.{access_on}
use Rattle.calls.specs.Lookup.{open_entry}
use Rattle.calls.specs.Resize.{ToResize, ResizeJudged}
use Rattle.calls.specs.Laws.Access.{access_five, access_at, open_low, segment_quota, segment_bytes}
use Rattle.calls.specs.Laws.Begun.{caller_four, caller_judged}
use Rattle.calls.specs.Laws.Conditions.{pass_on, fail_told}
use Rattle.calls.specs.Laws.Entry.{object_found}
use Rattle.calls.specs.Laws.Prelude.{must_passed, must_failed, book_sound, done_granted}
use Rattle.std.specs.Result.{IsErr, IsErrAnd}
use Rattle.calls.specs.Laws.Leave.{told, told_on}
use Rattle.calls.specs.declared.Refusal.TheVariants.{BadArgument, WrongKind, NoSpare}

module _ (b area : List ℕ) (c t d s n : ℕ) (book : List ℕ) (lent : book ≡ b) (by : Caller book area c t) where
  -- over its limit: 4
  pub long_four : max_length < n → Told b area (verdict_on b area c (resize d s n)) BadArgument
  unfolding good_arguments
  long_four h = rw (sym lent) (told (caller_four book area c t by (resize d s n) (lt-leb n max_length h)) by.ready)

  module _ (h : n ≤ max_length) where
    judged : verdict_on book area c (resize d s n)
        ≡ access_on book area c d s true
        (must (leb (units n) ((world_of (view book) area).obj s).quota) 13
        (grant 0 [] (alter s (rewrite (resized n ((world_of (view book) area).obj s).bytes)))))
    unfolding judge good_arguments
    judged = caller_judged book area c t by (resize d s n) (le-leb n max_length h)

    -- no entry: 5
    pub resize_five : (f : Refusal) → open_entry (view book) t d s ≡ Err f → (r : Result ℕ Refusal) → IsErr r × IsErrAnd r (λ e. e ≡ f) → ResizeJudged b area c d s n r
    resize_five f e r k = rw (sym lent) (told_on _ r k (access_five book area c t d s by true _ _ judged f e))

    module _ (p : Entry) (e : open_entry (view book) t d s ≡ Ok p) where
      -- no segment: 6
      pub resize_six : (code_of (view book) p.object ≡ segment_code → ⊥) → Told b area (verdict_on b area c (resize d s n)) WrongKind
      resize_six g =
          rw (sym lent)
          (told (judged ∙ access_at book area c t d s by true _ p e ∙ must_failed _ 6 _ (ne_eqb (code_of (view book) p.object) segment_code g)) by.ready)

      module _ (code : code_of (view book) p.object ≡ segment_code) where
        row : row_of (view book) s ≡ Some p.object
        row = object_found book area c t d s by p e

        from_seven : verdict_on book area c (resize d s n)
            ≡ must_hold (writing (label_of (view book) t) (label_of (view book) p.object))
            (must (leb (units n) (quota_of (view book) p.object)) 13
            (grant 0 [] (alter s (rewrite (resized n (bytes_of (view book) area p.object))))))
        from_seven =
            judged
            ∙ access_at book area c t d s by true _ p e
            ∙ must_passed _ 6 _ (eq-eqb (code_of (view book) p.object) segment_code code)
            ∙ (λ j. must_hold (writing (label_of (view book) t) (label_of (view book) p.object))
            (must (leb (units n) (segment_quota book area s p.object row j)) 13
            (grant 0 [] (alter s (rewrite (resized n (segment_bytes book area s p.object row code j)))))))

        -- not writable: 7
        pub resize_seven : (f : Refusal) → tested (writing (label_of (view book) t) (label_of (view book) p.object)) ≡ Err f
            → (r : Result ℕ Refusal) → IsErr r × IsErrAnd r (λ e. e ≡ f) → ResizeJudged b area c d s n r
        resize_seven f w r k = rw (sym lent) (told_on _ r k (fail_told book area _ _ _ f from_seven w by.ready))

        module _ (w : tested (writing (label_of (view book) t) (label_of (view book) p.object)) ≡ passed) where
          -- not enough spare: 13
          pub resize_thirteen : quota_of (view book) p.object < units n → Told b area (verdict_on b area c (resize d s n)) NoSpare
          resize_thirteen o = rw (sym lent) (told (from_seven ∙ pass_on _ _ w ∙ must_failed _ 13 _ (lt-leb (units n) (quota_of (view book) p.object) o)) by.ready)

          -- granted
          pub to_resize : units n ≤ quota_of (view book) p.object → ResizeJudged b area c d s n (Ok p.object)
          to_resize o =
              rw (sym lent) (
                by.ready,
                record {
                  granted = from_seven ∙ pass_on _ _ w ∙ must_passed _ 13 _ (le-leb (units n) (quota_of (view book) p.object) o);
                  row = row;
                  code = code;
                  most = h;
                  fits = o;
                },
              )

-- what its judging needs at each way out but the granted one
pub ruleset ways_out = (long_four, resize_five, resize_six, resize_seven, resize_thirteen)

-- ---- doing it

module _ (b area : List ℕ) (c d s n r : ℕ) (ready : Ready b area) (go : ToResize b area c d s n r) where
  low : r < row_count
  low = open_low b s r go.row

  pub can_resize : (code_of (view b) r ≡ segment_code) × (n ≤ max_length) × Sound (view b)
  can_resize = (go.code, go.most, book_sound b area ready.areas)

  -- b₁ and area₁ are what the resize leaves
  module _ (b₁ area₁ : List ℕ) (m : view b₁ ≡ lengthened r n (view b))
      (z : area₁ ≡ area_after (view b) (lengthened r n (view b)) r (resized n (bytes_of (view b) area r)) area) where
    -- the number is still the same
    pub resized_number : next_of (view b₁) ≤ last_number
    resized_number =
        let e = ap (λ (u : View). next_of u) (m ∙ lengthened_is r n (view b)) in
        omega (arith, e, ready.number)

    -- resized and moved on, the call is done
    pub resize_done : (b' : List ℕ) → length b' ≡ length b → view b' ≡ moved_on (view b₁) → Done b area c (resize d s n) (Ok 0) b' area₁
    resize_done b' long e =
        let i = (row_is (view b) s r go.row).1 in
        let x = book_sound b area ready.areas in
        done_granted b area c (resize d s n) ready b' long 0 [] (alter s (rewrite (resized n (bytes_of (view b) area r)))) area₁ go.granted
        (e ∙ ap moved_on m
        ∙ subst (λ (o : ℕ). moved_on (lengthened r n (view b)) ≡ enact_view (alter o (rewrite (resized n (bytes_of (view b) area r)))) (view b) area) i
        (sym (resized_view (view b) x r low go.code n area)))
        (z
        ∙ subst (λ (o : ℕ). area_after (view b) (lengthened r n (view b)) r (resized n (bytes_of (view b) area r)) area
        ≡ enact_area (alter o (rewrite (resized n (bytes_of (view b) area r)))) (view b) area) i
        (sym (resized_enacted (view b) x r low go.code n area)))
