-- Call 12: the verdict at each way out of its judging, and what it does.
use Rattle.std.specs.Prelude.{ℕ, ◌+◌, ◌*◌, ◌-◌, ◌≤◌, Bool, false, ◌&&◌, ◌≡◌, refl, List, [], leb, length, drop, Result, Ok, Err}
use Rattle.std.proofs.Math.Nat.{add-sub_cancel_left}
use Rattle.std.specs.Result.{IsErr, IsErrAnd}
use Rattle.std.proofs.Common.{arith, ap₂, subst, le-leb, ◌∙◌}
use Rattle.std.proofs.Math.Path.{sym, ap}
use Rattle.std.proofs.Math.ListN.{take}
use Rattle.std.specs.Borrow.{Bor}
use Rattle.rules.specs.Kernel as kernel
use Rattle.rules.specs.Kernel.{Verdict, grant, judge, read, keep, good_arguments, answer_of, value_of, output_of, block_size, max_block}
use Rattle.tables.specs.Layout.{view}
use Rattle.book.specs.Book.{block_at, row_of, world_of}
use Rattle.book.specs.Enact.{moved_on, enact_view, enact_area}
use Rattle.book.specs.Laws.First.{on_at}
use Rattle.book.specs.Laws.Tie.{row_is}
use Rattle.book.specs.Laws.Write.{part_low, read_part}
use Rattle.calls.specs.declared.Refusal.{Refusal}
use Rattle.calls.specs.declared.Refusal.TheVariants.{BadArgument}
use Rattle.book.specs.declared.find.Entry.{Entry}
use Rattle.calls.specs.Outcome.{verdict_on, Ready, ruled, Told, LeavesBy}
use Rattle.calls.specs.Begun.{Caller}
use Rattle.calls.specs.Lookup.{open_entry}
use Rattle.calls.specs.Part.{part_on, part_at}
use Rattle.calls.specs.Read.{ToRead, ReadJudged, PartAt, NoPart, place_in, begins_at, Shown}
use Rattle.calls.specs.Laws.Access.{segment_bytes}
use Rattle.calls.specs.Laws.Begun.{caller_four, caller_judged, placed_by_caller}
use Rattle.calls.specs.Laws.Part.{part_five, part_judged}
use Rattle.calls.specs.Laws.Leave.{told, told_on}
use Rattle.calls.specs.Laws.Prelude.{area_long, done_granted}

module _ (b area : List ℕ) (c t d s k f n : ℕ) (book : List ℕ) (lent : book ≡ b) (by : Caller book area c t) where
  -- no part of a block: 4
  pub read_four : (x : Refusal) → (x ≡ BadArgument) × ((leb k max_block && leb (f + n) block_size) ≡ false) → (r : Result ℕ Refusal) → IsErr r × IsErrAnd r (λ e. e ≡ x)
      → ReadJudged b area c d s k f n r
  unfolding good_arguments
  read_four x e r h =
      rw (sym lent) (told_on _ r h (subst (Told book area (verdict_on book area c (read d s k f n))) (sym e.0) (told (caller_four book area c t by (read d s k f n) e.1) by.ready)))

  module _ (low : k ≤ max_block) (one : f + n ≤ block_size) where
    judged : verdict_on book area c (read d s k f n)
        ≡ part_on book area c d s k f n false (grant 0 (take n (drop (block_size * k + f) ((world_of (view book) area).obj s).bytes)) keep)
    unfolding judge good_arguments
    judged = caller_judged book area c t by (read d s k f n) (ap₂ (λ (x y : Bool). x && y) (le-leb k max_block low) (le-leb (f + n) block_size one))

    -- no entry: 5
    pub read_five : (x : Refusal) → open_entry (view book) t d s ≡ Err x → (r : Result ℕ Refusal) → IsErr r × IsErrAnd r (λ e. e ≡ x) → ReadJudged b area c d s k f n r
    read_five x e r h = rw (sym lent) (told_on _ r h (part_five book area c t d s k f n by false one _ _ judged x e))

    -- one that is found: what 12 and 13 share decides
    pub read_judged : (p : Entry) → open_entry (view book) t d s ≡ Ok p → (x : Result ℕ Refusal)
        → x ≡ part_at (view book) t p.object k f n false → ReadJudged b area c d s k f n x
    read_judged p e x ex =
        rw (sym lent)
        (part_judged book area c t d s k f n by false one _ _ judged (ToRead book area c d s k f n)
        (λ q lies v.
        let r = lies.at_row in
        record {
          lies = lies;
          granted =
              v
              ∙ ap (λ (y : List ℕ). grant 0 (take n (drop (block_size * k + f) y)) keep) (segment_bytes book area s r lies.row lies.code)
              ∙ ap (λ (y : List ℕ). grant 0 y keep)
              (read_part (view book) (placed_by_caller book area c t by) r (row_is (view book) s r lies.row).0 lies.code k f area
              (area_long book area by.ready.areas) n lies.one lies.within
              ∙ ap (λ (o : ℕ). take n (drop o area)) (sym lies.place));
        })
        p e x ex)

-- what its judging needs at each way out
pub ruleset ways_out = (read_four, read_five, read_judged)

-- ---- as numbers

module _ (b area : List ℕ) (c d s k f n : ℕ) where
  pub located_off : {A : Type 0} (r : Refusal) (a : Result A Refusal) (b' : List ℕ) → Told b area (verdict_on b area c (read d s k f n)) r → LeavesBy b r a b'
      → NoPart b area c d s k f n b' r
  located_off r a b' t l = record { verdict = t.verdict; done = l.done area c (read d s k f n) t }

  module _ (ready : Ready b area) (b' : List ℕ) (long : length b' ≡ length b) (moved : view b' ≡ moved_on (view b)) where
    pub located_at : (p : ℕ) → ToRead b area c d s k f n p → PartAt b area c d s k f n b' p n
    unfolding enact_view enact_area
    located_at p go =
        let r = go.lies.at_row in
        record {
          granted = go.granted;
          place = go.lies.place ∙ sym (on_at (row_of (view b) s) r (λ q. block_size * block_at (view b) q k + f) 0 go.lies.row);
          count = refl;
          inside = omega (arith, part_low (view b) r k f n go.lies.one, go.lies.place, area_long b area ready.areas);
          left = (done_granted b area c (read d s k f n) ready b' long 0 (take n (drop p area)) keep area go.granted moved refl).left;
        }

-- ---- as the part itself

-- a part in the same memory as the data area
module _ (b : List ℕ) (area : Bor (List ℕ)) (c d s k f n : ℕ) (b' : List ℕ) (part : Bor (List ℕ)) (memory : part.ref_ptr.0 ≡ area.ref_ptr.0) where
  pub at_shown : (p m : ℕ) → PartAt b area.now c d s k f n b' p m → part.now ≡ take (p + m - p) (drop p area.now) → part.ref_ptr.1 ≡ area.ref_ptr.1 + p
      → Shown b area c d s k f n 0 0 part b'
  unfolding answer_of value_of output_of begins_at
  at_shown p m h e from =
      record {
        answer_is = sym (ap answer_of h.granted);
        value_is = sym (ap value_of h.granted);
        part_is = e ∙ ap (λ (q : ℕ). take q (drop p area.now)) (add-sub_cancel_left p m) ∙ sym (ap output_of h.granted);
        memory_is = memory;
        place_is =
            from
            ∙ ap (λ (q : ℕ). area.ref_ptr.1 + q) h.place
            ∙ sym (ap (λ (v : Verdict). area.ref_ptr.1 + begins_at v (place_in (view b) s k f)) h.granted);
        left = h.left;
      }

  pub off_shown : (r : Refusal) (m x : ℕ) → m ≡ kernel.number_of (ruled r) → x ≡ 0 → NoPart b area.now c d s k f n b' r → part.now ≡ [] → part.ref_ptr.1 ≡ area.ref_ptr.1 + 0
      → Shown b area c d s k f n m x part b'
  unfolding output_of begins_at
  off_shown r m x i j h e from =
      record {
        answer_is = i ∙ h.done.answer_is;
        value_is = j ∙ h.done.value_is;
        part_is = e ∙ sym (ap output_of h.verdict);
        memory_is = memory;
        place_is = from ∙ sym (ap (λ (v : Verdict). area.ref_ptr.1 + begins_at v (place_in (view b) s k f)) h.verdict);
        left = h.done.left;
      }
