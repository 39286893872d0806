-- Call 13: the verdict at each way out of its judging, and what it does.
use Rattle.std.specs.Prelude.{ℕ, ◌+◌, ◌*◌, ◌≤◌, Bool, true, false, ◌&&◌, ◌≡◌, refl, List, [], eqb, leb, length, Result, Ok, Err}
use Rattle.std.specs.Result.{IsErr, IsErrAnd}
use Rattle.std.proofs.Common.{arith, sym, ap, ap₂, subst, le-leb, ◌∙◌}
use Rattle.std.proofs.lemmas.Bool.{false≢true}
use Rattle.std.proofs.lemmas.List.Edits.{sets}
use borrow.Author.Tests.{eq-eqb, ne_eqb}
use Rattle.rules.specs.Kernel.{grant, judge, write, alter, rewrite, overwrite, good_arguments, block_size, max_block}
use Rattle.tables.specs.Layout.{view}
use Rattle.book.specs.Book.{len_of, block_at, bytes_of, world_of}
use Rattle.book.specs.Enact.{area_size, moved_on, enact_view, enact_area}
use Rattle.book.specs.Laws.Shapes.{view_shape}
use Rattle.book.specs.Laws.Tie.{row_is}
use Rattle.book.specs.Laws.WorldSound.{placed}
use Rattle.book.specs.Laws.Write.{part_low, write_view, write_enacted}
use Rattle.calls.specs.declared.Refusal.{Refusal}
use Rattle.calls.specs.declared.Refusal.TheVariants.{BadArgument}
use Rattle.book.specs.declared.find.Entry.{Entry}
use Rattle.calls.specs.Outcome.{verdict_on, Ready, Told, Done}
use Rattle.calls.specs.Begun.{Caller}
use Rattle.calls.specs.Lookup.{open_entry}
use Rattle.calls.specs.Part.{part_on, part_at}
use Rattle.calls.specs.Write.{ToWrite, WriteJudged}
use Rattle.calls.specs.Laws.Access.{segment_bytes}
use Rattle.calls.specs.Laws.Begun.{caller_four, caller_judged}
use Rattle.calls.specs.Laws.Part.{part_five, part_judged}
use Rattle.calls.specs.Laws.Leave.{told, told_on}
use Rattle.calls.specs.Laws.Prelude.{book_sound, area_long, done_granted}

-- ---- three tests of which the first two are made as one

bad_more : (x y z : Bool) → (x && y) ≡ false → (x && (y && z)) ≡ false
bad_more true false z e = refl
bad_more true true z e = absurd (false≢true (sym e))
bad_more false y z e = refl

module _ (b area : List ℕ) (c t d s k f n : ℕ) (bytes : List ℕ) (book : List ℕ) (lent : book ≡ b) (by : Caller book area c t) where
  -- no part of a block: 4
  pub write_four : (x : Refusal) → (x ≡ BadArgument) × ((leb k max_block && leb (f + n) block_size) ≡ false) → (r : Result ℕ Refusal) → IsErr r × IsErrAnd r (λ e. e ≡ x)
      → WriteJudged b area c d s k f n bytes r
  unfolding good_arguments
  write_four x e r h =
      rw (sym lent)
      (told_on _ r h (subst (Told book area (verdict_on book area c (write d s k f n bytes))) (sym e.0)
      (told (caller_four book area c t by (write d s k f n bytes) (bad_more (leb k max_block) (leb (f + n) block_size) (eqb (length bytes) n) e.1)) by.ready)))

  module _ (low : k ≤ max_block) (one : f + n ≤ block_size) where
    -- two of the three tests are passed
    rest : (leb k max_block && (leb (f + n) block_size && eqb (length bytes) n)) ≡ eqb (length bytes) n
    rest = ap₂ (λ (x y : Bool). x && (y && eqb (length bytes) n)) (le-leb k max_block low) (le-leb (f + n) block_size one)

    -- not exactly count bytes: 4
    pub bytes_four : (length bytes ≡ n → ⊥) → Told b area (verdict_on b area c (write d s k f n bytes)) BadArgument
    unfolding good_arguments
    bytes_four h = rw (sym lent) (told (caller_four book area c t by (write d s k f n bytes) (rest ∙ ne_eqb (length bytes) n h)) by.ready)

    module _ (long : length bytes ≡ n) where
      judged : verdict_on book area c (write d s k f n bytes)
          ≡ part_on book area c d s k f n true (grant 0 [] (alter s (rewrite (overwrite (block_size * k + f) bytes ((world_of (view book) area).obj s).bytes))))
      unfolding judge good_arguments
      judged = caller_judged book area c t by (write d s k f n bytes) (rest ∙ eq-eqb (length bytes) n long)

      -- no entry: 5
      pub write_five : (x : Refusal) → open_entry (view book) t d s ≡ Err x → (r : Result ℕ Refusal) → IsErr r × IsErrAnd r (λ e. e ≡ x)
          → WriteJudged b area c d s k f n bytes r
      write_five x e r h = rw (sym lent) (told_on _ r h (part_five book area c t d s k f n by true one _ _ judged x e))

      -- one that is found: what 12 and 13 share decides
      pub write_judged : (p : Entry) → open_entry (view book) t d s ≡ Ok p → (x : Result ℕ Refusal)
          → x ≡ part_at (view book) t p.object k f n true → WriteJudged b area c d s k f n bytes x
      write_judged p e x ex =
          rw (sym lent)
          (part_judged book area c t d s k f n by true one _ _ judged (ToWrite book area c d s k f n bytes)
          (λ q lies v.
          record {
            lies = lies;
            granted =
                v
                ∙ ap (λ (y : List ℕ). grant 0 [] (alter s (rewrite (overwrite (block_size * k + f) bytes y)))) (segment_bytes book area s lies.at_row lies.row lies.code);
            long = long;
          })
          p e x ex)

-- what its judging needs at each way out
pub ruleset ways_out = (write_four, bytes_four, write_five, write_judged)

-- ---- doing it

module _ (b area : List ℕ) (c d s k f n : ℕ) (bytes : List ℕ) (p : ℕ) (ready : Ready b area) (go : ToWrite b area c d s k f n bytes p) where
  long : length area ≡ area_size
  long = area_long b area ready.areas

  -- the bytes lie in the data area
  pub can_write : p + length bytes ≤ length area
  can_write = omega (arith, part_low (view b) go.lies.at_row k f n go.lies.one, go.lies.place, go.long, long)

  one : f + length bytes ≤ block_size
  one = omega (arith, go.lies.one, go.long)

  within : block_size * k + f + length bytes ≤ len_of (view b) go.lies.at_row
  within = omega (arith, go.lies.within, go.long)

  -- written and moved on, the call is done
  pub write_done : (area₁ : List ℕ) → area₁ ≡ sets area p bytes → (b' : List ℕ) → length b' ≡ length b → view b' ≡ moved_on (view b)
      → Done b area c (write d s k f n bytes) (Ok 0) b' area₁
  write_done area₁ z b' same e =
      let r = go.lies.at_row in
      let h = row_is (view b) s r go.lies.row in
      let v = placed (view b) (book_sound b area ready.areas) in
      done_granted b area c (write d s k f n bytes) ready b' same 0 [] (alter s (rewrite (overwrite (block_size * k + f) bytes (bytes_of (view b) area r)))) area₁ go.granted
      (e
      ∙ subst (λ (o : ℕ). moved_on (view b) ≡ enact_view (alter o (rewrite (overwrite (block_size * k + f) bytes (bytes_of (view b) area r)))) (view b) area) h.1
      (sym (write_view (view b) v r h.0 go.lies.code k f area bytes long one within (view_shape b))))
      (z ∙ ap (λ (q : ℕ). sets area q bytes) go.lies.place
      ∙ subst (λ (o : ℕ). sets area (block_size * block_at (view b) r k + f) bytes ≡ enact_area (alter o (rewrite (overwrite (block_size * k + f) bytes (bytes_of (view b) area r)))) (view b) area) h.1
      (sym (write_enacted (view b) v r h.0 go.lies.code k f area bytes long one within (view_shape b))))
