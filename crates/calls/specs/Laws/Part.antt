-- Calls 12 and 13: the place of a part, and the rules' tests 5 to 11.
use Rattle.std.specs.Prelude.{ℕ, ◌+◌, ◌*◌, ◌≤◌, Bool, ◌≡◌, refl, List, leb, Result, Ok, Err}
use Rattle.std.proofs.Common.{sym, subst, ◌∙◌, leb-true, eqb-true}
use Rattle.std.proofs.Math.Path.{ap}
use Rattle.rules.specs.Kernel.{segment_code, Verdict, must, block_size}
use Rattle.tables.specs.Layout.{view}
use Rattle.book.specs.Book.{code_of, len_of}
use Rattle.calls.specs.declared.Refusal.{Refusal}
use Rattle.calls.specs.declared.Refusal.TheVariants.{WrongKind, BeyondLength}
use Rattle.book.specs.declared.find.Entry.{Entry}
use Rattle.calls.specs.Outcome.{Means, Told}
use Rattle.calls.specs.Begun.{Caller}
use Rattle.calls.specs.Lookup.{open_entry}
use Rattle.calls.specs.Part.{part_on, Lies, part_at}
use Rattle.calls.specs.Laws.Access.{access_five, access_at, segment_length}
use Rattle.calls.specs.Laws.Entry.{object_found}
use Rattle.calls.specs.Laws.Tested.{means_tested, means_passing}

-- ---- the verdict

-- It is found from a verdict that comes to `rest` where the part lies in the segment, that what is answered of the rows means it.
module _ (b area : List ℕ) (c t d s k f n : ℕ) (by : Caller b area c t) (writes : Bool) (one : f + n ≤ block_size) (v rest : Verdict) (on : v ≡ part_on b area c d s k f n writes rest) where
  -- no entry: 5
  pub part_five : (f : Refusal) → open_entry (view b) t d s ≡ Err f → Told b area v f
  part_five = access_five b area c t d s by writes _ v on

  pub part_judged : (go : ℕ → Type 0) → ((p : ℕ) → Lies b s k f n p → v ≡ rest → go p)
      → (p : Entry) → open_entry (view b) t d s ≡ Ok p → (x : Result ℕ Refusal)
      → x ≡ part_at (view b) t p.object k f n writes → Means b area v go x
  part_judged go granted p e x ex =
      let r = p.object in
      let row = object_found b area c t d s by p e in
      subst (Means b area v go) (sym ex)
      (means_tested b area by.ready go v _ WrongKind 6 _ _ refl (on ∙ access_at b area c t d s by writes _ p e)
      (λ g6 e6. let code = eqb-true (code_of (view b) r) segment_code g6 in
      means_passing b area by.ready go v _ _ _ e6
      (λ e7. means_tested b area by.ready go v _ BeyondLength 11 _ _ refl (e7 ∙ ap (λ (m : ℕ). must (leb (block_size * k + f + n) m) 11 rest) (segment_length b area s r row code))
      (λ g11 e11. (by.ready, granted _ (record { at_row = r; row = row; code = code; place = refl; within = leb-true (block_size * k + f + n) (len_of (view b) r) g11; one = one }) e11)))))
