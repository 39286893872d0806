-- Calls 12, 13 and 14: the rules' tests 5 to 7, by the rows of the entry, and what is known of the segment.
use Rattle.std.specs.Prelude.{ℕ, ◌<◌, Bool, ◌≡◌, List, eqb, length, Ok, Err, Some}
use Rattle.std.proofs.Math.Path.{refl}
use Rattle.std.proofs.Common.{ap, ◌∙◌}
use Rattle.rules.specs.Kernel.{segment_code, Obj, Verdict, must, must_hold, entry, is_segment, access}
use Rattle.tables.specs.Layout.{view, row_count}
use Rattle.book.specs.Book.{code_of, quota_of, len_of, label_of, bytes_of, row_of, world_of}
use Rattle.book.specs.Laws.Tie.{row_is, obj_found, object_quota, object_bytes, bytes_length}
use Rattle.calls.specs.Access.{asked, access_on}
use Rattle.calls.specs.declared.Refusal.{Refusal}
use Rattle.book.specs.declared.find.Entry.{Entry}
use Rattle.calls.specs.Outcome.{Told}
use Rattle.calls.specs.Begun.{Caller}
use Rattle.calls.specs.Lookup.{open_entry}
use Rattle.calls.specs.Laws.Begun.{caller_label}
use Rattle.calls.specs.Laws.Entry.{no_entry_told, is_entry, is_segment_lem, its_label}
use Rattle.calls.specs.Laws.Prelude.{must_passed}

-- ---- the tests

module _ (b area : List ℕ) (c t d s : ℕ) (by : Caller b area c t) (writes : Bool) (rest : Verdict) where
  tests : access_on b area c d s writes rest
      ≡ must (entry (world_of (view b) area) ((world_of (view b) area).obj c) d s) 5
      (must (is_segment ((world_of (view b) area).obj s).kind) 6
      (must_hold (asked writes ((world_of (view b) area).obj c).label ((world_of (view b) area).obj s).label) rest))
  unfolding access
  tests = refl

  -- no entry: 5
  pub access_five : (v : Verdict) → v ≡ access_on b area c d s writes rest → (f : Refusal) → open_entry (view b) t d s ≡ Err f → Told b area v f
  access_five v e = no_entry_told b area c t d s by v _ (e ∙ tests)

  -- one that is found: the tests 6 and 7, of the rows
  pub access_at : (p : Entry) → open_entry (view b) t d s ≡ Ok p
      → access_on b area c d s writes rest
      ≡ must (eqb (code_of (view b) p.object) segment_code) 6 (must_hold (asked writes (label_of (view b) t) (label_of (view b) p.object)) rest)
  access_at p e =
      tests
      ∙ must_passed _ 5 _ (is_entry b area c t d s by p e)
      ∙ (λ i. must (is_segment_lem b area c t d s by p e i) 6 (must_hold (asked writes (caller_label b area c t by i) (its_label b area c t d s by p e i)) rest))

-- ---- the segment that was found

pub open_low : (b : List ℕ) (s r : ℕ) → row_of (view b) s ≡ Some r → r < row_count
open_low b s r e = (row_is (view b) s r e).0.low

module _ (b area : List ℕ) (s r : ℕ) (row : row_of (view b) s ≡ Some r) where
  pub segment_quota : ((world_of (view b) area).obj s).quota ≡ quota_of (view b) r
  segment_quota = ap (λ (x : Obj). x.quota) (obj_found (view b) area s r row) ∙ object_quota (view b) area r

  pub segment_bytes : code_of (view b) r ≡ segment_code → ((world_of (view b) area).obj s).bytes ≡ bytes_of (view b) area r
  segment_bytes e = ap (λ (x : Obj). x.bytes) (obj_found (view b) area s r row) ∙ object_bytes (view b) area r e

  pub segment_length : code_of (view b) r ≡ segment_code → length ((world_of (view b) area).obj s).bytes ≡ len_of (view b) r
  segment_length e = ap length (segment_bytes e) ∙ bytes_length (view b) area r
