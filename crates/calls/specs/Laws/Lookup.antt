-- Lookups: as the code makes them, what is found by them, and what the rules' tests of answer 5 are in the book.
use Rattle.std.specs.Prelude.{ℕ, ◌-◌, ◌/◌, ◌%◌, ◌^◌, Bool, true, false, ◌≡◌, List, leb, Option, Some, None, Result, Ok, Err}
use Rattle.std.specs.Option.{ok_or}
use Rattle.std.specs.Result.{result_and}
use Rattle.std.proofs.Common.{sym, subst, ◌∙◌}
use Rattle.std.proofs.Math.Bool.{cond}
use Rattle.std.proofs.Math.Path.{ap}
use Rattle.std.proofs.Math.Dec.{eqb}
use Rattle.labels.specs.Core.{may_read}
use Rattle.rules.specs.Kernel.{container_code, Kind, kind_code, Obj, Verdict, refuse, must, opens, forbids, fits, spare_of}
use Rattle.rules.proofs.Laws.Bools.{bool_cases}
use Rattle.tables.specs.Layout.{View, view}
use Rattle.book.specs.declared.find.Entry.{Entry}
use Rattle.book.specs.Book.{id_of, mask_of, label_of, row_of, world_of}
use Rattle.book.specs.Find.{container_row, entry_place}
use Rattle.book.specs.Sound.{Sound, Live}
use Rattle.book.specs.Units.{spare_at}
use Rattle.book.specs.Laws.First.{same_place, on_at, on_nothing, found_cases}
use Rattle.book.specs.Laws.Find.{kind_is, kind_row, container_found, opens_at, opens_none, entry_parts}
use Rattle.book.specs.Laws.Tie.{object_label, object_mask}
use Rattle.book.specs.Laws.Units.{spare_at_lem}
use Rattle.calls.specs.declared.Refusal.{Refusal}
use Rattle.calls.specs.declared.Refusal.TheVariants.{NoEntry}
use Rattle.calls.specs.Begun.{Caller}
use Rattle.calls.specs.Lookup.{open_container, open_entry}
use Rattle.calls.specs.Masks.{forbids_at}
use Rattle.calls.specs.Outcome.{Told, Ready}
use Rattle.calls.specs.Laws.Begun.{caller_label, sound_by_caller}
use Rattle.calls.specs.Laws.Leave.{told}
use Rattle.calls.specs.Laws.Ways.{same_value, same_reason, not_both, found_ok}
use Rattle.calls.specs.Laws.Prelude.{must_failed}

-- ---- a container

module _ (v : View) (t d : ℕ) where
  pub none_shut : container_row v d ≡ None → open_container v t d ≡ Err NoEntry
  unfolding open_container
  none_shut e = on_nothing (container_row v d) (λ c. cond (may_read (label_of v t) (label_of v c)) (Ok c) (Err NoEntry)) (Err NoEntry) e

  module _ (k : ℕ) (e : container_row v d ≡ Some k) where
    decided : open_container v t d ≡ cond (may_read (label_of v t) (label_of v k)) (Ok k) (Err NoEntry)
    unfolding open_container
    decided = on_at (container_row v d) k (λ c. cond (may_read (label_of v t) (label_of v c)) (Ok c) (Err NoEntry)) (Err NoEntry) e

    pub unreadable_shut : may_read (label_of v t) (label_of v k) ≡ false → open_container v t d ≡ Err NoEntry
    unreadable_shut f = decided ∙ ap (λ (x : Bool). cond x (Ok k) (Err NoEntry)) f

    pub readable_open : may_read (label_of v t) (label_of v k) ≡ true → open_container v t d ≡ Ok k
    readable_open f = decided ∙ ap (λ (x : Bool). cond x (Ok k) (Err NoEntry)) f

  -- by whether it is open: by what the row's container is, or shut
  open_cases : {C : Type 0} → ((k : ℕ) → container_row v d ≡ Some k → may_read (label_of v t) (label_of v k) ≡ true → C) → (open_container v t d ≡ Err NoEntry → C) → C
  open_cases {C} hit miss =
      found_cases (container_row v d)
      (λ k e. bool_cases {C = C} (may_read (label_of v t) (label_of v k)) (λ f. hit k e f) (λ f. miss (unreadable_shut k e f)))
      (λ e. miss (none_shut e))

  -- What is open is a container, and readable.
  pub open_is : (k : ℕ) → open_container v t d ≡ Ok k → (container_row v d ≡ Some k) × (may_read (label_of v t) (label_of v k) ≡ true)
  open_is k h =
      open_cases {C = (container_row v d ≡ Some k) × (may_read (label_of v t) (label_of v k) ≡ true)}
      (λ i e f. let z = same_value i k (sym (readable_open i e f) ∙ h) in (e ∙ ap Some z, subst (λ (j : ℕ). may_read (label_of v t) (label_of v j) ≡ true) z f))
      (λ e. absurd (not_both k NoEntry (sym h ∙ e)))

  -- What is shut is so by 5.
  pub shut_is : (f : Refusal) → open_container v t d ≡ Err f → f ≡ NoEntry
  shut_is f h =
      open_cases
      (λ k e g. absurd (not_both k f (sym (readable_open k e g) ∙ h)))
      (λ e. same_reason f NoEntry (sym h ∙ e))

-- ---- an entry

module _ (v : View) (t d o : ℕ) where
  pub shut_entry : (f : Refusal) → open_container v t d ≡ Err f → open_entry v t d o ≡ Err f
  unfolding open_entry
  shut_entry f e = ap (λ (x : Result ℕ Refusal). result_and x (ok_or (entry_place v d o) NoEntry)) e

  pub open_entry_lem : (k : ℕ) → open_container v t d ≡ Ok k → open_entry v t d o ≡ ok_or (entry_place v d o) NoEntry
  unfolding open_entry
  open_entry_lem k e = ap (λ (x : Result ℕ Refusal). result_and x (ok_or (entry_place v d o) NoEntry)) e

  pub none_entry : entry_place v d o ≡ None → open_entry v t d o ≡ Err NoEntry
  none_entry e =
      open_cases v t d (λ k g h. open_entry_lem k (readable_open v t d k g h) ∙ ap (λ (x : Option Entry). ok_or x NoEntry) e) (shut_entry NoEntry)

  module _ (p : Entry) (e : entry_place v d o ≡ Some p) where
    pub unreadable_entry : may_read (label_of v t) (label_of v p.container) ≡ false → open_entry v t d o ≡ Err NoEntry
    unreadable_entry f = shut_entry NoEntry (unreadable_shut v t d p.container (entry_parts v d o p.container p.object p.link e).0 f)

    pub readable_entry : may_read (label_of v t) (label_of v p.container) ≡ true → open_entry v t d o ≡ Ok p
    readable_entry f =
        open_entry_lem p.container (readable_open v t d p.container (entry_parts v d o p.container p.object p.link e).0 f)
        ∙ ap (λ (x : Option Entry). ok_or x NoEntry) e

  -- What is found is an entry of a container that is open.
  pub entry_is : (p : Entry) → open_entry v t d o ≡ Ok p → (entry_place v d o ≡ Some p) × (open_container v t d ≡ Ok p.container)
  entry_is p h =
      open_cases v t d {C = (entry_place v d o ≡ Some p) × (open_container v t d ≡ Ok p.container)}
      (λ i f g. let readable = readable_open v t d i f g in
      let e = found_ok (entry_place v d o) NoEntry p (sym (open_entry_lem i readable) ∙ h) in
      (e, readable ∙ ap Ok (same_place i p.container (sym f ∙ (entry_parts v d o p.container p.object p.link e).0))))
      (λ f. absurd (not_both p NoEntry (sym h ∙ shut_entry NoEntry f)))

-- what looking up an entry needs at each way out
pub ruleset ways_out = (none_entry, unreadable_entry, readable_entry)

-- ---- against the world

-- what the object o at the live row r has to spare is what the row has
pub fits_at : (b area : List ℕ) (o r : ℕ) → Sound (view b) → Live (view b) r → id_of (view b) r ≡ o → (n : ℕ)
    → fits (world_of (view b) area) o n ≡ leb n (spare_at (view b) r)
unfolding fits
fits_at b area o r s a i n =
    ap (leb n) (ap (spare_of (world_of (view b) area)) (sym i) ∙ spare_at_lem (view b) s r a area)

-- the mask of the container is its row's
pub mask_at : (b area : List ℕ) (d i : ℕ) → container_row (view b) d ≡ Some i → ((world_of (view b) area).obj d).mask ≡ mask_of (view b) i
mask_at b area d i e = ap (λ (o : Obj). o.mask) (container_found (view b) area d i e).1 ∙ object_mask (view b) area i (kind_row container_code (view b) d i e).2

-- refused by 5
pub five_told : {b area : List ℕ} {v : Verdict} → Ready b area → (f : Refusal) → f ≡ NoEntry → v ≡ refuse 5 → Told b area v f
five_told {b} {area} {v} ready f e h = subst (λ (g : Refusal). Told b area v g) (sym e) (told h ready)

module _ (b area : List ℕ) (c t d : ℕ) (by : Caller b area c t) where
  read_by : (k : ℕ) → container_row (view b) d ≡ Some k → opens (world_of (view b) area) ((world_of (view b) area).obj c) d ≡ may_read (label_of (view b) t) (label_of (view b) k)
  read_by k e =
      opens_at (view b) area ((world_of (view b) area).obj c) d k e ∙ ap (λ x. may_read x (label_of (view b) k)) (caller_label b area c t by)

  -- nothing found is not open
  pub not_open : (f : Refusal) → open_container (view b) t d ≡ Err f → opens (world_of (view b) area) ((world_of (view b) area).obj c) d ≡ false
  not_open f h =
      found_cases (container_row (view b) d)
      (λ k e. bool_cases (may_read (label_of (view b) t) (label_of (view b) k))
      (λ g. absurd (not_both k f (sym (readable_open (view b) t d k e g) ∙ h)))
      (λ g. read_by k e ∙ g))
      (opens_none (view b) area ((world_of (view b) area).obj c) d)

  -- and the refusal is right where the rules ask for the container first
  pub shut_told : (v rest : Verdict) → v ≡ must (opens (world_of (view b) area) ((world_of (view b) area).obj c) d) 5 rest → (f : Refusal)
      → open_container (view b) t d ≡ Err f → Told b area v f
  shut_told v rest e f h = five_told by.ready f (shut_is (view b) t d f h) (e ∙ must_failed _ 5 rest (not_open f h))

  module _ (k : ℕ) (e : open_container (view b) t d ≡ Ok k) where
    -- what is found is open
    pub is_open : opens (world_of (view b) area) ((world_of (view b) area).obj c) d ≡ true
    is_open = let (i, f) = open_is (view b) t d k e in read_by k i ∙ f

    pub holder_row : container_row (view b) d ≡ Some k
    holder_row = (open_is (view b) t d k e).0

    pub holder_found : row_of (view b) d ≡ Some k
    holder_found = (kind_is container_code (view b) d k holder_row).0

    pub holder_there : Live (view b) k
    holder_there = (kind_row container_code (view b) d k holder_row).0

    pub holder_named : id_of (view b) k ≡ d
    holder_named = (kind_row container_code (view b) d k holder_row).1

    pub holder_label : ((world_of (view b) area).obj d).label ≡ label_of (view b) k
    holder_label = ap (λ (x : Obj). x.label) (container_found (view b) area d k holder_row).1 ∙ object_label (view b) area k

    -- its mask forbids what the row's does
    pub holder_forbids : (x : Kind) → forbids ((world_of (view b) area).obj d).mask x ≡ forbids_at (view b) k (kind_code x)
    unfolding forbids
    holder_forbids x = ap (λ (m : ℕ). eqb (m / 2 ^ (kind_code x - 1) % 2) 1) (mask_at b area d k holder_row)

    pub holder_fits : (n : ℕ) → fits (world_of (view b) area) d n ≡ leb n (spare_at (view b) k)
    holder_fits = fits_at b area d k (sound_by_caller b area c t by) holder_there holder_named
