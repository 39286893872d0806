-- Whatever a call leaves of good areas, what no live segment holds stays zero.
use Rattle.std.specs.Prelude.{ℕ, true, ◌≡◌, refl, List, leb}
use Rattle.std.proofs.Common.{sym, subst}
use Rattle.rules.specs.Kernel.{Call, number_of, Verdict, refused, grant, call}
use Rattle.rules.proofs.Laws.Bools.{bool_cases}
use Rattle.rules.proofs.Laws.Grants.{grants_fair}
use Rattle.rules.proofs.Laws.Must.{passed}
use Rattle.tables.specs.Layout.{View, view}
use Rattle.book.specs.Book.{world_of}
use Rattle.book.specs.Test.{areas_b}
use Rattle.book.specs.Laws.Shapes.{view_shape}
use Rattle.book.specs.Laws.Clear.{Wiped, moved_wiped, every_wiped}
use Rattle.calls.specs.Outcome.{verdict_on, book_left, area_left, Left}
use Rattle.calls.specs.Laws.Prelude.{book_sound, is_sound}
use Rattle.calls.specs.Theorems.Kept.{verdict_is}

module _ (b area : List ℕ) (good : areas_b b area ≡ true) (w : Wiped (view b) area) (c : ℕ) (x : Call) where
  wiped_by : (v : Verdict) → call (world_of (view b) area) c x ≡ v → Wiped (book_left v (view b) area) (area_left v (view b) area)
  unfolding book_left area_left
  wiped_by (refused r) e = bool_cases (leb (number_of r) 2) (λ t. rw t w) (λ t. rw t (moved_wiped (view b) area w))
  wiped_by (grant v o h) e =
      let p = passed (world_of (view b) area) c x v o h e in
      every_wiped (view b) area (book_sound b area good) (view_shape b) w h
      (grants_fair (world_of (view b) area) (is_sound b area good) c p.caller x p.arguments v o h p.judged)

  pub stays_wiped : (b' area' : List ℕ) → Left b area c x b' area' → Wiped (view b') area'
  stays_wiped b' area' l =
      subst (λ (u : View). Wiped u area') (sym (l.book_left_lem good))
      (subst (Wiped (book_left (verdict_on b area c x) (view b) area)) (sym l.area_left_lem)
      (subst (λ (v : Verdict). Wiped (book_left v (view b) area) (area_left v (view b) area)) (sym (verdict_is b area good c x))
      (wiped_by (call (world_of (view b) area) c x) refl)))
