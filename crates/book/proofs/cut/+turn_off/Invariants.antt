use Prim.Native.Nat.{ℕ, ◌+◌, ◌-◌, ◌≤◌}
use mathlib.Core.Path.{◌≡◌}
use mathlib.Core.List.{List}
use lib.ListN.{length}
use Rattle.tables.specs.Layout.{view, size, link_count, link_from_t, put_t}
use Rattle.book.specs.Cut.{Linked}
use Rattle.book.specs.Laws.CutSteps.{live_links, Sofar}
use Rattle.book.proofs.cut.+turn_off.Given as goal

abbrev pub invariant-loop-k : goal.invariant-loop-k
invariant-loop-k l =
    (length l.b ≡ size) × (l.k ≤ link_count) × (l.mark ≡ l.o + 1) × ((e : List ℕ) → Linked e l.l → view l.initial.b ≡ put_t link_from_t l.l 0 (view e) → Sofar (view e) l.l l.k (view l.b))

abbrev pub decreases-loop-k : goal.decreases-loop-k
decreases-loop-k l = link_count - l.k

abbrev pub decreases-turn_off : goal.decreases-turn_off
decreases-turn_off l = live_links (view l.b.now)
