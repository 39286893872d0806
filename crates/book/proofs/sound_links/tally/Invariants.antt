use mathlib.Core.Bool.{true}
use mathlib.Core.Path.{◌≡◌}
use Rattle.tables.specs.Layout.{view}
use Rattle.book.specs.Sound.{links_to}
use Rattle.book.specs.Test.{every, link_b, once_b}
use Rattle.book.specs.Tally.{Tallied}
use Rattle.book.proofs.sound_links.tally.Given as goal

abbrev pub invariant-loop-l : goal.invariant-loop-l
invariant-loop-l l = (every l.l (link_b (view l.b)) ≡ true) × (every l.l (once_b (view l.b) (links_to (view l.b))) ≡ true) × Tallied (view l.b) l.l l.counts l.charges
