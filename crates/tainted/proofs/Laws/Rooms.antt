-- Untainted objects and rooms, by their level in v. A room is an untainted container.
use Rattle.std.specs.Prelude.{ℕ, ◌≤◌, ◌<◌, true, false, ◌≡◌}
use borrow.Author.Tests.{leb-true, le-leb, leb-false, lt-leb}
use Rattle.labels.specs.Core.{at, level1}
use Rattle.rules.specs.Kernel.{is_container, Obj}
use Rattle.rules.proofs.Laws.Bools.{and_l, and_r, and_i, not_both, not_i}
use Rattle.tainted.specs.Tainted.{untainted, untainted_container}

module _ (v : ℕ) (x : Obj) where
  pub untainted_le : untainted v x ≡ true → at x.label v ≤ level1
  unfolding untainted
  untainted_le h = leb-true (at x.label v) level1 h

  pub le_untainted : at x.label v ≤ level1 → untainted v x ≡ true
  unfolding untainted
  le_untainted h = le-leb (at x.label v) level1 h

  pub tainted_gt : untainted v x ≡ false → level1 < at x.label v
  unfolding untainted
  tainted_gt h = leb-false (at x.label v) level1 h

  pub gt_tainted : level1 < at x.label v → untainted v x ≡ false
  unfolding untainted
  gt_tainted h = lt-leb (at x.label v) level1 h

  pub room_container : untainted_container v x ≡ true → is_container x.kind ≡ true
  unfolding untainted_container
  room_container h = and_l (is_container x.kind) (untainted v x) h

  pub room_untainted : untainted_container v x ≡ true → untainted v x ≡ true
  unfolding untainted_container
  room_untainted h = and_r (is_container x.kind) (untainted v x) h

  pub room_of : is_container x.kind ≡ true → untainted v x ≡ true → untainted_container v x ≡ true
  unfolding untainted_container
  room_of h k = and_i (is_container x.kind) (untainted v x) h k

  pub no_container_no_room : is_container x.kind ≡ false → untainted_container v x ≡ false
  unfolding untainted_container
  no_container_no_room h = rw h

  pub tainted_no_room : untainted v x ≡ false → untainted_container v x ≡ false
  tainted_no_room h = not_i (untainted_container v x) (λ q. not_both (untainted v x) (room_untainted q) h)
