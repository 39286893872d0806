-- What Start leaves (RULES 7.3) has the terms that W5 asks of a start (RULES 12.2).
use Rattle.std.specs.Prelude.{ℕ, ◌+◌, ◌<◌, ◌≡◌, eqb, replicate}
use Rattle.std.proofs.Common.{arith, sym}
use Rattle.std.proofs.Math.Bool.{true}
use Rattle.std.proofs.Math.Path.{refl, subst}
use borrow.Author.Tests.{eqb-true}
use Rattle.labels.specs.Core.{at, star, plain, level1}
use Rattle.labels.specs.Core.Formed.{plain_at}
use Rattle.rules.specs.Kernel.{kind_code, is_live, is_container, Obj, nothing, container_of, thread_of, start, text_size, root_quota}
use Rattle.rules.proofs.Laws.Bools.{and_l, not_both}
use Rattle.rules.proofs.Laws.Kinds.{nothing_dead}
use Rattle.rules.proofs.Laws.Put.{put_same, put_at}
use Rattle.tainted.specs.Tainted.{untainted_container, UntaintedStart}
use Rattle.tainted.proofs.Laws.Rooms.{le_untainted, room_of}

module _ (f v : ℕ) where
  no_star : (o : ℕ) → is_live ((start f).obj o).kind ≡ true → at ((start f).obj o).label v ≡ star → ⊥
  unfolding start container_of thread_of
  no_star o =
      put_at (λ x. is_live x.kind ≡ true → at x.label v ≡ star → ⊥) f _ _ o (λ q i e. omega (arith, plain_at level1 v))
      (λ q. put_at (λ x. is_live x.kind ≡ true → at x.label v ≡ star → ⊥) (f + 1) _ _ o (λ r i e. omega (arith, plain_at level1 v))
      (λ r i. not_both (is_live nothing.kind) i nothing_dead))

  -- the only container is the root
  root_room : (d : ℕ) → d ≡ f → untainted_container v ((start f).obj d) ≡ true
  unfolding start
  root_room d e = subst (λ (x : Obj). untainted_container v x ≡ true) (sym (put_same f _ _ d e)) root
    where
      root : untainted_container v (container_of (plain level1) (replicate text_size 0) 0 root_quota) ≡ true
      root =
          unfold container_of is_container kind_code in
          (room_of v (container_of (plain level1) (replicate text_size 0) 0 root_quota) refl
          (le_untainted v (container_of (plain level1) (replicate text_size 0) 0 root_quota) (omega (arith, plain_at level1 v))))

  linked_root : (d o : ℕ) → (start f).linked d o ≡ true → d ≡ f
  unfolding start
  linked_root d o h = eqb-true d f (and_l (eqb d f) (eqb o (f + 1)) h)

  pub start_untainted : v < (start f).next → UntaintedStart v (start f)
  start_untainted l = record { below_next = l; no_star = no_star; only_in_such = λ d o h k. root_room d (linked_root d o h) }
