use mir.Facts.{to_z-of_z}
use Rattle.std.proofs.Common.{ap, subst, ◌∙◌, ◌<◌, ◌≤◌}
use Rattle.std.specs.Prelude.{Ok}
use Rattle.rules.specs.Kernel.{max_move}
use Rattle.calls.specs.declared.amount.Amount.TheVariants.{In, Out}
use Rattle.calls.specs.Laws.Amount.{too_much, goes_in, goes_out}
use Rattle.calls.proofs.amount.AmountTryFromI64.try_from.Goals as goal

pub returns-then-m-gt-MAX_MOVE : goal.returns-then-m-gt-MAX_MOVE
returns-then-m-gt-MAX_MOVE c =
    let m = rw (to_z-of_z c.ranges.n) at c.unsigned_abs-m.ensures.value in
    too_much c.args.n (subst (λ k. max_move < k) m c.if-m-gt-MAX_MOVE.true)

pub returns-then-n-lt0 : goal.returns-then-n-lt0
returns-then-n-lt0 c =
    let e = to_z-of_z c.ranges.n in
    let m = rw e at c.unsigned_abs-m.ensures.value in
    ap (λ k. Ok (Out k)) m ∙ goes_out c.args.n (subst (λ k. k ≤ max_move) m c.if-m-gt-MAX_MOVE.false) (rw e at c.if-n-lt0.true)

pub returns-else-n-lt0 : goal.returns-else-n-lt0
returns-else-n-lt0 c =
    let e = to_z-of_z c.ranges.n in
    let m = rw e at c.unsigned_abs-m.ensures.value in
    ap (λ k. Ok (In k)) m ∙ goes_in c.args.n (subst (λ k. k ≤ max_move) m c.if-m-gt-MAX_MOVE.false) (rw e at c.if-n-lt0.false)
