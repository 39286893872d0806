use Prim.Native.Nat.{ℕ}
use native.Mathlib.Omega.{arith}
use mathlib.Core.Path.{refl, sym, ◌∙◌, subst}
use Rattle.tables.specs.Layout.{view}
use Rattle.book.specs.Sound.{links_to}
use Rattle.book.specs.Test.{every, link_b, once_b}
use Rattle.book.specs.Tally.{Tallied}
use Rattle.book.specs.Laws.Tests.{no_true, every_more}
use Rattle.book.specs.Laws.Tally.{tallied_none}
use Rattle.book.proofs.Laws.Once.{tally_astray, tally_twice, tally_all}
use Rattle.book.proofs.sound_links.tally.Goals as goal

pub loop-l-init : goal.loop-l-init
unfolding every
loop-l-init c =
    (refl, refl, tallied_none (view c.args.b.now) c.args.counts.now c.args.charges.now c.requires.1 c.requires.2)

pub returns-then-not-link_ok : goal.returns-then-not-link_ok
returns-then-not-link_ok c = (
  sym (tally_astray (view c.args.b.now) c.loop-l.l c.loop-l-test.true
      (sym c.link_ok.ensures ∙ c.if-not-link_ok.true)),
  λ e. absurd (no_true e),
)

pub returns-then-not-once : goal.returns-then-not-once
returns-then-not-once c = (
  sym (tally_twice (view c.args.b.now) c.loop-l.l
      c.loop-l-test.true (sym c.once.ensures ∙ c.if-not-once.true)),
  λ e. absurd (no_true e),
)

pub loop-l-preserved : goal.loop-l-preserved
loop-l-preserved c =
    let v = view c.args.b.now in
    let turn = c.loop-l in (
      every_more turn.l (link_b v) turn.invariant.0
          (sym c.link_ok.ensures ∙ c.if-not-link_ok.false),
      every_more
          turn.l (once_b v (links_to v)) turn.invariant.1 (sym c.once.ensures ∙ c.if-not-once.false),
      c.add_link.ensures,
    )

pub returns : goal.returns
returns c =
    let turn = c.loop-l in
    let v = view c.args.b.now in
    (sym (tally_all v turn.l (omega arith) turn.invariant.0 turn.invariant.1), λ z. subst (λ (x : ℕ). Tallied v x turn.counts turn.charges) (omega arith) turn.invariant.2)
