use native.Mathlib.Omega.{arith}
use mathlib.Core.Path.{sym, ◌∙◌}
use borrow.Author.Tests.{eq-eqb}
use Rattle.book.specs.Test.{block_b}
use Rattle.book.specs.Laws.Tests.{no_true}
use Rattle.book.proofs.Laws.Seen.{seen_free, seen_more, block_new, block_twice}
use Rattle.book.proofs.sound_blocks.block_ok.Goals as goal

pub returns-then-get-eq0 : goal.returns-then-get-eq0
unfolding block_b
returns-then-get-eq0 c =
    let free = sym c.get.ensures ∙ c.if-get-eq0.true in
    (rw (eq-eqb _ _ free), λ e. seen_free _ _ _ c.requires.3 free)

pub returns-then-seen-n : goal.returns-then-seen-n
returns-then-seen-n c =
    let (few, offsets, below, seen) = c.requires in
    let (number, small) = c.number-n.ensures in (
      sym (block_twice _ _ _ seen _ number small (omega arith) (λ z. c.if-get-eq0.false (c.get.ensures ∙ z))
          (sym c.owned.ensures ∙ c.if-not-owned.false) below c.if-seen-n.true),
      λ e. absurd (no_true e),
    )

pub returns : goal.returns
returns c =
    let (number, small) = c.number-n.ensures in (
      sym (block_new _ _ _ c.requires.3 _ number small (sym c.owned.ensures ∙ c.if-not-owned.false) c.if-seen-n.false),
      λ e. seen_more _ _ _ c.requires.3 _ number small (λ z. c.if-get-eq0.false (c.get.ensures ∙ z)),
    )
