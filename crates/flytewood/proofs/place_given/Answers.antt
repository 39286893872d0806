use borrow.Author.Tests.{eq-eqb, ne_eqb}
use Rattle.flytewood.proofs.place_given.Goals as goal

pub returns-then-count-eq0 : goal.returns-then-count-eq0
returns-then-count-eq0 c = rw (eq-eqb _ _ c.if-count-eq0.true)

pub returns : goal.returns
returns c = rw (ne_eqb _ _ c.if-count-eq0.false)
