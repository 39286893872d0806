use Rattle.labels.specs.Core.InPlace.{meant_exact}
use Rattle.labels.proofs.in_place.held.Goals as goal

pub returns-clause-exact : goal.returns-clause-exact
returns-clause-exact c = meant_exact c.args.default c.words_of.result _ c.words_of.ensures.1
