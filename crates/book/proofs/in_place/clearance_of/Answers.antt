use Rattle.labels.specs.Core.{word_count}
use Rattle.labels.specs.Core.InPlace.{meant_exact}
use Rattle.book.proofs.in_place.clearance_of.Goals as goal

pub returns-clause-exact : goal.returns-clause-exact
returns-clause-exact c = meant_exact c.from.result c.words.result word_count c.words.ensures.1
