use mathlib.Core.Path.{◌∙◌}
use Rattle.labels.specs.Core.Insert.{room_is}
use Rattle.labels.proofs.pair.has_room.Goals as goal

pub returns : goal.returns
returns c = c.contains.ensures.value ∙ room_is c.args.words.now
