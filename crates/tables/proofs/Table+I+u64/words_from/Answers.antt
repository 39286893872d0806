use native.Mathlib.Omega.{arith}
use Rattle.std.proofs.Common.{ap, ◌∙◌}
use Rattle.labels.specs.Core.{word_count, words_at}
use Rattle.tables.specs.Layout.Runs.{run_room, run_words}
use Rattle.tables.proofs.Table+I+u64.words_from.Goals as goal

pub returns : goal.returns
returns g c =
    let f = c.place_of.ensures.0 in
    (omega (arith, f, run_room _ _ _ _ _ c.requires), ap (words_at word_count c.args.b.now) f ∙ run_words _ _ _ _ c.requires)
