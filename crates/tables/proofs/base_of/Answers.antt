use Rattle.tables.specs.Layout.{table_count, base}
use Rattle.tables.specs.Layout.Laws.{get_d_tabulate}
use Rattle.tables.proofs.base_of.Goals as goal

pub returns : goal.returns
returns c = get_d_tabulate base table_count c.args.t 0 c.requires
