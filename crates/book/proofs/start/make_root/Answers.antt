use native.Mathlib.Omega.{arith}
use mathlib.Core.Path.{sym, subst}
use lib.ListN.{replicate}
use Rattle.rules.specs.Kernel.{text_size}
use Rattle.book.specs.declared.make.NewRow.{NewRow}
use Rattle.book.specs.Make.{Handed}
use Rattle.book.specs.Laws.Start.{root_handed}
use Rattle.book.proofs.start.make_root.Goals as goal

pub fill_row-requires : goal.fill_row-requires
fill_row-requires c =
    record {
      whole = c.put-2.array_long;
      low = omega arith;
      handed = subst (λ (n : NewRow). Handed n (replicate text_size 0) (replicate text_size 0)) (sym c.root_row.ensures) root_handed;
    }
