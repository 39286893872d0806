-- What the operations ask of a number and three labels.
use Rattle.std.specs.Prelude.{ℕ, Bool, true, false, cond, eqb}
use Rattle.labels.specs.declared.Label.{Label}
use Rattle.labels.specs.declared.Rule.TheVariants.{Flows, FlowsHigh, FloorFlows, FlowsJoin, FlowsJoinHigh}
use Rattle.labels.specs.Core.{compare_b, unread, may_read, may_write, well_formed}
use Rattle.label_vectors.specs.declared.Question.{Question}
use Rattle.label_vectors.specs.declared.Question.TheVariants.{Two, Three, MayRead, MayWrite, WellFormed}
use Rattle.label_vectors.specs.declared.Op.{Op}
use Rattle.label_vectors.specs.declared.Op.TheVariants.{Ask, Pair, Level}

-- the operation of each number: 8, and every one above 10, asks for a label with no star
abbrev pub op_of : ℕ → Op
op_of op =
    cond (eqb op 0) (Ask (Two Flows))
    (cond (eqb op 1) (Ask (Two FlowsHigh))
    (cond (eqb op 2) (Ask (Three FloorFlows))
    (cond (eqb op 3) (Ask (Three FlowsJoin))
    (cond (eqb op 4) (Ask (Three FlowsJoinHigh))
    (cond (eqb op 5) (Ask MayRead)
    (cond (eqb op 6) (Ask MayWrite) (cond (eqb op 7) (Ask (WellFormed true)) (cond (eqb op 9) Pair (cond (eqb op 10) Level (Ask (WellFormed false)))))))))))

abbrev pub asked : Question → ℕ → Label → Label → Label → Bool
asked (Two rule) n x y z = compare_b rule x y unread
asked (Three rule) n x y z = compare_b rule x y z
asked MayRead n x y z = may_read x y
asked MayWrite n x y z = may_write x y
asked (WellFormed star) n x y z = well_formed n star x
