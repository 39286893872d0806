-- What testing a list of label conditions comes to.
use Rattle.std.specs.Prelude.{cond, List, ⊤, Result, Ok, Err}
use Rattle.labels.specs.declared.Label.{Label}
use Rattle.labels.specs.declared.Rule.{Rule}
use Rattle.rules.specs.Kernel.{Condition, all_hold}
use Rattle.calls.specs.declared.Refusal.{Refusal}
use Rattle.calls.specs.declared.Refusal.TheVariants.{LabelForbids}

-- one condition
abbrev pub asks : Rule → Label → Label → Label → Condition
asks rule x y z = record { rule = rule; x = x; y = y; z = z }

-- no refusal
abbrev pub passed : Result ⊤ Refusal
passed = Ok tt

-- passed if all hold, else the refusal that the rules give
unfoldable pub tested : List Condition → Result ⊤ Refusal
tested qs = cond (all_hold qs) passed (Err LabelForbids)
