-- A comparison of labels that are lent in 65 bytes each: 1 if it holds, 0 if not, 2 if the bytes are not as many.
use Rattle.std.specs.Prelude.{ℕ, Bool, cond, List, eqb, length}
use Rattle.labels.specs.declared.Rule.TheVariants.{FloorFlows}
use Rattle.labels.specs.Core.{label_size, label_of, may_write, compare_b}

abbrev pub whole : List ℕ → ℕ → ℕ
whole bytes answer = cond (eqb (length bytes) label_size) answer 2

abbrev pub told : Bool → ℕ
told holds = cond holds 1 0

unfoldable pub may_write_lent : List ℕ → List ℕ → ℕ
may_write_lent t o = whole t (whole o (told (may_write (label_of t) (label_of o))))

unfoldable pub floor_flows_lent : List ℕ → List ℕ → List ℕ → ℕ
floor_flows_lent x y z = whole x (whole y (whole z (told (compare_b FloorFlows (label_of x) (label_of y) (label_of z)))))
