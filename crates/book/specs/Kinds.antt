-- The program's kinds and their codes.
use Rattle.std.specs.Prelude.{ℕ, cond, Option, Some, None, eqb}
use Rattle.rules.specs.Kernel.{thread_code, gate_code, segment_code, container_code}
use Rattle.rules.specs.Kernel as kernel
use Rattle.book.specs.Book.{kind_from}
use Rattle.book.specs.declared.kinds.Kind.{Kind}
use Rattle.book.specs.declared.kinds.Kind.TheVariants.{Thread, Gate, Segment, Container}

abbrev pub code_of_kind : Kind → ℕ
code_of_kind Thread = thread_code
code_of_kind Gate = gate_code
code_of_kind Segment = segment_code
code_of_kind Container = container_code

-- as the rules have it
abbrev pub rules_kind : Kind → kernel.Kind
rules_kind k = kind_from (code_of_kind k)

-- the kind of a code; none has 0, nor any above the last
unfoldable pub kind_with : ℕ → Option Kind
kind_with n =
    cond (eqb n thread_code) (Some Thread) (cond (eqb n gate_code) (Some Gate) (cond (eqb n segment_code) (Some Segment) (cond (eqb n container_code) (Some Container) None)))
