-- Calls 12, 13 and 14: what they share. The entry (5), the kind (6) and the label condition (7) of a segment that is read or written.
use Rattle.std.specs.Prelude.{ℕ, Bool, cond, List}
use Rattle.labels.specs.declared.Label.{Label}
use Rattle.rules.specs.Kernel.{Condition, Verdict, reading, writing, access}
use Rattle.tables.specs.Layout.{view}
use Rattle.book.specs.Book.{world_of}

-- RULES 8.12: "7 unless T may read S." 8.13: "7 unless T may write S." Of a thread with label m and a segment with label l
abbrev pub asked : Bool → Label → Label → List Condition
asked writes m l = cond writes (writing m l) (reading m l)

-- the rules' tests 5 to 7 of caller c, before what else is asked
abbrev pub access_on : List ℕ → List ℕ → ℕ → ℕ → ℕ → Bool → Verdict → Verdict
access_on b area c d s writes rest =
    access (world_of (view b) area) ((world_of (view b) area).obj c) d s
    (asked writes ((world_of (view b) area).obj c).label ((world_of (view b) area).obj s).label) rest
