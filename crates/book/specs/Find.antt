-- Lookups by id: what row, link or entry each finds.
use Rattle.std.specs.Prelude.{ℕ, ◌+◌, Bool, eqb, Option, Some, None}
use Rattle.std.specs.Bool.{then_some}
use Rattle.quotas.specs.Any.{both}
use Rattle.rules.specs.Kernel.{thread_code, container_code}
use Rattle.tables.specs.Layout.{View, link_count}
use Rattle.book.specs.declared.find.Entry.{Entry}
use Rattle.book.specs.Book.{code_of, mark_of, to_of, first, on_found, row_of}

-- the row of an id, if its kind has that code
unfoldable pub row_of_kind : ℕ → View → ℕ → Option ℕ
row_of_kind k v o = on_found (row_of v o) (λ r. then_some (eqb (code_of v r) k) r) None

abbrev pub thread_row : View → ℕ → Option ℕ
thread_row v o = row_of_kind thread_code v o

abbrev pub container_row : View → ℕ → Option ℕ
container_row v o = row_of_kind container_code v o

-- link l leads from row c to row o
abbrev pub leads : View → ℕ → ℕ → ℕ → Bool
leads v c o l = both (eqb (mark_of v l) (c + 1)) (eqb (to_of v l) o)

-- the lowest live link from row c to row o
unfoldable pub link_between : View → ℕ → ℕ → Option ℕ
link_between v c o = first link_count (leads v c o)

-- the entry with the container's row c, the object's row r and the link l
abbrev pub entry_in : ℕ → ℕ → ℕ → Entry
entry_in c r l = record { container = c; object = r; link = l }

-- An entry (RULES 6.15) as it is looked up, but for whether d may be read: its place, which is the rows of
-- the container d and of the object o and the link between them, or nothing
unfoldable pub entry_place : View → ℕ → ℕ → Option Entry
entry_place v d o =
    on_found (container_row v d)
    (λ c. on_found (row_of v o) (λ r. on_found (link_between v c r) (λ l. Some (entry_in c r l)) None) None)
    None
