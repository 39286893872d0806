-- The lookups of calls 4 to 16. RULES 6.5: "A container that the call names does not exist, is an object of another kind, or may not be read by the caller; or the object named
-- with it is not linked in it." What is not open is not found.
use Rattle.std.specs.Prelude.{ℕ, cond, Result, Ok, Err}
use Rattle.std.specs.Option.{ok_or}
use Rattle.std.specs.Result.{result_and}
use Rattle.labels.specs.Core.{may_read}
use Rattle.tables.specs.Layout.{View}
use Rattle.book.specs.declared.find.Entry.{Entry}
use Rattle.book.specs.Book.{label_of, on_found}
use Rattle.book.specs.Find.{container_row, entry_place}
use Rattle.calls.specs.declared.Refusal.{Refusal}
use Rattle.calls.specs.declared.Refusal.TheVariants.{NoEntry}

-- the row of the container d, if the thread at row t may read it
unfoldable pub open_container : View → ℕ → ℕ → Result ℕ Refusal
open_container v t d = on_found (container_row v d) (λ c. cond (may_read (label_of v t) (label_of v c)) (Ok c) (Err NoEntry)) (Err NoEntry)

-- the place of the object o in the container d, if that is open
unfoldable pub open_entry : View → ℕ → ℕ → ℕ → Result Entry Refusal
open_entry v t d o = result_and (open_container v t d) (ok_or (entry_place v d o) NoEntry)
