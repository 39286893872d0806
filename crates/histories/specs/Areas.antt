-- Histories of the two lent areas: a start, then any calls, where nothing but the calls touches the areas. `Started` and `Called` are what the exported functions promise.
use Rattle.std.specs.Prelude.{ℕ, List}
use Rattle.rules.specs.Kernel.{World, Call, History, started, next}
use Rattle.tables.specs.Layout.{view}
use Rattle.book.specs.Book.{world_of}
use Rattle.flytewood.specs.Called.{Called, Started}

-- the objects, links and bytes that a book b and a data area spell (docs/BOOK.md)
abbrev pub world : List ℕ → List ℕ → World
world b area = world_of (view b) area

-- After the history h the book is b and the data area is `area`. It began with a Start that answered 0, on whatever areas were lent. Each call then, of any caller with
-- any arguments, found the areas as the one before it had left them.
pub data After : History → List ℕ → List ℕ → Type 0 where
  begun : (f : ℕ) (b area b' area' : List ℕ) → Started b area f 0 b' area' → After (started f) b' area'
  called : (h : History) (b area : List ℕ) (c : ℕ) (x : Call) (out : List ℕ) (answer value : ℕ) (b' area' out' : List ℕ) → After h b area
      → Called b area c x out answer value b' area' out' → After (next h c x) b' area'
