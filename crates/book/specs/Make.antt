-- A new object as it is handed to the book: numbers and labels by value, texts as bytes lent. Which object of the rules that is, and what a create and
-- a link leave, by rows.
use Rattle.std.specs.Prelude.{ℕ, ◌+◌, ◌<◌, ◌≤◌, ◌≡◌, List, length, replicate, Option, Some, None}
use Rattle.labels.specs.Core.{word_count, plain, level1, level2}
use Rattle.rules.specs.Kernel.{thread_code, container_code, Obj, kind_code, text_size, last_number, root_quota, plain_object}
use Rattle.tables.specs.Layout.{View, row_count, size, view, next_t, root_t, id_t, kind_t, mask_t, fixed_t, quota_t, len_t, entry_t, empty, put_t}
use Rattle.book.specs.declared.make.NewRow.{NewRow}
use Rattle.book.specs.Book.{next_of, on_found, kind_from, of_kind}
use Rattle.book.specs.Enact.{moved_on, padded, free_row, free_link, row_filled, link_filled}

-- ---- the object that a new row is

-- by its kind's code, with s as its description and x as its closure; a code that no kind has makes it absent
unfoldable pub object_of : NewRow → List ℕ → List ℕ → Obj
object_of n s x = of_kind (plain_object (kind_from n.kind) n.label n.clearance n.quota n.mask n.entry s x)

-- What is handed over is what the object has, and zero where its kind has nothing.
pub record Handed (n : NewRow) (s x : List ℕ) : Type 0 where
  pub code : kind_code (object_of n s x).kind ≡ n.kind
  pub mask : (object_of n s x).mask ≡ n.mask
  pub quota : (object_of n s x).quota ≡ n.quota
  pub entry : (object_of n s x).entry ≡ n.entry
  pub label_low : n.label.default < 256
  pub label_default_lem : (object_of n s x).label.default ≡ n.label.default
  pub label_words_lem : padded word_count (object_of n s x).label.words ≡ n.label.words
  pub clearance_low : n.clearance.default < 256
  pub clearance_default : (object_of n s x).clearance.default ≡ n.clearance.default
  pub clearance_words : padded word_count (object_of n s x).clearance.words ≡ n.clearance.words
  pub description_long : length s ≡ text_size
  pub description : padded text_size (object_of n s x).description ≡ s
  pub closure_long : length x ≡ text_size
  pub closure : padded text_size (object_of n s x).closure ≡ x

-- the root that Start makes, and its thread
abbrev pub root_row : NewRow
root_row = record { kind = container_code; mask = 0; quota = root_quota; entry = 0; label = plain level1; clearance = plain 0 }

abbrev pub thread_row : NewRow
thread_row = record { kind = thread_code; mask = 0; quota = 1; entry = 0; label = plain level1; clearance = plain level2 }

-- ---- what the changes leave, by rows

-- the seven numbers of a row
unfoldable pub numbers_filled : ℕ → ℕ → ℕ → ℕ → ℕ → ℕ → View → View
numbers_filled r id code mask quota entry v =
    put_t entry_t r entry
    (put_t len_t r 0
    (put_t quota_t r quota
    (put_t fixed_t r 0
    (put_t mask_t r mask
    (put_t kind_t r code
    (put_t id_t r id v))))))

-- x in the lowest free row, and in the container at row c by the lowest free link; nothing where there is none
unfoldable pub placed_in : ℕ → Obj → View → View
placed_in c x v = on_found (free_row v) (λ r. on_found (free_link v) (λ l. link_filled l c r (row_filled r (next_of v) x v)) v) v

-- the row that is taken
unfoldable pub place_for : View → Option ℕ
place_for v = on_found (free_row v) (λ r. on_found (free_link v) (λ l. Some r) None) None

-- a create in the container at row c
unfoldable pub created_in : ℕ → Obj → View → View
created_in c x v = moved_on (placed_in c x v)

-- the object at row o linked in the container at row c
unfoldable pub linked_in : ℕ → ℕ → View → View
linked_in c o v = on_found (free_link v) (λ l. moved_on (link_filled l c o v)) (moved_on v)

-- Start's book in two steps: the numbers and the root in a cleared book, then the root's thread, whose number is id
unfoldable pub root_made : ℕ → View
root_made f = row_filled 0 f (object_of root_row (replicate text_size 0) (replicate text_size 0)) (put_t root_t 0 f (put_t next_t 0 (f + 2) empty))

unfoldable pub thread_made : ℕ → View → View
thread_made id v = link_filled 0 0 1 (row_filled 1 id (object_of thread_row (replicate text_size 0) (replicate text_size 0)) v)

-- ---- what the functions ask

-- a book of the right length whose numbers have not ended
pub record Going (b : List ℕ) : Type 0 where
  pub whole : length b ≡ size
  pub numbers : next_of (view b) ≤ last_number

-- a row of a book, and a new object for it
pub record Filling (b : List ℕ) (r : ℕ) (n : NewRow) (s x : List ℕ) : Type 0 where
  pub whole : length b ≡ size
  pub low : r < row_count
  pub handed : Handed n s x

-- a container's row of a book whose numbers have not ended, and a new object for it
pub record Creating (b : List ℕ) (c : ℕ) (n : NewRow) (s x : List ℕ) : Type 0 where
  pub going : Going b
  pub low : c < row_count
  pub handed : Handed n s x

-- two rows of a book whose numbers have not ended
pub record Linking (b : List ℕ) (c o : ℕ) : Type 0 where
  pub going : Going b
  pub container_low : c < row_count
  pub object_low : o < row_count
