-- The book's bytes: tables of numbers, one after the other, with no byte between them (docs/BOOK.md). A number takes as
-- many bytes as its table is wide, the lowest first. The laws are in the modules below this one.
use Rattle.std.specs.Prelude.{◌≡◌, cond, ℕ, zero, suc, ◌+◌, ◌*◌, ◌<◌, ◌≤◌, List, [], ◌∷◌, length, get_or, set, replicate, eqb}
use Rattle.std.proofs.lemmas.List.Edits.{sets}
use Rattle.labels.specs.Le.{le_at}
use Rattle.labels.specs.Core.{word_count}
use Rattle.rules.specs.Kernel.{text_size}
pub mod Laws
pub mod Only
pub mod Runs
pub mod Zero

-- ---- the layout

-- the rows, each with room for one object
abbrev pub row_count : ℕ
row_count = 256

-- the links, one for each object but the root
abbrev pub link_count : ℕ
link_count = 255

-- the blocks of the data area
abbrev pub block_count : ℕ
block_count = 256

-- the tables in their order: the bytes of one number, and how many numbers. A table more is a line here and,
-- below, its number, its field of View, and its place in from_tabs and in tabs; no law names all the tables.
abbrev pub tables : List (ℕ × ℕ)
tables =
    (8, 1)  -- next
    ∷ (8, 1)  -- root
    ∷ (8, row_count)  -- id
    ∷ (1, row_count)  -- kind
    ∷ (1, row_count)  -- mask
    ∷ (1, row_count)  -- fixed
    ∷ (2, row_count)  -- quota
    ∷ (2, row_count)  -- len
    ∷ (8, row_count)  -- entry
    ∷ (1, row_count)  -- label_default
    ∷ (8, row_count * word_count)  -- label_words
    ∷ (1, row_count)  -- clear_default
    ∷ (8, row_count * word_count)  -- clear_words
    ∷ (1, row_count * text_size)  -- description
    ∷ (1, row_count * text_size)  -- closure
    ∷ (2, link_count)  -- link_from
    ∷ (2, link_count)  -- link_to
    ∷ (2, block_count)  -- owner
    ∷ (1, block_count)  -- index
    ∷ []

abbrev pub table_count : ℕ
table_count = length tables

abbrev pub w_of : ℕ → ℕ
w_of t = (get_or tables t (0, 0)).0

abbrev pub n_of : ℕ → ℕ
n_of t = (get_or tables t (0, 0)).1

-- the tables by their numbers
abbrev pub next_t : ℕ
next_t = 0

abbrev pub root_t : ℕ
root_t = 1

abbrev pub id_t : ℕ
id_t = 2

abbrev pub kind_t : ℕ
kind_t = 3

abbrev pub mask_t : ℕ
mask_t = 4

abbrev pub fixed_t : ℕ
fixed_t = 5

abbrev pub quota_t : ℕ
quota_t = 6

abbrev pub len_t : ℕ
len_t = 7

abbrev pub entry_t : ℕ
entry_t = 8

abbrev pub label_default_t : ℕ
label_default_t = 9

abbrev pub label_words_t : ℕ
label_words_t = 10

abbrev pub clear_default_t : ℕ
clear_default_t = 11

abbrev pub clear_words_t : ℕ
clear_words_t = 12

abbrev pub description_t : ℕ
description_t = 13

abbrev pub closure_t : ℕ
closure_t = 14

abbrev pub link_from_t : ℕ
link_from_t = 15

abbrev pub link_to_t : ℕ
link_to_t = 16

abbrev pub owner_t : ℕ
owner_t = 17

abbrev pub index_t : ℕ
index_t = 18

-- where a table starts: past the tables before it
abbrev pub base : ℕ → ℕ
base zero = 0
base (suc t) = base t + n_of t * w_of t

-- the length of a book
abbrev pub size : ℕ
size = base table_count

-- ---- what the bytes say

-- n numbers of w bytes each, from `from` on
unfoldable pub nums : ℕ → ℕ → List ℕ → ℕ → List ℕ
nums w zero b from = []
nums w (suc n) b from = le_at w b from ∷ nums w n b (from + w)

-- the table t of a book's bytes
unfoldable pub tab : List ℕ → ℕ → List ℕ
tab b t = nums (w_of t) (n_of t) b (base t)

-- a book as its tables, in their order
pub record View : Type 0 where
  pub next : List ℕ  -- of one number: the next to be issued
  pub root : List ℕ  -- of one number: the root's id
  pub id : List ℕ  -- of each row, as those up to clear_default
  pub kind : List ℕ  -- 0 where the row is free
  pub mask : List ℕ
  pub fixed : List ℕ
  pub quota : List ℕ
  pub len : List ℕ
  pub entry : List ℕ
  pub label_default : List ℕ
  pub label_words : List ℕ  -- word_count of each row
  pub clear_default : List ℕ
  pub clear_words : List ℕ  -- word_count of each row
  pub description : List ℕ  -- text_size of each row
  pub closure : List ℕ  -- text_size of each row
  pub link_from : List ℕ  -- of each link: the container's row plus 1, 0 where the link is free
  pub link_to : List ℕ  -- the object's row
  pub owner : List ℕ  -- of each block: the segment's row plus 1, 0 where the block is free
  pub index : List ℕ  -- which of the segment's block_count

-- the book whose tables are f 0, f 1, ..
abbrev pub from_tabs : (ℕ → List ℕ) → View
from_tabs f =
    record {
      next = f next_t;
      root = f root_t;
      id = f id_t;
      kind = f kind_t;
      mask = f mask_t;
      fixed = f fixed_t;
      quota = f quota_t;
      len = f len_t;
      entry = f entry_t;
      label_default = f label_default_t;
      label_words = f label_words_t;
      clear_default = f clear_default_t;
      clear_words = f clear_words_t;
      description = f description_t;
      closure = f closure_t;
      link_from = f link_from_t;
      link_to = f link_to_t;
      owner = f owner_t;
      index = f index_t;
    }

-- the tables of a book, in their order
abbrev pub tabs : View → List (List ℕ)
tabs k =
    k.next
    ∷ k.root
    ∷ k.id
    ∷ k.kind
    ∷ k.mask
    ∷ k.fixed
    ∷ k.quota
    ∷ k.len
    ∷ k.entry
    ∷ k.label_default
    ∷ k.label_words
    ∷ k.clear_default
    ∷ k.clear_words
    ∷ k.description
    ∷ k.closure
    ∷ k.link_from
    ∷ k.link_to
    ∷ k.owner
    ∷ k.index
    ∷ []

-- the table t of a book
abbrev pub tab_of : View → ℕ → List ℕ
tab_of k t = get_or (tabs k) t []

-- what a book's bytes say
unfoldable pub view : List ℕ → View
view b = from_tabs (tab b)

-- n zeros
unfoldable pub zeros : ℕ → List ℕ
zeros n = replicate n 0

-- the book of zeros
unfoldable pub empty : View
empty = from_tabs (λ t. zeros (n_of t))

-- ---- changes. With t a numeral, what a change leaves of another table computes.

-- what a change f of table t makes of table s
abbrev pub if_tab : ℕ → (List ℕ → List ℕ) → ℕ → List ℕ → List ℕ
if_tab t f s l = cond (eqb s t) (f l) l

-- the book with f applied to table t
abbrev pub on_tab : ℕ → (List ℕ → List ℕ) → View → View
on_tab t f k = from_tabs (λ s. if_tab t f s (tab_of k s))

-- the book with v as number i of table t
abbrev pub put_t : ℕ → ℕ → ℕ → View → View
put_t t i v = on_tab t (λ l. set l i v)

-- the book with the numbers vs in table t, from number i on
abbrev pub run_t : ℕ → ℕ → List ℕ → View → View
run_t t i vs = on_tab t (λ l. sets l i vs)

-- ---- places

-- b has a book's length, and table t, w bytes wide, has a number i
pub record Slot (b : List ℕ) (t w i : ℕ) : Type 0 where
  pub whole : length b ≡ size
  pub table : t < table_count
  pub wide : w_of t ≡ w
  pub place : i < n_of t

-- b has a book's length, and table t, w bytes wide, has n numbers from number i on
pub record Run (b : List ℕ) (t w i n : ℕ) : Type 0 where
  pub whole : length b ≡ size
  pub table : t < table_count
  pub wide : w_of t ≡ w
  pub place : i + n ≤ n_of t
