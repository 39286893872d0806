-- How each change of the rules is made on rows, links, blocks and the data area. RULES 1.10: "When a row or a
-- link of the book or a block of the data area is needed, the free one with the lowest number is taken, .."
-- So what a change leaves is fixed to the byte. Laws/ has for each that the world it leaves is the change
-- applied to the world before.
use Rattle.std.specs.Prelude.{ℕ, zero, suc, ◌+◌, ◌*◌, ◌-◌, ◌/◌, ◌%◌, cond, List, ◌++◌, length, get_or, take, replicate, eqb, leb, ltb, Option}
use Rattle.labels.specs.declared.Label.{Label}
use Rattle.labels.specs.Core.{word_count}
use Rattle.quotas.specs.Any.{both}
use Rattle.rules.specs.Kernel.{Obj, kind_code, Edit, relabel, fix, requota, rewrite, Change, keep, alter, create, cut, link, stays, kept, block_size, text_size, start}
use Rattle.tables.specs.Layout.{View, row_count, link_count, block_count, next_t, root_t, id_t, kind_t, mask_t, fixed_t, quota_t, len_t, entry_t, label_default_t, label_words_t, clear_default_t}
use Rattle.tables.specs.Layout.{clear_words_t, description_t, closure_t, link_from_t, link_to_t, owner_t, index_t, empty, on_tab, put_t, run_t}
use Rattle.book.specs.Book.{next_of, id_of, code_of, len_of, mark_of, to_of, owner_of, index_of, blocks_of, first, on_found, row_of, collect, world_of}

-- RULES 1.8: ".. the data area, 16,384 bytes in 256 blocks of 64."
abbrev pub area_size : ℕ
area_size = block_count * block_size

-- ---- one row

-- the next number moves on by one
unfoldable pub moved_on : View → View
moved_on v = put_t next_t 0 (next_of v + 1) v

unfoldable pub relabelled : ℕ → Label → Label → View → View
relabelled r l c v =
    run_t clear_words_t (r * word_count) c.words (put_t clear_default_t r c.default
    (run_t label_words_t (r * word_count) l.words (put_t label_default_t r l.default v)))

unfoldable pub fixed_at : ℕ → View → View
fixed_at r v = put_t fixed_t r 1 v

unfoldable pub requotaed : ℕ → ℕ → View → View
requotaed r q v = put_t quota_t r q v

-- ---- a new object

unfoldable pub free_row : View → Option ℕ
free_row v = first row_count (λ r. eqb (code_of v r) 0)

unfoldable pub free_link : View → Option ℕ
free_link v = first link_count (λ l. eqb (mark_of v l) 0)

unfoldable pub free_block : View → Option ℕ
free_block v = first block_count (λ b. eqb (owner_of v b) 0)

-- n numbers: those of l, then zeros
unfoldable pub padded : ℕ → List ℕ → List ℕ
padded n l = take n (l ++ replicate n 0)

-- docs/BOOK.md: "A create writes every number of its row, and 0 where the kind has none."
unfoldable pub row_filled : ℕ → ℕ → Obj → View → View
row_filled r id x v =
    run_t closure_t (r * text_size) (padded text_size x.closure)
    (run_t description_t (r * text_size) (padded text_size x.description)
    (relabelled r
    (record { default = x.label.default; words = padded word_count x.label.words })
    (record { default = x.clearance.default; words = padded word_count x.clearance.words })
    (put_t entry_t r x.entry
    (put_t len_t r 0
    (put_t quota_t r x.quota
    (put_t fixed_t r 0
    (put_t mask_t r x.mask
    (put_t kind_t r (kind_code x.kind)
    (put_t id_t r id v)))))))))

-- link l leads from row c to row o
unfoldable pub link_filled : ℕ → ℕ → ℕ → View → View
link_filled l c o v = put_t link_to_t l o (put_t link_from_t l (c + 1) v)

-- ---- a segment's bytes

-- one block more: the lowest free block becomes block k of the segment at row r
unfoldable pub block_added : ℕ → ℕ → View → View
block_added r k v = on_found (free_block v) (λ b. put_t index_t b k (put_t owner_t b (r + 1) v)) v

-- RULES 8.14: "Blocks are gained in the order of their place in the segment.": n blocks more, from block k on
unfoldable pub blocks_added : ℕ → ℕ → ℕ → View → View
blocks_added r k zero v = v
blocks_added r k (suc n) v = blocks_added r (suc k) n (block_added r k v)

-- the blocks of row r from block k on are freed
unfoldable pub blocks_dropped : ℕ → ℕ → View → View
blocks_dropped r k v =
    on_tab owner_t (λ l. collect block_count (λ b. cond (both (eqb (get_or l b 0) (r + 1)) (leb k (index_of v b))) 0 (get_or l b 0))) v

-- the segment at row r is n bytes long
unfoldable pub lengthened : ℕ → ℕ → View → View
lengthened r n v = put_t len_t r n (blocks_added r (blocks_of (len_of v r)) (blocks_of n - blocks_of (len_of v r)) (blocks_dropped r (blocks_of n) v))

-- byte j of the data area, where row r had its blocks by v and has them by u, and its bytes are b now: a byte
-- within b is b's; a byte of a freed block, of a new block past b, and between the new and the old length is 0;
-- every other stays. RULES 8.14: "A block that is gained or lost is zero as a whole, and no other byte of the
-- area changes."
unfoldable pub byte_after : View → View → ℕ → List ℕ → List ℕ → ℕ → ℕ
byte_after v u r b area j =
    cond (eqb (owner_of u (j / block_size)) (r + 1))
    (cond (ltb (block_size * index_of u (j / block_size) + j % block_size) (length b))
    (get_or b (block_size * index_of u (j / block_size) + j % block_size) 0)
    (cond (both (eqb (owner_of v (j / block_size)) (r + 1)) (leb (len_of v r) (block_size * index_of u (j / block_size) + j % block_size))) (get_or area j 0) 0))
    (cond (eqb (owner_of v (j / block_size)) (r + 1)) 0 (get_or area j 0))

unfoldable pub area_after : View → View → ℕ → List ℕ → List ℕ → List ℕ
area_after v u r b area = collect area_size (byte_after v u r b area)

-- ---- unreference

-- the links that stay, the rows that are kept, and the blocks of kept rows; a freed block is set to zero
unfoldable pub cut_view : ℕ → ℕ → View → List ℕ → View
cut_view d o v area =
    on_tab owner_t (λ l. collect block_count (λ b. cond (kept (world_of v area) d o (id_of v (get_or l b 0 - 1))) (get_or l b 0) 0))
    (on_tab link_from_t (λ l. collect link_count (λ i. cond (stays (world_of v area) d o (id_of v (get_or l i 0 - 1)) (id_of v (to_of v i))) (get_or l i 0) 0))
    (on_tab kind_t (λ l. collect row_count (λ r. cond (kept (world_of v area) d o (id_of v r)) (get_or l r 0) 0)) v))

unfoldable pub cut_area : ℕ → ℕ → View → List ℕ → List ℕ
cut_area d o v area =
    collect area_size
    (λ j. cond (eqb (owner_of v (j / block_size)) 0) (get_or area j 0) (cond (kept (world_of v area) d o (id_of v (owner_of v (j / block_size) - 1))) (get_or area j 0) 0))

-- ---- every change

unfoldable pub altered_view : Edit → ℕ → View → View
altered_view (relabel l c) r v = relabelled r l c v
altered_view fix r v = fixed_at r v
altered_view (requota q) r v = requotaed r q v
altered_view (rewrite b) r v = lengthened r (length b) v

unfoldable pub altered_area : Edit → ℕ → View → List ℕ → List ℕ
altered_area (relabel l c) r v area = area
altered_area fix r v area = area
altered_area (requota q) r v area = area
altered_area (rewrite b) r v area = area_after v (lengthened r (length b) v) r b area

-- the book after a change, by ids; where an id has no row nothing is done but the number (the rules never grant that)
unfoldable pub enact_view : Change → View → List ℕ → View
enact_view keep v area = moved_on v
enact_view (alter o e) v area = on_found (row_of v o) (λ r. moved_on (altered_view e r v)) (moved_on v)
enact_view (create d x) v area =
    on_found (row_of v d)
    (λ c. on_found (free_row v) (λ r. on_found (free_link v) (λ l. moved_on (link_filled l c r (row_filled r (next_of v) x v))) (moved_on v)) (moved_on v))
    (moved_on v)
enact_view (cut d o) v area = moved_on (cut_view d o v area)
enact_view (link d o) v area =
    on_found (row_of v d) (λ c. on_found (row_of v o) (λ r. on_found (free_link v) (λ l. moved_on (link_filled l c r v)) (moved_on v)) (moved_on v)) (moved_on v)

unfoldable pub enact_area : Change → View → List ℕ → List ℕ
enact_area keep v area = area
enact_area (alter o e) v area = on_found (row_of v o) (λ r. altered_area e r v area) area
enact_area (create d x) v area = area
enact_area (cut d o) v area = cut_area d o v area
enact_area (link d o) v area = area

-- ---- Start

-- RULES 7.3: "Container f becomes the root, ..; thread f + 1 is linked in it, .. The data area is cleared,
-- and so is all else in the book."
unfoldable pub start_view : ℕ → View
start_view f =
    link_filled 0 0 1
    (row_filled 1 (f + 1) ((start f).obj (f + 1))
    (row_filled 0 f ((start f).obj f)
    (put_t root_t 0 f (put_t next_t 0 (f + 2) empty))))

unfoldable pub start_area : List ℕ
start_area = replicate area_size 0
