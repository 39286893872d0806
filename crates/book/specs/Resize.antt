-- What a resize does to the data area, step by step in the order in which it is done. Laws/Resize has that it comes to what Enact asks.
use Rattle.std.specs.Prelude.{ℕ, zero, suc, ◌+◌, ◌*◌, ◌-◌, ◌/◌, ◌%◌, Bool, cond, List, length, get_or, eqb, leb, ltb}
use Rattle.quotas.specs.Any.{both}
use Rattle.rules.specs.Kernel.{block_size}
use Rattle.tables.specs.Layout.{View, block_count, owner_t, on_tab, put_t}
use Rattle.book.specs.Book.{len_of, owner_of, index_of, blocks_of, is_block, first, on_found, collect}
use Rattle.book.specs.Enact.{area_size, free_block, block_added, blocks_dropped}

-- the bytes from `from` to before `to` are 0
unfoldable pub cleared : ℕ → ℕ → List ℕ → List ℕ
cleared from to area = collect (length area) (λ j. cond (both (leb from j) (ltb j to)) 0 (get_or area j 0))

-- all bytes of block x are 0
abbrev pub block_cleared : ℕ → List ℕ → List ℕ
block_cleared x area = cleared (block_size * x) (block_size * x + block_size) area

-- ---- blocks that go

-- block x is one of row r, from its block k on
abbrev pub is_past : View → ℕ → ℕ → ℕ → Bool
is_past v r k x = both (eqb (owner_of v x) (r + 1)) (leb k (index_of v x))

-- such a block is freed
abbrev pub block_dropped : ℕ → ℕ → ℕ → View → View
block_dropped r k x v = cond (is_past v r k x) (put_t owner_t x 0 v) v

abbrev pub block_wiped : ℕ → ℕ → ℕ → View → List ℕ → List ℕ
block_wiped r k x v area = cond (is_past v r k x) (block_cleared x area) area

-- those below i are freed
unfoldable pub dropped_to : ℕ → ℕ → ℕ → View → View
dropped_to i r k v =
    on_tab owner_t (λ l. collect block_count (λ x. cond (both (ltb x i) (both (eqb (get_or l x 0) (r + 1)) (leb k (index_of v x)))) 0 (get_or l x 0))) v

unfoldable pub wiped_to : ℕ → ℕ → ℕ → View → List ℕ → List ℕ
wiped_to i r k v area = collect area_size (λ j. cond (both (ltb (j / block_size) i) (is_past v r k (j / block_size))) 0 (get_or area j 0))

-- ---- blocks that come

-- the block that is taken is 0
unfoldable pub free_cleared : View → List ℕ → List ℕ
free_cleared v area = on_found (free_block v) (λ x. block_cleared x area) area

-- n blocks more, from block k on
unfoldable pub frees_cleared : ℕ → ℕ → ℕ → View → List ℕ → List ℕ
frees_cleared r k zero v area = area
frees_cleared r k (suc n) v area = frees_cleared r (suc k) n (block_added r k v) (free_cleared v area)

-- ---- the block in which the shorter length ends

-- where the bytes from length lo to length hi end in the block of byte lo
abbrev pub edge_end : ℕ → ℕ → ℕ
edge_end lo hi = cond (ltb (hi - block_size * (lo / block_size)) block_size) (hi - block_size * (lo / block_size)) block_size

-- the bytes from lo to before hi that lie in the block of byte lo are 0
unfoldable pub edge_cleared : ℕ → ℕ → ℕ → View → List ℕ → List ℕ
edge_cleared r lo hi v area =
    on_found (first block_count (is_block v r (lo / block_size))) (λ x. cleared (block_size * x + lo % block_size) (block_size * x + edge_end lo hi) area) area

-- the bytes between lengths m and n
unfoldable pub between_cleared : ℕ → ℕ → ℕ → View → List ℕ → List ℕ
between_cleared r m n v area = cond (ltb n m) (edge_cleared r n m v area) (edge_cleared r m n v area)

-- ---- all

unfoldable pub resized_area : ℕ → ℕ → View → List ℕ → List ℕ
resized_area r n v area =
    frees_cleared r (blocks_of (len_of v r)) (blocks_of n - blocks_of (len_of v r)) (blocks_dropped r (blocks_of n) v)
    (wiped_to block_count r (blocks_of n) v (between_cleared r (len_of v r) n v area))
