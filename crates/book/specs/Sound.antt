-- RULES 5: "A book is sound if 5.1 to 5.10 hold." One field or more for each of these rules, in their order.
use Rattle.std.specs.Prelude.{ℕ, suc, ◌+◌, ◌-◌, ◌<◌, ◌≤◌, true, false, ◌≡◌, eqb}
use Rattle.std.specs.Int.Bits.{bit_or}
use Rattle.labels.specs.Core.{well_formed, flows}
use Rattle.quotas.specs.Sum.{Σ, when}
use Rattle.rules.specs.Kernel.{segment_code, container_code, max_code, last_number, root_quota, max_mask, max_length, units}
use Rattle.tables.specs.Layout.{View, row_count, link_count, block_count}
use Rattle.book.specs.Book.{next_of, root_of, id_of, code_of, mask_of, fixed_of, quota_of, len_of, label_of, clearance_of, mark_of, from_of, to_of, owner_of, index_of, live_link, blocks_of}
use Rattle.book.specs.Book.{is_block, ThreadOrGate, is_thread_or_gate}

-- ---- what is in use

-- the row of a live object
pub record Live (v : View) (r : ℕ) : Type 0 where
  pub low : r < row_count
  pub used : code_of v r ≡ 0 → ⊥

-- a live link
pub record On (v : View) (l : ℕ) : Type 0 where
  pub low : l < link_count
  pub used : mark_of v l ≡ 0 → ⊥

-- a used block
pub record Used (v : View) (b : ℕ) : Type 0 where
  pub low : b < block_count
  pub used : owner_of v b ≡ 0 → ⊥

-- how many links lead to row r
unfoldable pub links_to : View → ℕ → ℕ
links_to v r = Σ link_count (λ l. when (live_link v l) (when (eqb (to_of v l) r) 1))

-- the quotas of all that is linked in the container at row c
unfoldable pub charged_to : View → ℕ → ℕ
charged_to v c = Σ link_count (λ l. when (live_link v l) (when (eqb (from_of v l) c) (quota_of v (to_of v l))))

-- how many blocks are block k of the segment at row r
unfoldable pub times_held : View → ℕ → ℕ → ℕ
times_held v r k = Σ block_count (λ b. when (is_block v r k b) 1)

-- ---- ranges

-- RULES 5.1: ".. a kind 1 to 4; a thread or gate has quota 1, the root 256, anything else 1 to 255; a mask is
-- at most 15, a length at most 16,256, a fixed mark 0 or 1; .." (That only the root has more than 255 comes
-- from 5.5 and 5.8.)
pub record Range (code q n fixed mask : ℕ) : Type 0 where
  pub code_most : code ≤ max_code
  pub quota_some : 1 ≤ q
  pub quota_most : q ≤ root_quota
  pub quota_one : ThreadOrGate code → q ≡ 1
  pub length_most : code ≡ segment_code → n ≤ max_length
  pub fixed_most : code ≡ segment_code → fixed ≤ 1
  pub mask_most : code ≡ container_code → mask ≤ max_mask

-- RULES 5.1: ".. a link leads from a container to an object, ..": both are live
pub record Ends (v : View) (l : ℕ) : Type 0 where
  pub from_low : from_of v l < row_count
  pub from_container : code_of v (from_of v l) ≡ container_code
  pub to_low : to_of v l < row_count
  pub to_live : code_of v (to_of v l) ≡ 0 → ⊥

-- RULES 5.1: ".. a block in use belongs to a segment.": a live one that is long enough to have it
pub record Owned (v : View) (b : ℕ) : Type 0 where
  pub owner_low : owner_of v b - 1 < row_count
  pub owner_segment : code_of v (owner_of v b - 1) ≡ segment_code
  pub within : index_of v b < blocks_of (len_of v (owner_of v b - 1))

-- RULES 5.5: "One container of quota 256 is the root, linked nowhere, ..": it has the root's id
pub record Root (v : View) (r : ℕ) : Type 0 where
  pub low : r < row_count
  pub is_container_lem : code_of v r ≡ container_code
  pub has_id_lem : id_of v r ≡ root_of v
  pub quota_all : quota_of v r ≡ root_quota
  pub no_link : links_to v r ≡ 0

-- ---- sound

pub record Sound (v : View) : Type 0 where
  -- RULES 5.1: "Each field has a value in its range: .."
  pub next_most : next_of v ≤ suc last_number
  pub ranges : (r : ℕ) → Live v r → Range (code_of v r) (quota_of v r) (len_of v r) (fixed_of v r) (mask_of v r)
  pub ends : (l : ℕ) → On v l → Ends v l
  -- RULES 5.1: ".. an id at least 1, .." 5.2: "No two objects share an id, and each id is less than the next
  -- number."
  pub ids_from : (r : ℕ) → Live v r → 1 ≤ id_of v r
  pub ids_below : (r : ℕ) → Live v r → id_of v r < next_of v
  pub ids_apart : (r s : ℕ) → Live v r → Live v s → s < r → id_of v r ≡ id_of v s → ⊥
  -- RULES 5.3: "Each label and clearance is well formed below the next number." Star stands in labels of
  -- threads and gates only (2.15).
  pub labels : (r : ℕ) → Live v r → well_formed (next_of v) (is_thread_or_gate (code_of v r)) (label_of v r) ≡ true
  pub clearances : (r : ℕ) → Live v r → ThreadOrGate (code_of v r) → well_formed (next_of v) false (clearance_of v r) ≡ true
  -- RULES 5.4: "The label of a thread or gate flows to its clearance."
  pub flow : (r : ℕ) → Live v r → ThreadOrGate (code_of v r) → flows (label_of v r) (clearance_of v r) ≡ true
  -- RULES 5.5: "One container of quota 256 is the root, linked nowhere, and all other containers hang from it
  -- in a tree."
  pub root : (r : ℕ) × Root v r
  -- RULES 5.6: "Any other object is linked somewhere."
  pub some_link : (r : ℕ) → Live v r → (id_of v r ≡ root_of v → ⊥) → 1 ≤ links_to v r
  -- RULES 5.6: "Only a segment whose quota is fixed may be linked in more than one container."
  pub one_link : (r : ℕ) → Live v r → ((code_of v r ≡ segment_code) × (fixed_of v r ≡ 1) → ⊥) → links_to v r ≤ 1
  -- RULES 5.7: "No object is linked twice in one container."
  pub links_apart : (l m : ℕ) → On v l → On v m → m < l → from_of v l ≡ from_of v m → to_of v l ≡ to_of v m → ⊥
  -- RULES 5.8: "No object uses more units than its quota has."
  pub container_fits : (r : ℕ) → Live v r → code_of v r ≡ container_code → 1 + charged_to v r ≤ quota_of v r
  pub segment_fits : (r : ℕ) → Live v r → code_of v r ≡ segment_code → units (len_of v r) ≤ quota_of v r
  -- RULES 5.9: "A container's mask has all bits of the mask of the container that it is linked in."
  pub masks : (l : ℕ) → On v l → code_of v (to_of v l) ≡ container_code → bit_or (mask_of v (to_of v l)) (mask_of v (from_of v l)) ≡ mask_of v (to_of v l)
  -- RULES 5.10: "A segment has one block for each 64 bytes that it has or begins, no more and no fewer, and a
  -- block belongs to at most one segment."
  pub owned : (b : ℕ) → Used v b → Owned v b
  pub blocks_once : (r : ℕ) → Live v r → code_of v r ≡ segment_code → (k : ℕ) → k < blocks_of (len_of v r) → times_held v r k ≡ 1
