-- RULES 5: "A book is sound if 5.1 to 5.10 hold." Here as far as they speak of objects, links, labels, quotas
-- and masks, a field for each, in their order; blocks and byte fields (5.10) are the book's. That no two
-- objects share an id (5.2) and that none is linked twice in one container (5.7) is in the form of a world:
-- objects go by id, and a pair is linked or not.
use Rattle.std.specs.Prelude.{ℕ, suc, ◌<◌, ◌≤◌, true, false, ◌≡◌, length}
use Rattle.std.specs.Int.Bits.{bit_or}
use Rattle.labels.specs.Core.{well_formed, flows, word_count}
use Rattle.rules.specs.Kernel.{is_live, is_gate, is_segment, is_container, has_clearance, Obj, World, use_of, last_number, root_quota, max_mask, max_length, text_size}

-- RULES 5.1: "Each field has a value in its range: .. a thread or gate has quota 1, .. a mask is at most 15,
-- a length at most 16,256, .." Only segments are fixed.
pub record InRange (x : Obj) : Type 0 where
  pub quota_some : 1 ≤ x.quota
  pub quota_one : has_clearance x.kind ≡ true → x.quota ≡ 1
  pub mask_most : x.mask ≤ max_mask
  pub length_most : length x.bytes ≤ max_length
  pub fixed_segment : x.fixed ≡ true → is_segment x.kind ≡ true
  pub label_words_lem : length x.label.words ≡ word_count
  pub clearance_words : has_clearance x.kind ≡ true → length x.clearance.words ≡ word_count
  pub description_size : length x.description ≡ text_size
  pub closure_size : is_gate x.kind ≡ true → length x.closure ≡ text_size

-- RULES 5.3: "Each label and clearance is well formed below the next number." 2.15: "It may stand in no
-- clearance, and in no label of a segment or container."
pub record Formed (n : ℕ) (x : Obj) : Type 0 where
  pub label : well_formed n (has_clearance x.kind) x.label ≡ true
  pub clearance : has_clearance x.kind ≡ true → well_formed n false x.clearance ≡ true

-- RULES 5.5: "One container of quota 256 is the root, linked nowhere, and all other containers hang from it
-- in a tree. (No cycle is possible: by 5.8 the quota falls along each link.)" proofs/Laws/Falls has the proof of
-- that. 5.1: ".. a link leads from a container to an object, .."
pub record Tree (w : World) : Type 0 where
  pub root_container : is_container (w.obj w.root).kind ≡ true
  pub root_quota_lem : (w.obj w.root).quota ≡ root_quota
  pub root_top : (d : ℕ) → w.linked d w.root ≡ false
  pub holder : (d o : ℕ) → w.linked d o ≡ true → is_container (w.obj d).kind ≡ true
  pub held : (d o : ℕ) → w.linked d o ≡ true → is_live (w.obj o).kind ≡ true

pub record Sound (w : World) : Type 0 where
  -- RULES 5.1: ".. the next number is at most 2^61, .."
  pub next_most : w.next ≤ suc last_number
  -- RULES 5.1: "Each field has a value in its range: .."
  pub ranges : (o : ℕ) → is_live (w.obj o).kind ≡ true → InRange (w.obj o)
  -- RULES 5.1: ".. an id at least 1, .." 5.2: ".. each id is less than the next number."
  pub ids : (o : ℕ) → is_live (w.obj o).kind ≡ true → (1 ≤ o) × (o < w.next)
  -- RULES 5.3: "Each label and clearance is well formed below the next number."
  pub labels : (o : ℕ) → is_live (w.obj o).kind ≡ true → Formed w.next (w.obj o)
  -- RULES 5.4: "The label of a thread or gate flows to its clearance."
  pub clearances : (o : ℕ) → has_clearance (w.obj o).kind ≡ true → flows (w.obj o).label (w.obj o).clearance ≡ true
  -- RULES 5.5: "One container of quota 256 is the root, .."
  pub tree : Tree w
  -- RULES 5.6: "Any other object is linked somewhere."
  pub has_link : (o : ℕ) → is_live (w.obj o).kind ≡ true → (o ≡ w.root → ⊥) → (d : ℕ) × (w.linked d o ≡ true)
  -- RULES 5.6: "Only a segment whose quota is fixed may be linked in more than one container." (Only segments
  -- are fixed.)
  pub one_link : (d e o : ℕ) → w.linked d o ≡ true → w.linked e o ≡ true → (w.obj o).fixed ≡ false → d ≡ e
  -- RULES 5.8: "No object uses more units than its quota has."
  pub uses : (o : ℕ) → is_live (w.obj o).kind ≡ true → use_of w o ≤ (w.obj o).quota
  -- RULES 5.9: "A container's mask has all bits of the mask of the container that it is linked in."
  pub masks : (d o : ℕ) → w.linked d o ≡ true → is_container (w.obj o).kind ≡ true → bit_or (w.obj o).mask (w.obj d).mask ≡ (w.obj o).mask
