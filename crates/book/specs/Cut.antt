-- Call 8 on rows, links and blocks, part by part: which links go, which rows are then freed, which blocks. Laws/CutLinks.antt has that the parts
-- come to cut_view and cut_area.
use Rattle.std.specs.Prelude.{ℕ, ◌-◌, ◌/◌, ◌<◌, ◌≤◌, Bool, true, false, not, cond, ◌⊎◌, ◌≡◌, List, length, get_or, set, eqb}
use Rattle.quotas.specs.Any.{any, both, either}
use Rattle.rules.specs.Kernel.{container_code, block_size, last_number, Change, cut}
use Rattle.tables.specs.Layout.{View, view, size, row_count, link_count, block_count, kind_t, link_from_t, owner_t, on_tab, put_t}
use Rattle.book.specs.Book.{next_of, root_of, id_of, code_of, mark_of, from_of, to_of, owner_of, live_link, collect}
use Rattle.book.specs.Sound.{On, Used, Sound}
use Rattle.book.specs.Resize.{block_cleared}
use Rattle.book.specs.Enact.{area_size, cut_view, cut_area}

-- the change that link l's cut is
abbrev pub cut_at : View → ℕ → Change
cut_at v l = cut (id_of v (from_of v l)) (id_of v (to_of v l))

-- a sound book with its data area, and a live link of it
pub record Entry (b area : List ℕ) (l : ℕ) : Type 0 where
  pub sized : length b ≡ size
  pub area_sized : length area ≡ area_size
  pub sound : Sound (view b)
  pub on : On (view b) l

-- whose numbers have not ended
pub record Cutting (b area : List ℕ) (l : ℕ) : Type 0 where
  pub entry : Entry b area l
  pub numbers : next_of (view b) ≤ last_number

-- what is left of both when that link is cut
pub record LinkCut (v : View) (l : ℕ) (area : List ℕ) (u : View) (left : List ℕ) : Type 0 where
  pub book : u ≡ cut_view (id_of v (from_of v l)) (id_of v (to_of v l)) v area
  pub bytes : left ≡ cut_area (id_of v (from_of v l)) (id_of v (to_of v l)) v area

-- ---- links

-- what goes with link l: link l, and each live link in a container that a link that goes leads to
pub data Goes (v : View) (l : ℕ) : ℕ → Type 0 where
  this : Goes v l l
  inside : {j : ℕ} (k : ℕ) → Goes v l j → code_of v (to_of v j) ≡ container_code → On v k → from_of v k ≡ to_of v j → Goes v l k

-- a book whose live links lead to rows, and its live link l
pub record Linked (b : List ℕ) (l : ℕ) : Type 0 where
  pub sized : length b ≡ size
  pub on : On (view b) l
  pub ends : (k : ℕ) → On (view b) k → to_of (view b) k < row_count

-- a book whose live links lead to rows
pub record Ended (b : List ℕ) : Type 0 where
  pub sized : length b ≡ size
  pub ends : (k : ℕ) → On (view b) k → to_of (view b) k < row_count

-- what is left: of each link whether it goes, and nothing else changes
pub record Unlinked (v : View) (l : ℕ) (u : View) : Type 0 where
  pub rest : u ≡ on_tab link_from_t (λ m. u.link_from) v
  pub each : (k : ℕ) → (Goes v l k × (mark_of u k ≡ 0)) ⊎ ((Goes v l k → ⊥) × (mark_of u k ≡ mark_of v k))

-- ---- rows

-- marks of rows, with the row marked that link l leads to, if it is live
unfoldable pub end_marked : View → ℕ → List Bool → List Bool
end_marked v l h = cond (live_link v l) (set h (to_of v l) true) h

-- a live link leads to row r
unfoldable pub held_row : View → ℕ → Bool
held_row v r = any link_count (λ l. both (live_link v l) (eqb (to_of v l) r))

-- marks of rows, with each row marked that a live link leads to
unfoldable pub held_marked : View → List Bool → List Bool
held_marked v h = collect row_count (λ r. either (held_row v r) (get_or h r false))

-- a row that is held, or has the root's id, stays
abbrev pub spared : View → ℕ → ℕ → Bool → Bool
spared v r root held = either held (eqb (id_of v r) root)

-- any other is freed. RULES 1.10: "To free one is to set the mark that docs/BOOK.md names to 0, .."
unfoldable pub row_freed : View → ℕ → ℕ → Bool → View
row_freed v r root held = cond (spared v r root held) v (put_t kind_t r 0 v)

unfoldable pub rows_freed : List Bool → View → View
rows_freed h v = on_tab kind_t (λ k. collect row_count (λ r. cond (spared v r (root_of v) (get_or h r false)) (get_or k r 0) 0)) v

-- RULES 8.8: "An object that is linked nowhere any more is freed, except the root."
unfoldable pub rows_swept : View → View
rows_swept v = on_tab kind_t (λ k. collect row_count (λ r. cond (either (held_row v r) (eqb (id_of v r) (root_of v))) (get_or k r 0) 0)) v

-- ---- blocks

-- a book whose used blocks belong to rows
pub record Blocked (b : List ℕ) : Type 0 where
  pub sized : length b ≡ size
  pub owners : (k : ℕ) → Used (view b) k → owner_of (view b) k - 1 < row_count

-- block b belongs to a row that is free
abbrev pub orphan : View → ℕ → Bool
orphan v b = both (not (eqb (owner_of v b) 0)) (eqb (code_of v (owner_of v b - 1)) 0)

unfoldable pub block_freed : View → ℕ → View
block_freed v b = cond (orphan v b) (put_t owner_t b 0 v) v

unfoldable pub blocks_swept : View → View
blocks_swept v = on_tab owner_t (λ l. collect block_count (λ b. cond (orphan v b) 0 (get_or l b 0))) v

-- RULES 8.8: "The blocks of a freed segment are set to zero."
unfoldable pub area_swept : View → List ℕ → List ℕ
area_swept v area = collect area_size (λ j. cond (orphan v (j / block_size)) 0 (get_or area j 0))

-- block b set to zero, if it is one
unfoldable pub block_swept : View → ℕ → List ℕ → List ℕ
block_swept v b area = cond (orphan v b) (block_cleared b area) area
