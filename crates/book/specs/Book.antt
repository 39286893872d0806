-- What the tables of a book and the data area mean: which world they spell. docs/BOOK.md has the tables byte by byte.
use Rattle.std.specs.Prelude.{ℕ, zero, suc, ◌+◌, ◌*◌, ◌-◌, ◌/◌, ◌%◌, ◌≤◌, Bool, false, not, cond, List, [], ◌∷◌, get_or, take, drop, eqb, leb, Option, Some, None}
use Rattle.labels.specs.declared.Label.{Label}
use Rattle.labels.specs.Core.{word_count}
use Rattle.quotas.specs.Any.{any, both}
use Rattle.rules.specs.Kernel.{gate_code, Kind, is_gate, is_segment, is_container, has_clearance, Obj, World, blank, nothing, block_size, text_size}
pub use Rattle.rules.specs.Kernel.{blocks_of}
unfoldable pub use Rattle.rules.specs.Kernel.{kind_from}
use Rattle.tables.specs.Layout.{View, row_count, link_count, block_count}

-- ---- what stands in a book

abbrev pub next_of : View → ℕ
next_of v = get_or v.next 0 0

abbrev pub root_of : View → ℕ
root_of v = get_or v.root 0 0

abbrev pub id_of : View → ℕ → ℕ
id_of v r = get_or v.id r 0

-- a kind's code; 0 is a free row
abbrev pub code_of : View → ℕ → ℕ
code_of v r = get_or v.kind r 0

abbrev pub mask_of : View → ℕ → ℕ
mask_of v r = get_or v.mask r 0

abbrev pub fixed_of : View → ℕ → ℕ
fixed_of v r = get_or v.fixed r 0

abbrev pub quota_of : View → ℕ → ℕ
quota_of v r = get_or v.quota r 0

abbrev pub len_of : View → ℕ → ℕ
len_of v r = get_or v.len r 0

abbrev pub entry_of : View → ℕ → ℕ
entry_of v r = get_or v.entry r 0

abbrev pub label_of : View → ℕ → Label
label_of v r = record { default = get_or v.label_default r 0; words = take word_count (drop (r * word_count) v.label_words) }

abbrev pub clearance_of : View → ℕ → Label
clearance_of v r = record { default = get_or v.clear_default r 0; words = take word_count (drop (r * word_count) v.clear_words) }

abbrev pub description_of : View → ℕ → List ℕ
description_of v r = take text_size (drop (r * text_size) v.description)

abbrev pub closure_of : View → ℕ → List ℕ
closure_of v r = take text_size (drop (r * text_size) v.closure)

-- link l: its container's row and one more, or 0 where it is free; that row; its object's row
abbrev pub mark_of : View → ℕ → ℕ
mark_of v l = get_or v.link_from l 0

abbrev pub from_of : View → ℕ → ℕ
from_of v l = mark_of v l - 1

abbrev pub to_of : View → ℕ → ℕ
to_of v l = get_or v.link_to l 0

-- block b: its segment's row and one more, or 0 where it is free; which block of the segment it is
abbrev pub owner_of : View → ℕ → ℕ
owner_of v b = get_or v.owner b 0

abbrev pub index_of : View → ℕ → ℕ
index_of v b = get_or v.index b 0

-- the code of a live row is a thread's or a gate's, which come first
abbrev pub ThreadOrGate : ℕ → Type 0
ThreadOrGate code = code ≤ gate_code

abbrev pub is_thread_or_gate : ℕ → Bool
is_thread_or_gate code = leb code gate_code

abbrev pub live_row : View → ℕ → Bool
live_row v r = not (eqb (code_of v r) 0)

abbrev pub live_link : View → ℕ → Bool
live_link v l = not (eqb (mark_of v l) 0)

-- ---- the lowest place

-- the lowest of n places from i on at which a test holds
unfoldable pub first_from : ℕ → ℕ → (ℕ → Bool) → Option ℕ
first_from zero i f = None
first_from (suc n) i f = cond (f i) (Some i) (first_from n (suc i) f)

-- the lowest place below n
abbrev pub first : ℕ → (ℕ → Bool) → Option ℕ
first n f = first_from n 0 f

-- by whether a place was found
abbrev pub on_found : {X : Type 0} → Option ℕ → (ℕ → X) → X → X
on_found (Some i) hit miss = hit i
on_found None hit miss = miss

-- ---- bytes of a segment

abbrev pub is_block : View → ℕ → ℕ → ℕ → Bool
is_block v r k b = both (eqb (owner_of v b) (r + 1)) (eqb (index_of v b) k)

-- the block of the data area that is block k of the segment at row r
unfoldable pub block_at : View → ℕ → ℕ → ℕ
block_at v r k = on_found (first block_count (is_block v r k)) (λ b. b) 0

-- where byte i of the segment at row r lies
unfoldable pub place_of : View → ℕ → ℕ → ℕ
place_of v r i = block_size * block_at v r (i / block_size) + i % block_size

-- f 0, f 1, .. and f (n - 1)
unfoldable pub collect : {A : Type 0} → ℕ → (ℕ → A) → List A
collect zero f = []
collect (suc n) f = f 0 ∷ collect n (λ i. f (suc i))

unfoldable pub bytes_of : View → List ℕ → ℕ → List ℕ
bytes_of v area r = collect (len_of v r) (λ i. get_or area (place_of v r i) 0)

-- ---- the world

-- RULES 1.3 to 1.6: an object with the fields that its kind has; the others are blank, 0, false or empty
abbrev pub of_kind : Obj → Obj
of_kind x =
    record {
      kind = x.kind;
      label = x.label;
      clearance = cond (has_clearance x.kind) x.clearance blank;
      quota = x.quota;
      fixed = cond (is_segment x.kind) x.fixed false;
      mask = cond (is_container x.kind) x.mask 0;
      bytes = cond (is_segment x.kind) x.bytes [];
      entry = cond (is_gate x.kind) x.entry 0;
      description = x.description;
      closure = cond (is_gate x.kind) x.closure [];
    }

-- what stands in a row beside its kind k and the bytes b
abbrev pub standing : View → ℕ → Kind → List ℕ → Obj
standing v r k b =
    record {
      kind = k;
      label = label_of v r;
      clearance = clearance_of v r;
      quota = quota_of v r;
      fixed = eqb (fixed_of v r) 1;
      mask = mask_of v r;
      bytes = b;
      entry = entry_of v r;
      description = description_of v r;
      closure = closure_of v r;
    }

-- the object at a row; fields that its kind does not have are unused bytes
unfoldable pub object_at : View → List ℕ → ℕ → Obj
object_at v area r = of_kind (standing v r (kind_from (code_of v r)) (bytes_of v area r))

-- the row of an id: the lowest live row that has it
abbrev pub has_id : View → ℕ → ℕ → Bool
has_id v o r = both (live_row v r) (eqb (id_of v r) o)

unfoldable pub row_of : View → ℕ → Option ℕ
row_of v o = first row_count (has_id v o)

-- link l leads from the object d to the object o
abbrev pub is_link : View → ℕ → ℕ → ℕ → Bool
is_link v d o l = both (live_link v l) (both (eqb (id_of v (from_of v l)) d) (eqb (id_of v (to_of v l)) o))

unfoldable pub world_of : View → List ℕ → World
world_of v area =
    record {
      next = next_of v;
      root = root_of v;
      obj = λ o. on_found (row_of v o) (object_at v area) nothing;
      linked = λ d o. any link_count (is_link v d o);
    }
