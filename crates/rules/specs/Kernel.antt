-- The rules of docs/RULES.md as definitions that compute: what the kernel holds, the calls as data, and for
-- any world, caller and call the answer, the value, the output and the world after. There are no positions
-- here: objects go by id, links are pairs of ids, bytes lie in their segment. `RULES 3.4: ".."` quotes rule
-- 3.4 of that page.
use Rattle.std.specs.Prelude.{ℕ, zero, suc, ◌+◌, ◌*◌, ◌-◌, ◌/◌, ◌%◌, ◌^◌, Bool, true, false, not, cond, ◌&&◌, ◌||◌, List, [], ◌∷◌, ◌++◌, length, take, drop, replicate, eqb, leb, ℤ, pos, negsuc}
use Rattle.std.specs.Int.Bits.{bit_or}
use Rattle.labels.specs.declared.Label.{Label}
use Rattle.labels.specs.declared.Rule.{Rule}
use Rattle.labels.specs.declared.Rule.TheVariants.{Flows, FlowsHigh, FloorFlows, FlowsJoin, FlowsJoinHigh}
use Rattle.labels.specs.Core.{compare_b, unread, well_formed, has_room, with_pair, label_of, label_size, words_bytes, word_count, plain, star, level1, level2, level3, may_read}
use Rattle.quotas.specs.Sum.{Σ, when}
use Rattle.quotas.specs.Any.{any}

-- ---- numbers, each named once

-- RULES 1.1: "An object is of one of four kinds, each with a code: thread (1), gate (2), segment (3),
-- container (4)."
abbrev pub thread_code : ℕ
thread_code = 1

abbrev pub gate_code : ℕ
gate_code = 2

abbrev pub segment_code : ℕ
segment_code = 3

abbrev pub container_code : ℕ
container_code = 4

-- the last of them
abbrev pub max_code : ℕ
max_code = container_code

-- RULES 4.4: "The last number is 2305843009213693951, which is 2^61 - 1."
abbrev pub last_number : ℕ
last_number = 2305843009213693951

-- RULES 3.6: "The root's quota is 256 for good."
abbrev pub root_quota : ℕ
root_quota = 256

-- RULES 3.7: "The quota given to call 4 or 5 is at most 255, and 0 stands for a default: 8 for a container,
-- 5 for a segment."
abbrev pub segment_default : ℕ
segment_default = 5

abbrev pub container_default : ℕ
container_default = 8

abbrev pub max_quota : ℕ
max_quota = 255

-- RULES 1.6: "A container also has a mask, a number from 0 to 15 that forbids kinds: .." (a bit for each
-- kind)
abbrev pub mask_width : ℕ
mask_width = max_code

abbrev pub max_mask : ℕ
max_mask = 15

-- RULES 1.8: ".. the data area, 16,384 bytes in 256 blocks of 64." 8.12: "4 if k is above 253, .."
-- 8.14: "4 if the length is above 16,256." 8.11: "4 unless n is from -256 to 256."
abbrev pub block_size : ℕ
block_size = 64

abbrev pub max_block : ℕ
max_block = 253

abbrev pub max_length : ℕ
max_length = 16256

abbrev pub max_move : ℕ
max_move = 256

-- RULES 1.2: ".. a description of 32 bytes." 1.4: ".. 32 closure bytes." 8.16: "4 if the output has not 104
-- bytes."
abbrev pub text_size : ℕ
text_size = 32

abbrev pub look_size : ℕ
look_size = text_size + 8 + word_count * 8

-- ---- what the kernel holds

-- An id that no object has is absent.
pub data Kind : Type 0 where
  absent thread gate segment container : Kind

unfoldable pub kind_code : Kind → ℕ
kind_code absent = 0
kind_code thread = thread_code
kind_code gate = gate_code
kind_code segment = segment_code
kind_code container = container_code

-- the kind of a code
unfoldable pub kind_from : ℕ → Kind
kind_from n = cond (eqb n thread_code) thread (cond (eqb n gate_code) gate (cond (eqb n segment_code) segment (cond (eqb n container_code) container absent)))

unfoldable pub is_live : Kind → Bool
is_live k = not (eqb (kind_code k) 0)

unfoldable pub is_thread : Kind → Bool
is_thread k = eqb (kind_code k) thread_code

unfoldable pub is_gate : Kind → Bool
is_gate k = eqb (kind_code k) gate_code

unfoldable pub is_segment : Kind → Bool
is_segment k = eqb (kind_code k) segment_code

unfoldable pub is_container : Kind → Bool
is_container k = eqb (kind_code k) container_code

-- RULES 1.3: "A thread or a gate also has a clearance, which is a second label."
-- 2.15: "Star may stand in the label of a thread or gate, .."
unfoldable pub has_clearance : Kind → Bool
has_clearance k = is_thread k || is_gate k

-- RULES 1.2 to 1.6: an object. Fields that its kind does not have are blank, 0, false or empty.
pub record Obj : Type 0 where
  pub kind : Kind
  pub label : Label
  pub clearance : Label
  pub quota : ℕ
  pub fixed : Bool
  pub mask : ℕ
  pub bytes : List ℕ
  pub entry : ℕ
  pub description : List ℕ
  pub closure : List ℕ

unfoldable pub blank : Label
blank = record { default = 0; words = [] }

-- an object as it is made, by its fields: its quota is not fixed, and it has no bytes
abbrev pub plain_object : (kind : Kind) (label clearance : Label) (quota mask entry : ℕ) (description closure : List ℕ) → Obj
plain_object k l c q m e s x =
    record { kind = k; label = l; clearance = c; quota = q; fixed = false; mask = m; bytes = []; entry = e; description = s; closure = x }

unfoldable pub nothing : Obj
nothing = plain_object absent blank blank 0 0 0 [] []

-- RULES 4.1: "The book keeps the next number." 1.7: "A link puts an object into a container; .. One
-- container, the root, is linked nowhere." The next number, the root's id, the object of each id, and which
-- pairs (container, object) are linked.
pub record World : Type 0 where
  pub next : ℕ
  pub root : ℕ
  pub obj : ℕ → Obj
  pub linked : ℕ → ℕ → Bool

-- ---- units

-- the blocks of n bytes: one for each 64 that there are or begin
abbrev pub blocks_of : ℕ → ℕ
blocks_of n = (n + (block_size - 1)) / block_size

-- RULES 3.2: "A segment uses 1 unit, and 1 more for each 64 bytes that it has or begins: with n bytes, 1 + (n
-- + 63) / 64 rounded down."
unfoldable pub units : ℕ → ℕ
units n = 1 + blocks_of n

-- RULES 3.3: ".. the quotas of all that is linked in it. A segment linked in two containers counts in full in
-- each."
unfoldable pub charged : World → ℕ → ℕ
charged w d = Σ w.next (λ o. when (w.linked d o) (w.obj o).quota)

-- RULES 3.1: "A thread has quota 1 and uses 1 unit, and so does a gate." 3.3: "A container uses 1 unit and
-- the quotas of all that is linked in it." A segment's use is 3.2's.
unfoldable pub use_of : World → ℕ → ℕ
use_of w o =
    cond (is_container (w.obj o).kind) (1 + charged w o) (cond (is_segment (w.obj o).kind) (units (length (w.obj o).bytes)) 1)

-- RULES 3.4: "An object's spare is its quota minus the units it uses."
unfoldable pub spare_of : World → ℕ → ℕ
spare_of w o = (w.obj o).quota - use_of w o

-- RULES 3.5: "A segment holds the units that it uses; a thread, a gate or a container holds 1."
unfoldable pub hold_of : World → ℕ → ℕ
hold_of w o = cond (is_segment (w.obj o).kind) (use_of w o) 1

-- ---- changes: all that a granted call can do

-- one object's labels, its quota fixed, its quota moved, or its bytes
pub data Edit : Type 0 where
  relabel : (label clearance : Label) → Edit
  fix : Edit
  requota : (quota : ℕ) → Edit
  rewrite : (bytes : List ℕ) → Edit

-- an object with these of its fields new; the others are never altered
abbrev pub altered : Obj → (label clearance : Label) (quota : ℕ) (fixed : Bool) (bytes : List ℕ) → Obj
altered o l c q f b =
    record { kind = o.kind; label = l; clearance = c; quota = q; fixed = f; mask = o.mask; bytes = b; entry = o.entry; description = o.description; closure = o.closure }

unfoldable pub edit : Edit → Obj → Obj
edit (relabel l c) o = altered o l c o.quota o.fixed o.bytes
edit fix o = altered o o.label o.clearance o.quota true o.bytes
edit (requota q) o = altered o o.label o.clearance q o.fixed o.bytes
edit (rewrite b) o = altered o o.label o.clearance o.quota o.fixed b

-- nothing (calls 12 and 16), one object altered (1 to 3, 10, 11 and 13 to 15), one created in a container (4 to 7), one
-- link cut with all that hangs on it (8), one segment linked (9)
pub data Change : Type 0 where
  keep : Change
  alter : (object : ℕ) → Edit → Change
  create : (container : ℕ) → Obj → Change
  cut : (container object : ℕ) → Change
  link : (container object : ℕ) → Change

unfoldable pub put : ℕ → Obj → (ℕ → Obj) → ℕ → Obj
put i x f j = cond (eqb j i) x (f j)

unfoldable pub link_in : ℕ → ℕ → (ℕ → ℕ → Bool) → ℕ → ℕ → Bool
link_in d o f e p = (eqb e d && eqb p o) || f e p

-- e is k links below o
unfoldable pub under : World → ℕ → ℕ → ℕ → Bool
under w o zero e = eqb e o
under w o (suc k) e = any w.next (λ d. cond (w.linked d e) (under w o k d) false)

-- RULES 8.8: ".. and so on downwards": the quota falls along every link, so no way down is as long as the
-- root's quota
unfoldable pub below : World → ℕ → ℕ → Bool
below w o e = any root_quota (λ k. under w o k e)

-- RULES 8.8: "The link of O in D goes, and all other links in D stay. .. If it is a container, all links in
-- it go too, .." So the link (e, p) stays if it is not the one cut, nor in what hangs on it.
unfoldable pub stays : World → ℕ → ℕ → ℕ → ℕ → Bool
stays w d o e p = cond (w.linked e p) (not (eqb e d && eqb p o) && not (below w o e)) false

-- RULES 8.8: "An object that is linked nowhere any more is freed, except the root."
unfoldable pub kept : World → ℕ → ℕ → ℕ → Bool
kept w d o p = eqb p w.root || any w.next (λ e. stays w d o e p)

-- RULES 4.2: "Each call uses up its number, granted or refused, and the next number is then one higher."
unfoldable pub apply : Change → World → World
apply keep w = record { next = suc w.next; root = w.root; obj = w.obj; linked = w.linked }
apply (alter o e) w = record { next = suc w.next; root = w.root; obj = put o (edit e (w.obj o)) w.obj; linked = w.linked }
apply (create d x) w =
    record { next = suc w.next; root = w.root; obj = put w.next x w.obj; linked = link_in d w.next w.linked }
apply (cut d o) w =
    record { next = suc w.next; root = w.root; obj = λ p. cond (kept w d o p) (w.obj p) nothing; linked = stays w d o }
apply (link d o) w = record { next = suc w.next; root = w.root; obj = w.obj; linked = link_in d o w.linked }

-- ---- the calls, with their arguments as they are lent

-- RULES 8.1 to 8.16, each with what stands in brackets there. A label, clearance, description or closure is
-- the bytes lent, of any length; an output is its length.
pub data Call : Type 0 where
  create_category : Call
  set_label : (label : List ℕ) → Call
  set_clearance : (clearance : List ℕ) → Call
  create_container : (d : ℕ) (label description : List ℕ) (mask quota : ℕ) → Call
  create_segment : (d : ℕ) (label description : List ℕ) (quota : ℕ) → Call
  create_gate : (d : ℕ) (label clearance : List ℕ) (entry : ℕ) (closure description : List ℕ) → Call
  create_thread : (d : ℕ) (label clearance description : List ℕ) → Call
  unreference : (d o : ℕ) → Call
  link_segment : (d1 o d : ℕ) → Call
  fix_quota : (d o : ℕ) → Call
  move_quota : (d o : ℕ) (n : ℤ) → Call
  read : (d s k from count : ℕ) → Call
  write : (d s k from count : ℕ) (bytes : List ℕ) → Call
  resize : (d s size : ℕ) → Call
  enter_gate : (d g : ℕ) (labelR clearanceR labelV : List ℕ) (out : ℕ) → Call
  look : (d o : ℕ) (out : ℕ) → Call

-- ---- answer 4. RULES 6.4: "An argument is malformed or above its limit, or an input or output that is lent
-- has not the length it should have."

-- RULES 8: "Any call is refused by 4 if a label or clearance that it is given has not 65 bytes or is not well
-- formed, .." 2.15: "Star may stand in the label of a thread or gate, in the label of call 2, and in L_R and
-- L_V of call 15. It may stand in no clearance, and in no label of a segment or container."
unfoldable pub good_label : ℕ → Bool → List ℕ → Bool
good_label n starred b = eqb (length b) label_size && well_formed n starred (label_of b)

-- RULES 8: ".. or if a description or closure has not 32 bytes."
unfoldable pub good_text : List ℕ → Bool
good_text b = eqb (length b) text_size

-- RULES 2.16: "Arguments must be well formed below the call's own number, .." This is n.
unfoldable pub good_arguments : ℕ → Call → Bool
good_arguments n create_category = true
good_arguments n (set_label l) = good_label n true l
good_arguments n (set_clearance c) = good_label n false c
-- RULES 8.4: "4 also if the mask is above 15 or the quota above 255."
good_arguments n (create_container d l s m q) = good_label n false l && (good_text s && (leb m max_mask && leb q max_quota))
-- RULES 8.5: "4 also if the quota is above 255; .."
good_arguments n (create_segment d l s q) = good_label n false l && (good_text s && leb q max_quota)
good_arguments n (create_gate d l c e x s) = good_label n true l && (good_label n false c && (good_text x && good_text s))
good_arguments n (create_thread d l c s) = good_label n true l && (good_label n false c && good_text s)
-- RULES 6.4: "Any number will do for an id."
good_arguments n (unreference d o) = true
good_arguments n (link_segment d1 o d) = true
good_arguments n (fix_quota d o) = true
-- RULES 8.11: "4 unless n is from -256 to 256."
good_arguments n (move_quota d o (pos m)) = leb m max_move
good_arguments n (move_quota d o (negsuc m)) = leb (suc m) max_move
-- RULES 8.12: "4 if k is above 253, or if from + count, reckoned without overflow, is above 64."
good_arguments n (read d s k f m) = leb k max_block && leb (f + m) block_size
-- RULES 8.13: "4 as in 8.12, and unless there are exactly count bytes."
good_arguments n (write d s k f m b) = leb k max_block && (leb (f + m) block_size && eqb (length b) m)
-- RULES 8.14: "4 if the length is above 16,256."
good_arguments n (resize d s m) = leb m max_length
-- RULES 8.15: "4 also if the output has not 32 bytes."
good_arguments n (enter_gate d g lr cr lv out) = good_label n true lr && (good_label n false cr && (good_label n true lv && eqb out text_size))
-- RULES 8.16: "4 if the output has not 104 bytes."
good_arguments n (look d o out) = eqb out look_size

-- ---- answer 7. RULES 6.7: "One of the label conditions of the call does not hold."

-- a comparison (RULES 2.7 to 2.13) with its labels
pub record Condition : Type 0 where
  pub rule : Rule
  pub x : Label
  pub y : Label
  pub z : Label

unfoldable pub holds : Condition → Bool
holds q = compare_b q.rule q.x q.y q.z

unfoldable pub all_hold : List Condition → Bool
all_hold [] = true
all_hold (q ∷ qs) = cond (holds q) (all_hold qs) false

-- x flows to y: RULES 2.7
unfoldable pub flow : Label → Label → Condition
flow x y = record { rule = Flows; x = x; y = y; z = unread }

-- RULES 2.12: "T may read O if O's label flows to high(T's label)."
unfoldable pub reading : Label → Label → List Condition
reading t o = record { rule = FlowsHigh; x = o; y = t; z = unread } ∷ []

-- RULES 2.13: "T may write O if T's label flows to O's label and T may read O."
unfoldable pub writing : Label → Label → List Condition
writing t o = flow t o ∷ reading t o

-- floor(x, y) flows to z: RULES 2.10
unfoldable pub floor_flow : Label → Label → Label → Condition
floor_flow x y z = record { rule = FloorFlows; x = x; y = y; z = z }

-- x flows to join(y, z): RULES 2.9
unfoldable pub flow_join : Label → Label → Label → Condition
flow_join x y z = record { rule = FlowsJoin; x = x; y = y; z = z }

-- x flows to join(y, high(z)): RULES 2.8, 2.9
unfoldable pub flow_join_high : Label → Label → Label → Condition
flow_join_high x y z = record { rule = FlowsJoinHigh; x = x; y = y; z = z }

-- ---- refusals in order of check

-- what a refused call is told: a number
pub data Refusal : Type 0 where
  by : (number : ℕ) → Refusal

abbrev pub number_of : Refusal → ℕ
number_of (by k) = k

-- RULES 6.14: "A refused call has value 0."
abbrev pub value_with : Refusal → ℕ
value_with (by k) = 0

-- refused, or granted with a value, output bytes and a change
pub data Verdict : Type 0 where
  refused : Refusal → Verdict
  grant : (value : ℕ) (output : List ℕ) → Change → Verdict

abbrev pub refuse : ℕ → Verdict
refuse k = refused (by k)

-- RULES 6: "The first number that applies is the answer." Unless the test holds, refused so.
unfoldable pub unless : Bool → Refusal → Verdict → Verdict
unless true f r = r
unless false f r = refused f

-- unless the test holds, refused by k
unfoldable pub must : Bool → ℕ → Verdict → Verdict
must p k r = unless p (by k) r

-- RULES 6.7: "One of the label conditions of the call does not hold." What it is told then.
unfoldable pub why_not : List Condition → Refusal
why_not conditions = by 7

-- all these conditions, else 7
unfoldable pub must_hold : List Condition → Verdict → Verdict
must_hold conditions r = unless (all_hold conditions) (why_not conditions) r

-- RULES 6.5: "A container that the call names does not exist, is an object of another kind, or may not be
-- read by the caller; .."
unfoldable pub opens : World → Obj → ℕ → Bool
opens w t d = is_container (w.obj d).kind && may_read t.label (w.obj d).label

-- RULES 6.5: ".. or the object named with it is not linked in it." 6.15: "A pair (D, O) is an entry for the
-- caller T if D is a container, T may read D, and O is linked in D."
unfoldable pub entry : World → Obj → ℕ → ℕ → Bool
entry w t d o = opens w t d && w.linked d o

-- RULES 1.6: ".. bit 0 forbids threads, bit 1 gates, bit 2 segments and bit 3 containers."
unfoldable pub forbids : ℕ → Kind → Bool
forbids m k = eqb (m / 2 ^ (kind_code k - 1) % 2) 1

-- RULES 6.13: "There is not enough to spare." Here is enough in o, for n units more.
unfoldable pub fits : World → ℕ → ℕ → Bool
fits w o n = leb n (spare_of w o)

-- RULES 3.7: ".. 0 stands for a default .."
unfoldable pub or_default : ℕ → ℕ → ℕ
or_default q d = cond (eqb q 0) d q

-- RULES 8.4, for calls 4 to 7: "5 unless D is a container that T may read. 7 unless T may write D, T flows to
-- the new label, that flows to the new clearance if there is one, and the last of these flows to T's
-- clearance. 8 if D's mask forbids the kind. 13 if the new quota is above D's spare. The object is made with
-- the call's own number as its id, and linked in D. Value: its id."
unfoldable pub make : World → Obj → ℕ → Obj → List Condition → Verdict
make w t d x more =
    must (opens w t d) 5
    (must_hold (writing t.label (w.obj d).label ++ (flow t.label x.label ∷ more))
    (must (not (forbids (w.obj d).mask x.kind)) 8
    (must (fits w d x.quota) 13
    (grant w.next [] (create d x)))))

unfoldable pub container_of : Label → List ℕ → ℕ → ℕ → Obj
container_of l s m q = plain_object container l blank q m 0 s []

-- RULES 8.5: "The segment has no bytes yet, and its quota is not fixed."
unfoldable pub segment_of : Label → List ℕ → ℕ → Obj
segment_of l s q = plain_object segment l blank q 0 0 s []

-- RULES 8.6: ".. with quota 1."
unfoldable pub gate_of : Label → Label → ℕ → List ℕ → List ℕ → Obj
gate_of l c e x s = plain_object gate l c 1 0 e s x

-- RULES 8.7: ".. with quota 1."
unfoldable pub thread_of : Label → Label → List ℕ → Obj
thread_of l c s = plain_object thread l c 1 0 0 s []

-- RULES 8.1: "T's clearance gets level 3 there, by a pair unless its default is level 3."
unfoldable pub cleared_at : ℕ → Label → Label
cleared_at n c = cond (eqb c.default level3) c (with_pair n level3 c)

-- RULES 8.16: "Output: the description in 32 bytes; the kind's code; 1, for a label that is shown; the
-- label's default code; five zeros; the eight words in eight bytes each, the lowest first. If O is a thread
-- that T may not read, all bytes after the kind's code are 0."
unfoldable pub look_bytes : Label → Obj → List ℕ
look_bytes t x =
    x.description
    ++ (kind_code x.kind
    ∷ cond (is_thread x.kind && not (may_read t x.label)) (replicate (7 + word_count * 8) 0) (1 ∷ x.label.default ∷ (replicate 5 0 ++ words_bytes x.label.words)))

-- RULES 8.13: "The bytes take the place of those in S from 64k + from on." Here b takes it from `from` on.
unfoldable pub overwrite : ℕ → List ℕ → List ℕ → List ℕ
overwrite from b bytes = take from bytes ++ (b ++ drop (from + length b) bytes)

-- RULES 8.14: "S gets that length. Bytes that it gains are zero, .."
unfoldable pub resized : ℕ → List ℕ → List ℕ
resized n bytes = take n bytes ++ replicate (n - length bytes) 0

-- RULES 8.11: "5 unless (D, O) is an entry. 6 unless O is a segment or a container. 7 unless T may write D, T
-- flows to O, O flows to T's clearance and, .. 9 if O's quota is fixed." `more` is the condition for n below
-- 0, `rest` the test 13.
unfoldable pub move : World → Obj → ℕ → ℕ → List Condition → Verdict → Verdict
move w t d o more rest =
    must (entry w t d o) 5
    (must (is_segment (w.obj o).kind || is_container (w.obj o).kind) 6
    (must_hold (writing t.label (w.obj d).label ++ (flow t.label (w.obj o).label ∷ flow (w.obj o).label t.clearance ∷ more))
    (must (not (w.obj o).fixed) 9 rest)))

-- RULES 8.12 to 8.14: "5 unless (D, S) is an entry. 6 unless S is a segment." Then 7, by the call's own
-- conditions.
unfoldable pub access : World → Obj → ℕ → ℕ → List Condition → Verdict → Verdict
access w t d s conditions rest =
    must (entry w t d s) 5
    (must (is_segment (w.obj s).kind) 6
    (must_hold conditions rest))

-- RULES 8.1 to 8.16: the tests from 5 on, and what is granted; t is the caller's object, c its id.
unfoldable pub judge : World → Obj → ℕ → Call → Verdict
-- RULES 8.1: "12 if T's label has eight pairs, or if T's clearance has eight and its default is not level 3.
-- T's label gets star at the new category. T's clearance gets level 3 there, .. Value: the category, which is
-- the call's own number."
judge w t c create_category =
    must (has_room t.label && (eqb t.clearance.default level3 || has_room t.clearance)) 12
    (grant w.next [] (alter c (relabel (with_pair w.next star t.label) (cleared_at w.next t.clearance))))
-- RULES 8.2: "7 unless T flows to L and L flows to T's clearance. T's label becomes L."
judge w t c (set_label l) =
    must_hold (flow t.label (label_of l) ∷ flow (label_of l) t.clearance ∷ [])
    (grant 0 [] (alter c (relabel (label_of l) t.clearance)))
-- RULES 8.3: "7 unless T flows to C and C flows to join(T's clearance, high(T)). T's clearance becomes C."
judge w t c (set_clearance x) =
    must_hold (flow t.label (label_of x) ∷ flow_join_high (label_of x) t.clearance t.label ∷ [])
    (grant 0 [] (alter c (relabel t.label (label_of x))))
-- RULES 8.4: "The new mask has the bits given and those of D's mask." The rest of 8.4 to 8.7 is `make`.
judge w t c (create_container d l s m q) =
    make w t d (container_of (label_of l) s (bit_or m (w.obj d).mask) (or_default q container_default)) (flow (label_of l) t.clearance ∷ [])
judge w t c (create_segment d l s q) = make w t d (segment_of (label_of l) s (or_default q segment_default)) (flow (label_of l) t.clearance ∷ [])
judge w t c (create_gate d l k e x s) =
    make w t d (gate_of (label_of l) (label_of k) e x s) (flow (label_of l) (label_of k) ∷ flow (label_of k) t.clearance ∷ [])
judge w t c (create_thread d l k s) =
    make w t d (thread_of (label_of l) (label_of k) s) (flow (label_of l) (label_of k) ∷ flow (label_of k) t.clearance ∷ [])
-- RULES 8.8: "5 unless (D, O) is an entry. 7 unless T may write D. The link of O in D goes, .."
judge w t c (unreference d o) =
    must (entry w t d o) 5
    (must_hold (writing t.label (w.obj d).label)
    (grant 0 [] (cut d o)))
-- RULES 8.9: "5 unless (D1, O) is an entry, D is a container and T may read D. 6 unless O is a segment. 7
-- unless T may write D and O flows to T's clearance. 8 if D's mask forbids segments. 9 unless O's quota is
-- fixed. 10 if O is linked in D already. 13 if O's quota is above D's spare. O is then linked in D as well."
judge w t c (link_segment d1 o d) =
    must (entry w t d1 o && opens w t d) 5
    (must (is_segment (w.obj o).kind) 6
    (must_hold (writing t.label (w.obj d).label ++ (flow (w.obj o).label t.clearance ∷ []))
    (must (not (forbids (w.obj d).mask segment)) 8
    (must (w.obj o).fixed 9
    (must (not (w.linked d o)) 10
    (must (fits w d (w.obj o).quota) 13
    (grant 0 [] (link d o))))))))
-- RULES 8.10: "5 unless (D, O) is an entry. 6 unless O is a segment. 7 unless T may write D and T flows to O.
-- O's quota is fixed for good; if it was fixed before, nothing changes."
judge w t c (fix_quota d o) =
    must (entry w t d o) 5
    (must (is_segment (w.obj o).kind) 6
    (must_hold (writing t.label (w.obj d).label ++ (flow t.label (w.obj o).label ∷ []))
    (grant 0 [] (alter o fix))))
-- RULES 8.11: "13 if n is above D's spare, or if n is below 0 and -n is above O's spare. n is added to O's
-- quota." Test 7, 8.11: ".. for n below 0, O flows to high(T)."
judge w t c (move_quota d o (pos n)) =
    move w t d o []
    (must (fits w d n) 13
    (grant 0 [] (alter o (requota ((w.obj o).quota + n)))))
judge w t c (move_quota d o (negsuc n)) =
    move w t d o (reading t.label (w.obj o).label)
    (must (fits w o (suc n)) 13
    (grant 0 [] (alter o (requota ((w.obj o).quota - suc n)))))
-- RULES 8.12: "7 unless T may read S. 11 if 64k + from + count is above S's length, even if count is 0. The
-- output is the part of the data area that has the bytes of S from 64k + from on, count of them; .."
judge w t c (read d s k f n) =
    access w t d s (reading t.label (w.obj s).label)
    (must (leb (block_size * k + f + n) (length (w.obj s).bytes)) 11
    (grant 0 (take n (drop (block_size * k + f) (w.obj s).bytes)) keep))
-- RULES 8.13: "7 unless T may write S. 11 as in 8.12. The bytes take the place of those in S from 64k + from
-- on."
judge w t c (write d s k f n b) =
    access w t d s (writing t.label (w.obj s).label)
    (must (leb (block_size * k + f + n) (length (w.obj s).bytes)) 11
    (grant 0 [] (alter s (rewrite (overwrite (block_size * k + f) b (w.obj s).bytes)))))
-- RULES 8.14: "7 unless T may write S. 13 if a segment of that length uses more units than S's quota has. S
-- gets that length. Bytes that it gains are zero, .."
judge w t c (resize d s n) =
    access w t d s (writing t.label (w.obj s).label)
    (must (leb (units n) (w.obj s).quota) 13
    (grant 0 [] (alter s (rewrite (resized n (w.obj s).bytes)))))
-- RULES 8.15: "5 unless (D, G) is an entry. 6 unless G is a gate. 7 unless T flows to G's clearance, T flows
-- to L_V, floor(T, G) flows to L_R, L_R flows to C_R, and C_R flows to join(T's clearance, G's clearance).
-- T's label becomes L_R, and its clearance C_R. Value: G's entry number. Output: G's closure bytes."
judge w t c (enter_gate d g lr cr lv out) =
    must (entry w t d g) 5
    (must (is_gate (w.obj g).kind) 6
    (must_hold
    (flow t.label (w.obj g).clearance ∷ flow t.label (label_of lv) ∷ floor_flow t.label (w.obj g).label (label_of lr)
    ∷ flow (label_of lr) (label_of cr) ∷ flow_join (label_of cr) t.clearance (w.obj g).clearance ∷ [])
    (grant (w.obj g).entry (w.obj g).closure (alter c (relabel (label_of lr) (label_of cr))))))
-- RULES 8.16: "5 unless D is a container that T may read, and O is D itself or is linked in D; no other call
-- takes (D, D) for an entry."
judge w t c (look d o out) =
    must (opens w t d && (eqb o d || w.linked d o)) 5
    (grant 0 (look_bytes t.label (w.obj o)) keep)

-- RULES 6.3: "The caller's id is not that of a live thread." Then 6.4, and the tests from 5 on.
unfoldable pub tests : World → ℕ → Call → Verdict
tests w c x =
    must (is_thread (w.obj c).kind) 3
    (must (good_arguments w.next x) 4
    (judge w (w.obj c) c x))

-- RULES 6.2: "The next number is above the last (4.4)." So this is the whole order of check, but for 6.1,
-- which is about the areas: a world has none.
unfoldable pub call : World → ℕ → Call → Verdict
call w c x = must (leb w.next last_number) 2 (tests w c x)

-- ---- what a call answers and leaves

-- RULES 6: "If none applies the call is granted, and the answer is 0."
unfoldable pub answer_of : Verdict → ℕ
answer_of (refused r) = number_of r
answer_of (grant v b h) = 0

-- RULES 6.14: "A refused call has value 0."
unfoldable pub value_of : Verdict → ℕ
value_of (refused r) = value_with r
value_of (grant v b h) = v

-- RULES 6.14: "It leaves both areas and every output as they were, .."
unfoldable pub output_of : Verdict → List ℕ
output_of (refused r) = []
output_of (grant v b h) = b

-- RULES 6.14: "It leaves both areas and every output as they were, unused bytes too, but for the next number
-- (4.2)." 4.2: "Only answers 1 and 2 use up none."
unfoldable pub leaves : Verdict → World → World
leaves (refused r) w = cond (leb (number_of r) 2) w (apply keep w)
leaves (grant v b h) w = apply h w

unfoldable pub after : World → ℕ → Call → World
after w c x = leaves (call w c x) w

-- ---- Start

-- RULES 7.1: "Start takes a first number f, at least 1 and at most 2305843009213693949."
unfoldable pub startable : ℕ → Bool
startable f = leb 1 f && leb f (last_number - 2)

-- RULES 7.3: "Container f becomes the root, with label {1}, quota 256 and mask 0; thread f + 1 is linked in
-- it, with label {1} and clearance {2}; both descriptions are zeros." 7.4: "The next number is f + 2."
unfoldable pub start : ℕ → World
start f =
    record {
      next = f + 2;
      root = f;
      obj =
          put f (container_of (plain level1) (replicate text_size 0) 0 root_quota)
          (put (f + 1) (thread_of (plain level1) (plain level2) (replicate text_size 0)) (λ o. nothing));
      linked = λ d o. eqb d f && eqb o (f + 1);
    }

-- ---- histories: a world to begin with, then any calls of any callers

pub data History : Type 0 where
  beginning : World → History
  next : History → (caller : ℕ) → Call → History

-- Start is one such beginning
abbrev pub started : ℕ → History
started f = beginning (start f)

unfoldable pub world_after : History → World
world_after (beginning w) = w
world_after (next h c x) = after (world_after h) c x
