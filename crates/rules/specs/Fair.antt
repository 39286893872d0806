-- What the change of a granted call is known to respect. proofs/Laws/Grants shows it of every granted call, proofs/Laws/Keep that such a change keeps a world sound.
use Rattle.std.specs.Prelude.{ℕ, suc, ◌+◌, ◌≤◌, true, false, ◌||◌, ◌≡◌, List, [], length}
use Rattle.std.specs.Int.Bits.{bit_or}
use Rattle.labels.specs.declared.Label.{Label}
use Rattle.labels.specs.Core.{well_formed, flows, word_count}
use Rattle.rules.specs.Kernel.{is_live, is_thread, is_segment, is_container, has_clearance, Obj, World, relabel, fix, requota, rewrite, Change, keep, alter, create, cut, link}
use Rattle.rules.specs.Kernel.{units, use_of, max_length}
use Rattle.rules.specs.Sound.{InRange, Formed}

-- what soundness says of one object alone, against the number n
pub record Whole (n : ℕ) (x : Obj) : Type 0 where
  pub range : InRange x
  pub formed : Formed n x
  pub cleared : has_clearance x.kind ≡ true → flows x.label x.clearance ≡ true

-- a thread's new label and clearance, good from the next number on
pub record Relabelled (w : World) (o : ℕ) (l c : Label) : Type 0 where
  pub is_thread_lem : is_thread (w.obj o).kind ≡ true
  pub label : well_formed (suc w.next) true l ≡ true
  pub clearance : well_formed (suc w.next) false c ≡ true
  pub label_words_lem : length l.words ≡ word_count
  pub clearance_words : length c.words ≡ word_count
  pub cleared : flows l c ≡ true

-- the quota of o, held by d alone, becomes q
pub record Moved (w : World) (o q : ℕ) : Type 0 where
  pub holder : ℕ
  pub is_linked : w.linked holder o ≡ true
  pub movable : (is_segment (w.obj o).kind || is_container (w.obj o).kind) ≡ true
  pub not_fixed : (w.obj o).fixed ≡ false
  pub room : use_of w holder + q ≤ (w.obj holder).quota + (w.obj o).quota
  pub some : 1 ≤ q
  pub own : use_of w o ≤ q

pub record Rewritten (w : World) (o : ℕ) (b : List ℕ) : Type 0 where
  pub is_segment_lem : is_segment (w.obj o).kind ≡ true
  pub within : units (length b) ≤ (w.obj o).quota
  pub short : length b ≤ max_length

pub record Made (w : World) (d : ℕ) (x : Obj) : Type 0 where
  pub is_container_lem : is_container (w.obj d).kind ≡ true
  pub room : use_of w d + x.quota ≤ (w.obj d).quota
  pub is_live_lem : is_live x.kind ≡ true
  pub whole : Whole (suc w.next) x
  pub not_fixed : x.fixed ≡ false
  pub empty : x.bytes ≡ []
  pub masked : is_container x.kind ≡ true → bit_or x.mask (w.obj d).mask ≡ x.mask

pub record Linked (w : World) (d o : ℕ) : Type 0 where
  pub is_container_lem : is_container (w.obj d).kind ≡ true
  pub is_segment_lem : is_segment (w.obj o).kind ≡ true
  pub is_fixed_lem : (w.obj o).fixed ≡ true
  pub is_new : w.linked d o ≡ false
  pub room : use_of w d + (w.obj o).quota ≤ (w.obj d).quota

abbrev pub Fair : World → Change → Type 0
Fair w keep = Unit {0}
Fair w (alter o (relabel l c)) = Relabelled w o l c
Fair w (alter o fix) = is_segment (w.obj o).kind ≡ true
Fair w (alter o (requota q)) = Moved w o q
Fair w (alter o (rewrite b)) = Rewritten w o b
Fair w (create d x) = Made w d x
Fair w (cut d o) = w.linked d o ≡ true
Fair w (link d o) = Linked w d o
