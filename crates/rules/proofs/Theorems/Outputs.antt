-- What calls put out: how many bytes, and that refused calls and calls without an output put out none.
use Rattle.std.specs.Prelude.{ℕ, ◌+◌, ◌*◌, Bool, true, false, not, cond, ◌&&◌, ◌||◌, ◌≡◌, List, [], ◌∷◌, ◌++◌, eqb, leb, pos, negsuc, length, take, drop, replicate}
use Rattle.std.proofs.Math.Path.{refl, subst}
use Rattle.std.proofs.Common.{sym, ◌∙◌, ap, arith, length-append, leb-true, eqb-true}
use Rattle.labels.specs.declared.Label.{Label}
use Rattle.labels.specs.Core.{may_read, word_count, words_bytes}
use Rattle.labels.specs.Core.Bytes.{words_bytes_length}
use Rattle.rules.specs.Kernel.{is_live, is_thread, is_gate, Obj, World, Call, create_category, set_label, set_clearance, create_container, create_segment, create_gate, create_thread}
use Rattle.rules.specs.Kernel.{unreference, link_segment, fix_quota, move_quota, read, write, resize, enter_gate, look, Change, Verdict, refused, grant, opens, entry, look_bytes}
use Rattle.rules.specs.Kernel.{text_size, look_size, judge, call, answer_of, output_of, block_size}
use Rattle.rules.specs.Sound.{InRange, Sound}
use Rattle.rules.specs.Answers.{output_size}
use Rattle.rules.proofs.Laws.Bools.{and_l, and_r, or_cases}
use Rattle.rules.proofs.Laws.Kinds.{container_live, gate_cleared, cleared_live}
use Rattle.rules.proofs.Laws.Must.{must_test, must_rest, passed}
use Rattle.rules.proofs.Laws.Entries.{opens_container}
use Rattle.rules.proofs.Laws.Lengths.{taken_length}
use Rattle.rules.proofs.Laws.Outcome.{outcome, call_outcome, access_outcome}
use Rattle.rules.proofs.Theorems.Refusals.{granted}

-- what is seen of an object in its ranges
look_length : (t : Label) (x : Obj) → InRange x → length (look_bytes t x) ≡ look_size
unfolding look_bytes
look_length t x r =
    simp length-append (let d = r.description_size in let e = rest (is_thread x.kind && not (may_read t x.label)) in omega arith)
  where
    rest : (b : Bool) → length (cond b (replicate (7 + word_count * 8) 0) (1 ∷ x.label.default ∷ (replicate 5 0 ++ words_bytes x.label.words))) ≡ 7 + word_count * 8
    rest true = refl
    rest false = simp length-append (let w = words_bytes_length x.label.words in let e = r.label_words_lem in omega arith)

module _ (w : World) (s : Sound w) (c v : ℕ) (b : List ℕ) (h : Change) where
  abbrev t : Obj
  t = w.obj c

  read_size : (d o k f n : ℕ) → judge w t c (read d o k f n) ≡ grant v b h → length (take n (drop (block_size * k + f) (w.obj o).bytes)) ≡ n
  unfolding judge
  read_size d o k f n e =
      let within = must_test v b h (leb (block_size * k + f + n) (length (w.obj o).bytes)) 11 _ (access_outcome w t c v b h d o _ _ e) in
      taken_length (block_size * k + f) n (w.obj o).bytes (leb-true (block_size * k + f + n) (length (w.obj o).bytes) within)

  enter_size : (d g : ℕ) (lr cr lv : List ℕ) (out : ℕ) → judge w t c (enter_gate d g lr cr lv out) ≡ grant v b h → length (w.obj g).closure ≡ text_size
  unfolding judge
  enter_size d g lr cr lv out e =
      let k = must_test v b h (is_gate (w.obj g).kind) 6 _ (must_rest v b h (entry w t d g) 5 _ e) in
      (s.ranges g (cleared_live (w.obj g).kind (gate_cleared (w.obj g).kind k))).closure_size k

  look_live : (d o out : ℕ) → judge w t c (look d o out) ≡ grant v b h → is_live (w.obj o).kind ≡ true
  unfolding judge
  look_live d o out e =
      let p = must_test v b h (opens w t d && (eqb o d || w.linked d o)) 5 _ e in
      let q = and_l (opens w t d) (eqb o d || w.linked d o) p in
      let k = container_live (w.obj d).kind (opens_container w t d q) in
      or_cases (eqb o d) (w.linked d o) (and_r (opens w t d) (eqb o d || w.linked d o) p)
      (λ e. subst (λ (i : ℕ). is_live (w.obj i).kind ≡ true) (sym (eqb-true o d e)) k)
      (s.tree.held d o)

  granted_size : (x : Call) → judge w t c x ≡ grant v b h → length (output_of (outcome w t c x)) ≡ output_size x
  unfolding output_of outcome output_size
  granted_size create_category e = refl
  granted_size (set_label l) e = refl
  granted_size (set_clearance l) e = refl
  granted_size (create_container d l x m q) e = refl
  granted_size (create_segment d l x q) e = refl
  granted_size (create_gate d l y z u x) e = refl
  granted_size (create_thread d l y x) e = refl
  granted_size (unreference d o) e = refl
  granted_size (link_segment d1 o d) e = refl
  granted_size (fix_quota d o) e = refl
  granted_size (move_quota d o (pos n)) e = refl
  granted_size (move_quota d o (negsuc n)) e = refl
  granted_size (read d o k f n) e = read_size d o k f n e
  granted_size (write d o k f n a) e = refl
  granted_size (resize d o n) e = refl
  granted_size (enter_gate d g lr cr lv out) e = enter_size d g lr cr lv out e
  granted_size (look d o out) e = look_length t.label (w.obj o) (s.ranges o (look_live d o out e))

-- a grant's output is the outcome's
output_is : (w : World) (c : ℕ) (x : Call) (v : ℕ) (b : List ℕ) (h : Change) → call w c x ≡ grant v b h → output_of (outcome w (w.obj c) c x) ≡ b
unfolding output_of
output_is w c x v b h e = ap output_of (call_outcome w c x v b h e)

-- In a sound world a granted call puts out exactly its bytes: call 12 the count asked for, call 15 32, call 16 104, every other call none.
pub granted_output : (w : World) → Sound w → (c : ℕ) (x : Call) → answer_of (call w c x) ≡ 0 → length (output_of (call w c x)) ≡ output_size x
granted_output w s c x a =
    let g = granted w c x a in
    let p = passed w c x _ _ _ g.verdict in
    sym (ap length (output_is w c x _ _ _ g.verdict)) ∙ granted_size w s c _ _ _ x p.judged

no_outcome : (w : World) (c : ℕ) (y : Call) → output_size y ≡ 0 → output_of (outcome w (w.obj c) c y) ≡ []
unfolding output_of outcome output_size
no_outcome w c create_category e = refl
no_outcome w c (set_label l) e = refl
no_outcome w c (set_clearance l) e = refl
no_outcome w c (create_container d l x m q) e = refl
no_outcome w c (create_segment d l x q) e = refl
no_outcome w c (create_gate d l y z u x) e = refl
no_outcome w c (create_thread d l y x) e = refl
no_outcome w c (unreference d o) e = refl
no_outcome w c (link_segment d1 o d) e = refl
no_outcome w c (fix_quota d o) e = refl
no_outcome w c (move_quota d o (pos n)) e = refl
no_outcome w c (move_quota d o (negsuc n)) e = refl
no_outcome w c (read d o k f n) e = rw e
no_outcome w c (write d o k f n a) e = refl
no_outcome w c (resize d o n) e = refl
no_outcome w c (enter_gate d g lr cr lv out) e = absurd (omega arith)
no_outcome w c (look d o out) e = absurd (omega arith)

-- In every world a call that has no output puts out none, granted or refused; that a refused call puts out none is `refused_output` in Refusals.
pub no_output : (w : World) (c : ℕ) (x : Call) → output_size x ≡ 0 → output_of (call w c x) ≡ []
unfolding output_of
no_output w c x z = go (call w c x) refl
  where
    go : (r : Verdict) → call w c x ≡ r → output_of r ≡ []
    go (refused f) e = refl
    go (grant v b h) e = sym (output_is w c x v b h e) ∙ no_outcome w c x z
