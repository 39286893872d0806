-- Existence does not leak: an absent container, one that is none, and one that the caller may not read are one answer.
use Rattle.std.specs.Prelude.{ℕ, Bool, ◌&&◌, ◌≡◌, leb, pos, negsuc}
use Rattle.std.proofs.Math.Bool.{true, false, and-true}
use Rattle.std.proofs.lemmas.Bool.{false≢true}
use Rattle.std.proofs.Math.Path.{refl}
use Rattle.std.proofs.Common.{sym, ◌∙◌}
use Rattle.rules.specs.Kernel.{Obj, World, opens, entry, Verdict, refuse, unless, must, make, move, access, judge, tests, call, is_thread, good_arguments, last_number, Call}
use Rattle.rules.specs.Kernel.{create_category, set_label, set_clearance, create_container, create_segment, create_gate, create_thread, unreference, link_segment, fix_quota}
use Rattle.rules.specs.Kernel.{move_quota, read, write, resize, enter_gate, look}
use Rattle.rules.specs.Named.{containers_named, all_open}

module _ (w : World) (t : Obj) where
  shut_one : (d : ℕ) → (opens w t d && true) ≡ false → opens w t d ≡ false
  shut_one d e = sym (and-true (opens w t d)) ∙ e

  shut_entry : (d o : ℕ) → opens w t d ≡ false → entry w t d o ≡ false
  unfolding entry
  shut_entry d o e = rw e

  -- of two containers one is shut: so the entry in the first is none, or the second does not open
  shut_two : (d1 o d : ℕ) → (opens w t d1 && (opens w t d && true)) ≡ false → (entry w t d1 o && opens w t d) ≡ false
  unfolding entry
  shut_two d1 o d = go (opens w t d1) (opens w t d) (w.linked d1 o)
    where
      go : (a b l : Bool) → (a && (b && true)) ≡ false → ((a && l) && b) ≡ false
      go true true l e = absurd (false≢true (sym e))
      go true false true e = refl
      go true false false e = refl
      go false b l e = refl

  first_five : (p : Bool) (r : Verdict) → p ≡ false → must p 5 r ≡ refuse 5
  unfolding unless must
  first_five p r e = rw e

  -- the first test of a call that names a container is whether it opens
  judge_five : (c : ℕ) (x : Call) → all_open w t (containers_named x) ≡ false → judge w t c x ≡ refuse 5
  unfolding judge make move access all_open containers_named
  judge_five c create_category e = absurd (false≢true (sym e))
  judge_five c (set_label l) e = absurd (false≢true (sym e))
  judge_five c (set_clearance l) e = absurd (false≢true (sym e))
  judge_five c (create_container d l s m q) e = first_five _ _ (shut_one d e)
  judge_five c (create_segment d l s q) e = first_five _ _ (shut_one d e)
  judge_five c (create_gate d l k n x s) e = first_five _ _ (shut_one d e)
  judge_five c (create_thread d l k s) e = first_five _ _ (shut_one d e)
  judge_five c (unreference d o) e = first_five _ _ (shut_entry d o (shut_one d e))
  judge_five c (link_segment d1 o d) e = first_five _ _ (shut_two d1 o d e)
  judge_five c (fix_quota d o) e = first_five _ _ (shut_entry d o (shut_one d e))
  judge_five c (move_quota d o (pos n)) e = first_five _ _ (shut_entry d o (shut_one d e))
  judge_five c (move_quota d o (negsuc n)) e = first_five _ _ (shut_entry d o (shut_one d e))
  judge_five c (read d s k f n) e = first_five _ _ (shut_entry d s (shut_one d e))
  judge_five c (write d s k f n b) e = first_five _ _ (shut_entry d s (shut_one d e))
  judge_five c (resize d s n) e = first_five _ _ (shut_entry d s (shut_one d e))
  judge_five c (enter_gate d g lr cr lv out) e = first_five _ _ (shut_entry d g (shut_one d e))
  judge_five c (look d o out) e = first_five _ _ (rw (shut_one d e))

-- Whatever call a live thread makes with good arguments: if a container that it names is absent, is no container, or is unreadable to it, the verdict is
-- refusal 5, the same in each of the three cases and whatever else the world holds.
pub unreadable_is_absent : (w : World) (c : ℕ) (x : Call) → leb w.next last_number ≡ true → is_thread (w.obj c).kind ≡ true → good_arguments w.next x ≡ true
    → all_open w (w.obj c) (containers_named x) ≡ false → call w c x ≡ refuse 5
unfolding call tests unless must
unreadable_is_absent w c x n t g e = rw (n, t, g) (judge_five w (w.obj c) c x e)
