-- Two worlds that untainted callers cannot tell apart, and what every world of two alike histories keeps of
-- the start's terms.
use Rattle.std.specs.Prelude.{ℕ, ◌<◌, ◌≤◌, true, false, ◌≡◌, refl}
use Rattle.std.proofs.Math.Decide.{ℕ_discrete}
use Rattle.std.proofs.Common.{arith, sym, ◌∙◌, ap}
use Rattle.labels.specs.Core.{at}
use Rattle.rules.specs.Kernel.{is_live, is_thread, is_segment, is_container, World}
use Rattle.rules.specs.Sound.{Sound}
use Rattle.rules.proofs.Laws.Bools.{not_both}
use Rattle.rules.proofs.Laws.Kinds.{thread_live, thread_no_segment, thread_no_container, container_no_segment}
use Rattle.tainted.specs.Tainted.{untainted, untainted_container, UntaintedStart}
use Rattle.tainted.proofs.Laws.Rooms.{room_container, room_untainted, room_of}
use Rattle.tainted.specs.Laws.Seen.{seen}
use Rattle.tainted.proofs.Laws.Seen.{same_whole}

-- What is left of the start's terms after any calls. It is not said of segments: call 9 lets a tainted caller
-- link an untainted one in a tainted container.
pub record TermsKept (v : ℕ) (w : World) : Type 0 where
  pub below_next : v < w.next
  pub no_star : (o : ℕ) → is_live (w.obj o).kind ≡ true → 1 ≤ at (w.obj o).label v
  pub within : (d o : ℕ) → w.linked d o ≡ true → is_segment (w.obj o).kind ≡ false → untainted v (w.obj o) ≡ true → untainted v (w.obj d) ≡ true

pub terms_at_start : (v : ℕ) (w : World) → UntaintedStart v w → TermsKept v w
terms_at_start v w u =
    record {
      below_next = u.below_next;
      no_star = λ o l. some (at (w.obj o).label v) (u.no_star o l);
      within = λ d o l n k. room_untainted v (w.obj d) (u.only_in_such d o l k);
    }
  where
    some : (n : ℕ) → (n ≡ 0 → ⊥) → 1 ≤ n
    some n f = elim (ℕ_discrete n 0) [
      | yes e ↦ absurd (f e)
      | no m ↦ omega arith
    ]

-- The same to an untainted caller: the rooms with their links, and of what is linked there all that is not
-- hidden.
pub record Alike (v : ℕ) (a b : World) : Type 0 where
  pub same_next : a.next ≡ b.next
  pub same_root : a.root ≡ b.root
  pub rooms : (d : ℕ) → untainted_container v (a.obj d) ≡ untainted_container v (b.obj d)
  pub room_objs : (d : ℕ) → untainted_container v (a.obj d) ≡ true → a.obj d ≡ b.obj d
  pub links : (d o : ℕ) → untainted_container v (a.obj d) ≡ true → a.linked d o ≡ b.linked d o
  pub objs : (d o : ℕ) → untainted_container v (a.obj d) ≡ true → a.linked d o ≡ true → seen v (a.obj o) ≡ seen v (b.obj o)

module _ (v : ℕ) where
  pub alike_refl : (a : World) → Alike v a a
  alike_refl a = record { same_next = refl; same_root = refl; rooms = λ d. refl; room_objs = λ d h. refl; links = λ d o h. refl; objs = λ d o h k. refl }

  pub alike_sym : (a b : World) → Alike v a b → Alike v b a
  alike_sym a b s =
      record {
        same_next = sym s.same_next;
        same_root = sym s.same_root;
        rooms = λ d. sym (s.rooms d);
        room_objs = λ d h. sym (s.room_objs d (s.rooms d ∙ h));
        links = λ d o h. sym (s.links d o (s.rooms d ∙ h));
        objs = λ d o h k. sym (s.objs d o (s.rooms d ∙ h) (s.links d o (s.rooms d ∙ h) ∙ k));
      }

  pub alike_trans : (a b c : World) → Alike v a b → Alike v b c → Alike v a c
  alike_trans a b c s t =
      record {
        same_next = s.same_next ∙ t.same_next;
        same_root = s.same_root ∙ t.same_root;
        rooms = λ d. s.rooms d ∙ t.rooms d;
        room_objs = λ d h. s.room_objs d h ∙ t.room_objs d (sym (s.rooms d) ∙ h);
        links = λ d o h. s.links d o h ∙ t.links d o (sym (s.rooms d) ∙ h);
        objs = λ d o h k. s.objs d o h k ∙ t.objs d o (sym (s.rooms d) ∙ h) (sym (s.links d o h) ∙ k);
      }

  module _ (w : World) (s : Sound w) (c : TermsKept v w) where
    -- what holds a room is one
    pub up : (d e : ℕ) → untainted_container v (w.obj e) ≡ true → w.linked d e ≡ true → untainted_container v (w.obj d) ≡ true
    up d e h l =
        room_of v (w.obj d) (s.tree.holder d e l)
        (c.within d e l (container_no_segment (w.obj e).kind (room_container v (w.obj e) h)) (room_untainted v (w.obj e) h))

    -- and so is what holds an untainted thread
    pub holder : (o : ℕ) → is_thread (w.obj o).kind ≡ true → untainted v (w.obj o) ≡ true → (d : ℕ) × (untainted_container v (w.obj d) ≡ true) × (w.linked d o ≡ true)
    holder o t l =
        let not_root : (o ≡ w.root → ⊥) =
        λ q. not_both (is_container (w.obj o).kind) (ap (λ (i : ℕ). is_container (w.obj i).kind) q ∙ s.tree.root_container) (thread_no_container (w.obj o).kind t) in
        let (d, h) = s.has_link o (thread_live (w.obj o).kind t) not_root in
        (d, room_of v (w.obj d) (s.tree.holder d o h) (c.within d o h (thread_no_segment (w.obj o).kind t) l), h)

  -- such a thread is the same in both
  pub caller_same : (a b : World) → Alike v a b → Sound a → TermsKept v a → (c : ℕ) → is_thread (a.obj c).kind ≡ true → untainted v (a.obj c) ≡ true → a.obj c ≡ b.obj c
  caller_same a b s sa ca c t l =
      let (d, h, k) = holder a sa ca c t l in
      same_whole v (a.obj c) (b.obj c) (s.objs d c h k) l
