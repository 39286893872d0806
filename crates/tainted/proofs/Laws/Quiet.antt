-- A tainted change looks like none: the world after it is alike to the world in which only the number moved
-- on.
use Rattle.std.specs.Prelude.{ℕ, true, false, ◌≡◌, refl}
use Rattle.std.proofs.Math.Path.{sym, ap}
use Rattle.std.proofs.Common.{◌∙◌, subst}
use Rattle.rules.specs.Kernel.{Obj, World, Edit, edit, keep, alter, create, link, apply}
use Rattle.rules.specs.Sound.{Sound}
use Rattle.rules.proofs.Laws.Bools.{not_both}
use Rattle.rules.proofs.Laws.Put.{put_at, link_other}
use Rattle.tainted.specs.Tainted.{untainted_container}
use Rattle.tainted.specs.Laws.Seen.{seen}
use Rattle.tainted.proofs.Laws.Alike.{Alike}
use Rattle.tainted.proofs.Laws.Both.{fresh}

module _ (v : ℕ) (w : World) where
  -- an edit of what is no room, before and after, and looks the same wherever it is seen
  pub alter_quiet : (o : ℕ) (e : Edit) → untainted_container v (w.obj o) ≡ false → untainted_container v (edit e (w.obj o)) ≡ false
      → ((d : ℕ) → untainted_container v (w.obj d) ≡ true → w.linked d o ≡ true → seen v (w.obj o) ≡ seen v (edit e (w.obj o)))
      → Alike v (apply keep w) (apply (alter o e) w)
  unfolding apply
  alter_quiet o e n m hh =
      record {
        same_next = refl;
        same_root = refl;
        rooms = λ d.
            put_at (λ x. untainted_container v (w.obj d) ≡ untainted_container v x) o (edit e (w.obj o)) w.obj d
            (λ q. ap (λ (k : ℕ). untainted_container v (w.obj k)) q ∙ n ∙ sym m) (λ q. refl);
        room_objs = λ d h.
            put_at (λ x. w.obj d ≡ x) o (edit e (w.obj o)) w.obj d
            (λ q. not_both (untainted_container v (w.obj o)) (subst (λ (k : ℕ). untainted_container v (w.obj k) ≡ true) q h) n) (λ q. refl);
        links = λ d p h. refl;
        objs = λ d p h k.
            put_at (λ x. seen v (w.obj p) ≡ seen v x) o (edit e (w.obj o)) w.obj p
            (λ q. ap (λ (i : ℕ). seen v (w.obj i)) q ∙ hh d h (subst (λ (i : ℕ). w.linked d i ≡ true) q k)) (λ q. refl);
      }

  -- what is no room is none of the rooms
  apart : (d e : ℕ) → untainted_container v (w.obj d) ≡ false → untainted_container v (w.obj e) ≡ true → e ≡ d → ⊥
  apart d e n h q = not_both (untainted_container v (w.obj d)) (subst (λ (m : ℕ). untainted_container v (w.obj m) ≡ true) q h) n

  -- a link in what is no room
  pub link_quiet : (d o : ℕ) → untainted_container v (w.obj d) ≡ false → Alike v (apply keep w) (apply (link d o) w)
  unfolding apply
  link_quiet d o n =
      record {
        same_next = refl;
        same_root = refl;
        rooms = λ e. refl;
        room_objs = λ e h. refl;
        links = λ e p h. sym (link_other d o w.linked e p (λ q r. apart d e n h q));
        objs = λ e p h k. refl;
      }

  -- a new object in what is no room
  pub create_quiet : Sound w → (d : ℕ) (x : Obj) → untainted_container v (w.obj d) ≡ false → untainted_container v x ≡ false → Alike v (apply keep w) (apply (create d x) w)
  unfolding apply
  create_quiet s d x n m =
      record {
        same_next = refl;
        same_root = refl;
        rooms = λ e.
            put_at (λ y. untainted_container v (w.obj e) ≡ untainted_container v y) w.next x w.obj e
            (λ q. ap (λ (k : ℕ). untainted_container v (w.obj k)) q ∙ (fresh v w s).no_room ∙ sym m) (λ q. refl);
        room_objs = λ e h.
            put_at (λ y. w.obj e ≡ y) w.next x w.obj e
            (λ q. not_both _ (subst (λ (k : ℕ). untainted_container v (w.obj k) ≡ true) q h) (fresh v w s).no_room) (λ q. refl);
        links = λ e p h. sym (link_other d w.next w.linked e p (λ q r. apart d e n h q));
        objs = λ e p h k.
            put_at (λ y. seen v (w.obj p) ≡ seen v y) w.next x w.obj p
            (λ q. not_both _ (subst (λ (i : ℕ). w.linked e i ≡ true) q k) ((fresh v w s).no_to e)) (λ q. refl);
      }
