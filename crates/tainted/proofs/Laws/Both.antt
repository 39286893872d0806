-- The same change in two worlds that are alike leaves them alike.
use Prim.Native.Nat.{ℕ, suc}
use Rattle.std.proofs.Math.Decide.{ℕ_discrete}
use Rattle.std.specs.Prelude.{Bool, false, ◌≡◌, refl}
use Rattle.std.proofs.Math.Bool.{true}
use Rattle.std.proofs.Math.Path.{sym, ap, subst}
use Rattle.std.proofs.Common.{◌∙◌}
use Rattle.rules.specs.Kernel.{Obj, World, Edit, edit, keep, alter, create, link, put, link_in, apply}
use Rattle.rules.specs.Sound.{Sound}
use Rattle.rules.proofs.Laws.Bools.{not_both, not_i}
use Rattle.rules.proofs.Laws.Kinds.{container_live}
use Rattle.rules.proofs.Laws.Put.{put_other, put_at, put_at_both, link_cases}
use Rattle.rules.proofs.Laws.Usage.{next_dead, next_to, next_from}
use Rattle.tainted.specs.Tainted.{untainted_container}
use Rattle.tainted.proofs.Laws.Rooms.{room_container}
use Rattle.tainted.specs.Laws.Seen.{seen}
use Rattle.tainted.proofs.Laws.Alike.{Alike}

-- two tables of links that agree at a pair agree there with one more link
pub link_agree : (d o : ℕ) (f g : ℕ → ℕ → Bool) (e p : ℕ) → f e p ≡ g e p → link_in d o f e p ≡ link_in d o g e p
unfolding link_in
link_agree d o f g e p h = rw h

module _ (v : ℕ) where
  pub keep_both : (a b : World) → Alike v a b → Alike v (apply keep a) (apply keep b)
  unfolding apply
  keep_both a b s =
      record { same_next = ap suc s.same_next; same_root = s.same_root; rooms = s.rooms; room_objs = s.room_objs; links = s.links; objs = s.objs }

  -- an edit that makes and unmakes no room, and shows the same of what looks the same
  pub alter_both : (a b : World) → Alike v a b → (o : ℕ) (e : Edit)
      → untainted_container v (edit e (a.obj o)) ≡ untainted_container v (a.obj o) → untainted_container v (edit e (b.obj o)) ≡ untainted_container v (b.obj o)
      → (seen v (a.obj o) ≡ seen v (b.obj o) → seen v (edit e (a.obj o)) ≡ seen v (edit e (b.obj o)))
      → Alike v (apply (alter o e) a) (apply (alter o e) b)
  unfolding apply
  alter_both a b s o e ka kb hh =
      record {
        same_next = ap suc s.same_next;
        same_root = s.same_root;
        rooms = λ d. room_a d ∙ s.rooms d ∙ sym (room_b d);
        room_objs = λ d h.
            put_at_both (λ x y. x ≡ y) o (edit e (a.obj o)) (edit e (b.obj o)) a.obj b.obj d
            (λ q. ap (edit e) (s.room_objs o (subst (λ (k : ℕ). untainted_container v (a.obj k) ≡ true) q (sym (room_a d) ∙ h))))
            (λ q. s.room_objs d (sym (room_a d) ∙ h));
        links = λ d p h. s.links d p (sym (room_a d) ∙ h);
        objs = λ d p h k.
            put_at_both (λ x y. seen v x ≡ seen v y) o (edit e (a.obj o)) (edit e (b.obj o)) a.obj b.obj p
            (λ q. hh (s.objs d o (sym (room_a d) ∙ h) (subst (λ (m : ℕ). a.linked d m ≡ true) q k)))
            (λ q. s.objs d p (sym (room_a d) ∙ h) k);
      }
    where
      room_a : (d : ℕ) → untainted_container v (put o (edit e (a.obj o)) a.obj d) ≡ untainted_container v (a.obj d)
      room_a d =
          put_at (λ x. untainted_container v x ≡ untainted_container v (a.obj d)) o (edit e (a.obj o)) a.obj d
          (λ q. ka ∙ ap (λ (k : ℕ). untainted_container v (a.obj k)) (sym q)) (λ q. refl)

      room_b : (d : ℕ) → untainted_container v (put o (edit e (b.obj o)) b.obj d) ≡ untainted_container v (b.obj d)
      room_b d =
          put_at (λ x. untainted_container v x ≡ untainted_container v (b.obj d)) o (edit e (b.obj o)) b.obj d
          (λ q. kb ∙ ap (λ (k : ℕ). untainted_container v (b.obj k)) (sym q)) (λ q. refl)

  -- a link to what looks the same
  pub link_both : (a b : World) → Alike v a b → (d o : ℕ) → seen v (a.obj o) ≡ seen v (b.obj o) → Alike v (apply (link d o) a) (apply (link d o) b)
  unfolding apply
  link_both a b s d o h =
      record {
        same_next = ap suc s.same_next;
        same_root = s.same_root;
        rooms = s.rooms;
        room_objs = s.room_objs;
        links = λ e p l. link_agree d o a.linked b.linked e p (s.links e p l);
        objs = λ e p l k.
            link_cases d o a.linked e p k (λ q r. subst (λ (m : ℕ). seen v (a.obj m) ≡ seen v (b.obj m)) (sym r) h) (λ q. s.objs e p l q);
      }

  -- ---- a new object

  -- the number n is no object's and no link's
  pub record Fresh (w : World) (n : ℕ) : Type 0 where
    pub no_from : (p : ℕ) → w.linked n p ≡ false
    pub no_to : (p : ℕ) → w.linked p n ≡ false
    pub no_room : untainted_container v (w.obj n) ≡ false

  pub fresh : (w : World) → Sound w → Fresh w w.next
  fresh w s =
      record {
        no_from = next_from w s;
        no_to = next_to w s;
        no_room =
            not_i (untainted_container v (w.obj w.next))
            (λ e. not_both _ (container_live (w.obj w.next).kind (room_container v (w.obj w.next) e)) (next_dead w s));
      }

  added : World → ℕ → Obj → ℕ → World
  added w d x n = record { next = suc n; root = w.root; obj = put n x w.obj; linked = link_in d n w.linked }

  added_both : (a b : World) → Alike v a b → (d : ℕ) (x : Obj) (n : ℕ) → Fresh a n → Fresh b n → Alike v (added a d x n) (added b d x n)
  unfolding added
  added_both a b s d x n fa fb =
      record {
        same_next = refl;
        same_root = s.same_root;
        rooms = λ e. put_at_both (λ y z. untainted_container v y ≡ untainted_container v z) n x x a.obj b.obj e (λ q. refl) (λ q. s.rooms e);
        room_objs = λ e h.
            put_at_both (λ y z. untainted_container v y ≡ true → y ≡ z) n x x a.obj b.obj e (λ q i. refl) (λ q i. s.room_objs e i) h;
        links = λ e p h. link_agree d n a.linked b.linked e p (old_links e p h);
        objs = λ e p h k.
            put_at_both (λ y z. seen v y ≡ seen v z) n x x a.obj b.obj p (λ q. refl)
            (λ q. let l : a.linked e p ≡ true = link_cases d n a.linked e p k (λ i j. absurd (q j)) (λ i. i) in
            elim (ℕ_discrete e n) [
              | yes r ↦ not_both (a.linked n p) (subst (λ (m : ℕ). a.linked m p ≡ true) r l) (fa.no_from p)
              | no r ↦ s.objs e p (was e r h) l
            ]);
      }
    where
      was : (e : ℕ) → (e ≡ n → ⊥) → untainted_container v (put n x a.obj e) ≡ true → untainted_container v (a.obj e) ≡ true
      was e q h = ap (untainted_container v) (sym (put_other n x a.obj e q)) ∙ h

      old_links : (e p : ℕ) → untainted_container v (put n x a.obj e) ≡ true → a.linked e p ≡ b.linked e p
      old_links e p h = elim (ℕ_discrete e n) [
        | yes r ↦ subst (λ (m : ℕ). a.linked m p ≡ b.linked m p) (sym r) (fa.no_from p ∙ sym (fb.no_from p))
        | no r ↦ s.links e p (was e r h)
      ]

  pub create_both : (a b : World) → Alike v a b → Sound a → Sound b → (d : ℕ) (x : Obj) → Alike v (apply (create d x) a) (apply (create d x) b)
  unfolding apply added
  create_both a b s sa sb d x =
      subst (λ (n : ℕ). Alike v (added a d x a.next) (added b d x n)) s.same_next
      (added_both a b s d x a.next (fresh a sa) (subst (λ (n : ℕ). Fresh b n) (sym s.same_next) (fresh b sb)))
