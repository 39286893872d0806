-- What a change does to the ids that are live and to bytes, and how the change of a granted call suits the call.
use Rattle.std.specs.Prelude.{ℕ, ◌<◌, Bool, true, false, cond, ◌≡◌, List, [], eqb, pos, negsuc}
use Rattle.std.proofs.Common.{arith, sym, subst}
use Rattle.std.proofs.lemmas.Bool.{false≢true, eqb-false}
use Rattle.std.proofs.Math.Path.{refl}
use Rattle.rules.specs.Kernel.{kind_code, is_live, Obj, World, nothing, relabel, fix, requota, rewrite, edit, Change, keep, alter, create, cut, link, kept, apply, Call}
use Rattle.rules.specs.Kernel.{create_category, set_label, set_clearance, create_container, create_segment, create_gate, create_thread, unreference, link_segment, fix_quota}
use Rattle.rules.specs.Kernel.{move_quota, read, write, resize, enter_gate, look, grant, call, container_of, segment_of, gate_of, thread_of}
use Rattle.rules.specs.Written.{rewrites}
use Rattle.rules.specs.Issued.{call_number, creates}
use Rattle.rules.proofs.Laws.Bools.{not_both}
use Rattle.rules.proofs.Laws.Kinds.{nothing_dead}
use Rattle.rules.proofs.Laws.Must.{same_change}
use Rattle.rules.proofs.Laws.Put.{put_at, put_same}
use Rattle.rules.proofs.Laws.Edit.{alter_field, edit_kind}
use Rattle.rules.proofs.Laws.Outcome.{outcome, call_outcome}

-- the change puts other bytes into the object s
unfoldable pub touches : Change → ℕ → Bool
touches keep s = false
touches (alter o (relabel l c)) s = false
touches (alter o fix) s = false
touches (alter o (requota q)) s = false
touches (alter o (rewrite b)) s = eqb s o
touches (create d x) s = false
touches (cut d o) s = false
touches (link d o) s = false

unfoldable pub makes : Change → Bool
makes keep = false
makes (alter o e) = false
makes (create d x) = true
makes (cut d o) = false
makes (link d o) = false

-- what the change makes
unfoldable pub made_by : Change → Obj
made_by keep = nothing
made_by (alter o e) = nothing
made_by (create d x) = x
made_by (cut d o) = nothing
made_by (link d o) = nothing

-- the change h suits the call x: it rewrites what the call names, and makes an object, without bytes, if the call is a create
pub record Suits (x : Call) (h : Change) : Type 0 where
  pub touch : (s : ℕ) → touches h s ≡ rewrites x s
  pub make : makes h ≡ creates x
  pub live : is_live (made_by h).kind ≡ creates x
  pub bare : (made_by h).bytes ≡ []

module _ (w : World) (t : Obj) (c v : ℕ) (b : List ℕ) (h : Change) where
  suit : (x : Call) (u : ℕ) (y : List ℕ) (g : Change) → ((s : ℕ) → touches g s ≡ rewrites x s) → makes g ≡ creates x → is_live (made_by g).kind ≡ creates x
      → (made_by g).bytes ≡ [] → grant u y g ≡ grant v b h → Suits x h
  suit x u y g t m l n e = same_change (Suits x) u v y b g h e (record { touch = t; make = m; live = l; bare = n })

  outcome_suits : (x : Call) → outcome w t c x ≡ grant v b h → Suits x h
  unfolding outcome touches makes made_by rewrites call_number creates is_live kind_code nothing container_of segment_of gate_of thread_of
  outcome_suits create_category = suit _ _ _ _ (λ s. refl) refl refl refl
  outcome_suits (set_label l) = suit _ _ _ _ (λ s. refl) refl refl refl
  outcome_suits (set_clearance k) = suit _ _ _ _ (λ s. refl) refl refl refl
  outcome_suits (create_container d l y m q) = suit _ _ _ _ (λ s. refl) refl refl refl
  outcome_suits (create_segment d l y q) = suit _ _ _ _ (λ s. refl) refl refl refl
  outcome_suits (create_gate d l k n u y) = suit _ _ _ _ (λ s. refl) refl refl refl
  outcome_suits (create_thread d l k y) = suit _ _ _ _ (λ s. refl) refl refl refl
  outcome_suits (unreference d o) = suit _ _ _ _ (λ s. refl) refl refl refl
  outcome_suits (link_segment d1 o d) = suit _ _ _ _ (λ s. refl) refl refl refl
  outcome_suits (fix_quota d o) = suit _ _ _ _ (λ s. refl) refl refl refl
  outcome_suits (move_quota d o (pos n)) = suit _ _ _ _ (λ s. refl) refl refl refl
  outcome_suits (move_quota d o (negsuc n)) = suit _ _ _ _ (λ s. refl) refl refl refl
  outcome_suits (read d t k f n) = suit _ _ _ _ (λ s. refl) refl refl refl
  outcome_suits (write d t k f n y) = suit _ _ _ _ (λ s. refl) refl refl refl
  outcome_suits (resize d t n) = suit _ _ _ _ (λ s. refl) refl refl refl
  outcome_suits (enter_gate d g lr cr lv out) = suit _ _ _ _ (λ s. refl) refl refl refl
  outcome_suits (look d o out) = suit _ _ _ _ (λ s. refl) refl refl refl

pub call_suits : (w : World) (c : ℕ) (x : Call) (v : ℕ) (b : List ℕ) (h : Change) → call w c x ≡ grant v b h → Suits x h
call_suits w c x v b h e = outcome_suits w (w.obj c) c v b h x (call_outcome w c x v b h e)

-- ---- changes

-- what is kept is as it was, all else is nothing
pub cut_at : (P : Obj → Type 0) (w : World) (d o p : ℕ) → (kept w d o p ≡ true → P (w.obj p)) → (kept w d o p ≡ false → P nothing)
    → P ((apply (cut d o) w).obj p)
unfolding apply
cut_at P w d o p f g = go (kept w d o p) refl
  where
    go : (t : Bool) → kept w d o p ≡ t → P (cond t (w.obj p) nothing)
    go true e = f e
    go false e = g e

-- what is live after a change was live before, or it is made by the change and has the next number
pub apply_live : {C : Type 0} (w : World) (h : Change) (o : ℕ) → is_live ((apply h w).obj o).kind ≡ true
    → (is_live (w.obj o).kind ≡ true → C) → (o ≡ w.next → makes h ≡ true → C) → C
unfolding apply makes
apply_live w keep o e old new = old e
apply_live {C} w (alter p d) o e old new =
    put_at (λ x. is_live x.kind ≡ true → C) p (edit d (w.obj p)) w.obj o
    (λ q k. old (subst (λ (j : ℕ). is_live (w.obj j).kind ≡ true) (sym q) (rw (edit_kind d (w.obj p)) at k))) (λ n. old) e
apply_live {C} w (create d x) o e old new = put_at (λ y. is_live y.kind ≡ true → C) w.next x w.obj o (λ q k. new q refl) (λ n. old) e
apply_live {C} w (cut d p) o e old new =
    cut_at (λ x. is_live x.kind ≡ true → C) w d p o (λ q. old) (λ q k. not_both (is_live nothing.kind) k nothing_dead) e
apply_live w (link d p) o e old new = old e

-- a change that does not rewrite an object leaves its bytes, as long as it is live
pub apply_keeps : (w : World) (h : Change) (s : ℕ) → s < w.next → touches h s ≡ false → is_live ((apply h w).obj s).kind ≡ true
    → ((apply h w).obj s).bytes ≡ (w.obj s).bytes
unfolding apply touches edit
apply_keeps w keep s l t e = refl
apply_keeps w (alter o (relabel x y)) s l t e = alter_field w o (relabel x y) (λ z. z.bytes) refl s
apply_keeps w (alter o fix) s l t e = alter_field w o fix (λ z. z.bytes) refl s
apply_keeps w (alter o (requota x)) s l t e = alter_field w o (requota x) (λ z. z.bytes) refl s
apply_keeps w (alter o (rewrite b)) s l t e = put_at (λ z. z.bytes ≡ (w.obj s).bytes) o _ w.obj s (λ q. absurd (eqb-false s o t q)) (λ n. refl)
apply_keeps w (create d x) s l t e = put_at (λ z. z.bytes ≡ (w.obj s).bytes) w.next x w.obj s (λ q. absurd (omega arith)) (λ n. refl)
apply_keeps w (cut d o) s l t e =
    cut_at (λ z. is_live z.kind ≡ true → z.bytes ≡ (w.obj s).bytes) w d o s (λ q k. refl) (λ q k. not_both (is_live nothing.kind) k nothing_dead) e
apply_keeps w (link d o) s l t e = refl

-- what a change makes is what the call has the number of
pub apply_made : (w : World) (h : Change) → makes h ≡ true → (apply h w).obj w.next ≡ made_by h
unfolding apply makes made_by
apply_made w keep e = absurd (false≢true e)
apply_made w (alter o x) e = absurd (false≢true e)
apply_made w (create d x) e = put_same w.next x w.obj w.next refl
apply_made w (cut d o) e = absurd (false≢true e)
apply_made w (link d o) e = absurd (false≢true e)
