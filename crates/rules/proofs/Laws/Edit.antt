-- What an edit leaves of an object, and `alter` of every object.
use Rattle.std.specs.Prelude.{ℕ, false, ◌≡◌, refl, List}
use Rattle.std.proofs.lemmas.Bool.{false≢true}
use Rattle.std.proofs.Common.{sym, ◌∙◌}
use Rattle.std.proofs.Math.Path.{ap}
use Rattle.rules.specs.Kernel.{Obj, World, Edit, relabel, fix, requota, rewrite, edit, alter, apply}
use Rattle.rules.proofs.Laws.Put.{put_at}

pub edit_kind : (e : Edit) (x : Obj) → (edit e x).kind ≡ x.kind
unfolding edit
edit_kind (relabel l c) x = refl
edit_kind fix x = refl
edit_kind (requota q) x = refl
edit_kind (rewrite b) x = refl

pub edit_mask : (e : Edit) (x : Obj) → (edit e x).mask ≡ x.mask
unfolding edit
edit_mask (relabel l c) x = refl
edit_mask fix x = refl
edit_mask (requota q) x = refl
edit_mask (rewrite b) x = refl

-- but for `relabel`, an edit leaves the label
pub fix_label : (x : Obj) → (edit fix x).label ≡ x.label
unfolding edit
fix_label x = refl

pub requota_label : (q : ℕ) (x : Obj) → (edit (requota q) x).label ≡ x.label
unfolding edit
requota_label q x = refl

pub rewrite_label : (b : List ℕ) (x : Obj) → (edit (rewrite b) x).label ≡ x.label
unfolding edit
rewrite_label b x = refl

-- no edit looses a fixed quota
pub edit_fixed : (e : Edit) (x : Obj) → (edit e x).fixed ≡ false → x.fixed ≡ false
unfolding edit
edit_fixed (relabel l c) x h = h
edit_fixed fix x h = absurd (false≢true (sym h))
edit_fixed (requota q) x h = h
edit_fixed (rewrite b) x h = h

module _ (w : World) (o : ℕ) (e : Edit) where
  -- what the edit leaves of o, `alter` leaves of every object
  pub alter_field : {A : Type 0} (field : Obj → A) → field (edit e (w.obj o)) ≡ field (w.obj o)
      → (p : ℕ) → field ((apply (alter o e) w).obj p) ≡ field (w.obj p)
  unfolding apply
  alter_field field h p =
      put_at (λ x. field x ≡ field (w.obj p)) o (edit e (w.obj o)) w.obj p (λ q. h ∙ ap (λ (k : ℕ). field (w.obj k)) (sym q)) (λ n. refl)

  pub alter_kind : (p : ℕ) → ((apply (alter o e) w).obj p).kind ≡ (w.obj p).kind
  alter_kind = alter_field (λ x. x.kind) (edit_kind e (w.obj o))
