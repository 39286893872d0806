-- What a call leaves of an object that its caller is no writer of.
use Rattle.std.specs.Prelude.{ℕ, ◌+◌, ◌-◌, ◌≤◌, ◌<◌, Bool, false, cond, ◌≡◌}
use native.Mathlib.Omega.{arith}
use Rattle.std.proofs.Math.Bool.{true}
use Rattle.std.proofs.Math.Path.{refl}
use Rattle.std.proofs.Common.{sym, ◌∙◌, subst, ap}
use Rattle.labels.specs.Core.{may_write}
use Rattle.rules.specs.Kernel.{World, Obj, nothing, is_live, is_thread, Edit, relabel, fix, requota, rewrite, edit, Change, keep, alter, create, cut, link, kept, apply, Call, use_of, after}
use Rattle.rules.specs.Sound.{Sound}
use Rattle.rules.specs.Ledger.{Line, writer}
use Rattle.rules.proofs.Laws.Bools.{not_both, not_i, bool_cases}
use Rattle.rules.proofs.Laws.Kinds.{nothing_dead}
use Rattle.rules.proofs.Laws.Put.{put_other, put_at}
use Rattle.rules.proofs.Laws.Edit.{alter_field, alter_kind}
use Rattle.rules.proofs.Laws.Usage.{use_same, keep_use, alter_use, alter_unlinked, rewrite_use_others, create_old, create_use_others, link_use_others, cut_kept, cut_use_le}
use Rattle.rules.proofs.Laws.Booked.{Booked, keeps, relabels, fixes, rewrites, cuts, makes, ties, moves, takes}
use Rattle.rules.proofs.Laws.Lines.{each_call, no_thread}

-- p keeps its kind, loses no quota and uses no more
pub record Calm (w u : World) (p : ℕ) : Type 0 where
  pub kind : (u.obj p).kind ≡ (w.obj p).kind
  pub quota : (w.obj p).quota ≤ (u.obj p).quota
  pub uses : use_of u p ≤ use_of w p

-- what lives after a cut was kept
cut_live : (w : World) (d o p : ℕ) → is_live ((apply (cut d o) w).obj p).kind ≡ true → kept w d o p ≡ true
unfolding apply
cut_live w d o p = go (kept w d o p)
  where
    go : (b : Bool) → is_live (cond b (w.obj p) nothing).kind ≡ true → b ≡ true
    go true h = refl
    go false h = not_both (is_live nothing.kind) h nothing_dead

-- an old id that an object has after a change had one before
pub live_before : (h : Change) (w : World) (p : ℕ) → p < w.next → is_live ((apply h w).obj p).kind ≡ true → is_live (w.obj p).kind ≡ true
unfolding apply
live_before keep w p n l = l
live_before (alter o e) w p n l = sym (ap is_live (alter_kind w o e p)) ∙ l
live_before (create d x) w p n l = subst (λ (y : Obj). is_live y.kind ≡ true) (put_other w.next x w.obj p (λ e. omega arith)) l
live_before (cut d o) w p n l = rw (cut_live w d o p l) at l
live_before (link d o) w p n l = l

module _ (w : World) (s : Sound w) (p : ℕ) where
  same_object : (u : World) → u.obj p ≡ w.obj p → use_of u p ≤ use_of w p → Calm w u p
  same_object u e h = record { kind = ap (λ (x : Obj). x.kind) e; quota = rw e (omega arith); uses = h }

  calm_keep : Calm w (apply keep w) p
  calm_keep = same_object (apply keep w) (unfold apply in refl) (omega (arith, keep_use w s p))

  -- an edit that leaves quota and bytes as they were
  calm_alter : (o : ℕ) (e : Edit) → (edit e (w.obj o)).quota ≡ (w.obj o).quota → (edit e (w.obj o)).bytes ≡ (w.obj o).bytes
      → Calm w (apply (alter o e) w) p
  calm_alter o e q b = record {
    kind = alter_kind w o e p;
    quota = omega (arith, alter_field w o e (λ x. x.quota) q p);
    uses = omega (arith, alter_use w s o e q b p);
  }

  -- the quota of o, which is linked in another container than p, becomes q
  calm_requota : (d o q : ℕ) → (p ≡ d → ⊥) → w.linked d o ≡ true → (w.obj o).fixed ≡ false → (p ≡ o → (w.obj o).quota ≤ q)
      → Calm w (apply (alter o (requota q)) w) p
  unfolding apply edit
  calm_requota d o q n l f h = record {
    kind = alter_kind w o (requota q) p;
    quota = put_at (λ x. (w.obj p).quota ≤ x.quota) o (edit (requota q) (w.obj o)) w.obj p (λ e. rw e (h e)) (λ e. omega arith);
    uses = omega (
      arith,
      use_same w (apply (alter o (requota q)) w) p p (alter_kind w o (requota q) p) (alter_field w o (requota q) (λ x. x.bytes) refl p)
          (λ k. alter_unlinked w s o (requota q) p (not_i (w.linked p o) (λ i. n (s.one_link p d o i l f)))),
    );
  }

  module _ (c : ℕ) (live : is_live (w.obj p).kind ≡ true) (unwritable : may_write (w.obj c).label (w.obj p).label ≡ false) where
    -- what the caller may write is another object
    other : (d : ℕ) → may_write (w.obj c).label (w.obj d).label ≡ true → p ≡ d → ⊥
    other d m e = not_both (may_write (w.obj c).label (w.obj d).label) m (rw e at unwritable)

    calm_booked : (l : Line) (h : Change) → Booked w c l h → is_live ((apply h w).obj p).kind ≡ true → Calm w (apply h w) p
    calm_booked l h keeps lives = calm_keep
    calm_booked l h (relabels o a b) lives = calm_alter o (relabel a b) (unfold edit in refl) (unfold edit in refl)
    calm_booked l h (fixes o) lives = calm_alter o fix (unfold edit in refl) (unfold edit in refl)
    calm_booked l h (rewrites o b m) lives =
        let n = other o m in
        same_object (apply (alter o (rewrite b)) w) (unfold apply in (put_other o (edit (rewrite b) (w.obj o)) w.obj p n))
        (omega (arith, rewrite_use_others w s o b p n))
    calm_booked l h (cuts d o) lives =
        let k = cut_live w d o p lives in
        same_object (apply (cut d o) w) (cut_kept w s d o p k) (cut_use_le w s d o p k)
    calm_booked l h (makes d x m a) lives = same_object (apply (create d x) w) (create_old w s d x p live) (omega (arith, create_use_others w s d x p live (other d m)))
    calm_booked l h (ties d o m i a) lives = same_object (apply (link d o) w) (unfold apply in refl) (omega (arith, link_use_others w s d o p (other d m)))
    calm_booked l h (moves d o n m i f) lives = calm_requota d o ((w.obj o).quota + n) (other d m) i f (λ e. omega arith)
    calm_booked l h (takes d o n m m2 i f r) lives = calm_requota d o ((w.obj o).quota - n) (other d m) i f (λ e. absurd (other o m2 e))

  -- a live object, of which the caller is no writer, is calm if it is still there
  pub calm_call : (c : ℕ) (x : Call) → is_live (w.obj p).kind ≡ true → writer w c p ≡ false → is_live ((after w c x).obj p).kind ≡ true
      → Calm w (after w c x) p
  unfolding writer
  calm_call c x live n lives =
      bool_cases (is_thread (w.obj c).kind)
      (λ t. each_call w c x (λ l u. is_live (u.obj p).kind ≡ true → Calm w u p) (λ a. same_object w refl (omega arith))
      (calm_booked c live (rw t at n)) lives)
      (λ t. no_thread w c x (λ u. Calm w u p) t (same_object w refl (omega arith)) calm_keep)
