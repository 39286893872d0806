-- The ledger tells every quota and every charge: at the start, and after every call if it did before it.
use Rattle.std.specs.Prelude.{ℕ, ◌+◌, ◌-◌, Bool, ◌&&◌, ◌≡◌}
use Rattle.std.proofs.Common.{arith, ◌∙◌, ap}
use Rattle.std.proofs.Math.Bool.{true, false, cond}
use Rattle.std.proofs.Math.Path.{refl, sym}
use Rattle.std.proofs.Math.Dec.{eqb}
use borrow.Author.Tests.{eqb-true, eq-eqb, ne_eqb}
use Rattle.quotas.specs.Any.{any_of}
use Rattle.rules.specs.Kernel.{World, Obj, nothing, is_live, Edit, relabel, fix, requota, rewrite, edit, Change, keep, alter, create, cut, link, put, stays, kept, apply, Call}
use Rattle.rules.specs.Kernel.{beginning, after}
use Rattle.rules.specs.Sound.{Sound}
use Rattle.rules.specs.Ledger.{Line, line_of, granted_by, granted, charge_by, charge}
use Rattle.rules.proofs.Laws.Bools.{not_both, bool_cases, then_l, or_i_r}
use Rattle.rules.proofs.Laws.Kinds.{nothing_dead}
use Rattle.rules.proofs.Laws.Put.{link_cases}
use Rattle.rules.proofs.Laws.Edit.{alter_field, alter_kind}
use Rattle.rules.proofs.Laws.Usage.{held_below, holder_below, cut_kept}
use Rattle.rules.proofs.Laws.Booked.{Booked, keeps, relabels, fixes, rewrites, cuts, makes, ties, moves, takes}
use Rattle.rules.proofs.Laws.Lines.{each_call}

-- g tells the quota of every live object, and k what every link is charged with
pub record Told (w : World) (g : ℕ → ℕ) (k : ℕ → ℕ → ℕ) : Type 0 where
  pub quotas : (p : ℕ) → is_live (w.obj p).kind ≡ true → g p ≡ (w.obj p).quota
  pub charges : (e p : ℕ) → w.linked e p ≡ true → k e p ≡ (w.obj p).quota

pick_else : (a : Bool) (x y : ℕ) → cond (a && false) x y ≡ y
pick_else true x y = refl
pick_else false x y = refl

-- ---- what each change makes of it

module _ (w : World) (s : Sound w) (g : ℕ → ℕ) (k : ℕ → ℕ → ℕ) (t : Told w g k) where
  -- the same objects and links, or fewer
  told_less : (u : World) → ((p : ℕ) → is_live (u.obj p).kind ≡ true → u.obj p ≡ w.obj p)
      → ((e p : ℕ) → u.linked e p ≡ true → (w.linked e p ≡ true) × (u.obj p ≡ w.obj p)) → Told u g k
  told_less u f l = record {
    quotas = λ p h. let e = f p h in rw e (t.quotas p (rw e at h));
    charges = λ e p h. let (a, b) = l e p h in rw b (t.charges e p a);
  }

  told_alter : (o : ℕ) (e : Edit) → (edit e (w.obj o)).quota ≡ (w.obj o).quota → Told (apply (alter o e) w) g k
  told_alter o e q =
      let quota : (p : ℕ) → ((apply (alter o e) w).obj p).quota ≡ (w.obj p).quota = alter_field w o e (λ x. x.quota) q in
      record {
        quotas = λ p h. t.quotas p (sym (ap is_live (alter_kind w o e p)) ∙ h) ∙ sym (quota p);
        charges = λ d p h. t.charges d p (unfold apply in h) ∙ sym (quota p);
      }

  -- what stays linked is kept
  stays_kept : (d o e p : ℕ) → stays w d o e p ≡ true → (w.linked e p ≡ true) × (kept w d o p ≡ true)
  unfolding stays kept
  stays_kept d o e p h =
      let l = then_l (w.linked e p) _ h in
      (l, or_i_r (eqb p w.root) _ (any_of w.next (λ i. stays w d o i p) e (holder_below w s e p l) h))

  told_cut : (d o : ℕ) → Told (apply (cut d o) w) g k
  unfolding apply
  told_cut d o =
      told_less (apply (cut d o) w)
      (λ p h. bool_cases (kept w d o p) (cut_kept w s d o p) (λ n. absurd (gone p h n)))
      (λ e p h. let (a, b) = stays_kept d o e p h in (a, cut_kept w s d o p b))
    where
      gone : (p : ℕ) → is_live (cond (kept w d o p) (w.obj p) nothing).kind ≡ true → kept w d o p ≡ false → ⊥
      gone p h n = not_both (is_live nothing.kind) (rw n at h) nothing_dead

  told_create : (d : ℕ) (x : Obj)
      → Told (apply (create d x) w) (λ p. cond (eqb p w.next) x.quota (g p)) (λ e p. cond (eqb e d && eqb p w.next) x.quota (k e p))
  unfolding apply put
  told_create d x = record {
    quotas = λ p. live p (eqb p w.next);
    charges = λ e p h.
        link_cases d w.next w.linked e p h
        (λ a b. rw (eq-eqb e d a, eq-eqb p w.next b))
        (λ l.
        let n = ne_eqb p w.next (λ q. let z = held_below w s e p l in omega arith) in
        rw n (pick_else (eqb e d) x.quota (k e p) ∙ t.charges e p l));
  }
    where
      live : (p : ℕ) (b : Bool) → is_live (cond b x (w.obj p)).kind ≡ true → cond b x.quota (g p) ≡ (cond b x (w.obj p)).quota
      live p true h = refl
      live p false h = t.quotas p h

  told_link : (d o : ℕ) → is_live (w.obj o).kind ≡ true → Told (apply (link d o) w) g (λ e p. cond (eqb e d && eqb p o) (g p) (k e p))
  unfolding apply
  told_link d o live = record {
    quotas = t.quotas;
    charges = λ e p h.
        link_cases d o w.linked e p h
        (λ a b. rw (eq-eqb e d a, eq-eqb p o b) (t.quotas p (rw b live)))
        (λ l. either (eqb e d && eqb p o) e p l);
  }
    where
      either : (b : Bool) (e p : ℕ) → w.linked e p ≡ true → cond b (g p) (k e p) ≡ (w.obj p).quota
      either true e p l = t.quotas p (s.tree.held e p l)
      either false e p l = t.charges e p l

  -- the quota of o, which is linked in d alone, is changed by f, and so is its charge in d
  told_requota : (f : ℕ → ℕ) (d o : ℕ) → w.linked d o ≡ true → (w.obj o).fixed ≡ false
      → Told (apply (alter o (requota (f (w.obj o).quota))) w) (λ p. cond (eqb p o) (f (g p)) (g p)) (λ e p. cond (eqb e d && eqb p o) (f (k e p)) (k e p))
  unfolding apply put edit
  told_requota f d o l n = record {
    quotas = λ p. live p (eqb p o) refl;
    charges = λ e p. held e p (eqb p o) refl;
  }
    where
      x : Obj
      x = edit (requota (f (w.obj o).quota)) (w.obj o)

      live : (p : ℕ) (b : Bool) → eqb p o ≡ b → is_live (cond b x (w.obj p)).kind ≡ true → cond b (f (g p)) (g p) ≡ (cond b x (w.obj p)).quota
      live p true e h = let q = eqb-true p o e in ap f (t.quotas p (rw q h) ∙ rw q refl)
      live p false e h = t.quotas p h

      held : (e p : ℕ) (b : Bool) → eqb p o ≡ b → w.linked e p ≡ true → cond (eqb e d && b) (f (k e p)) (k e p) ≡ (cond b x (w.obj p)).quota
      held e p true q h =
          let r = eqb-true p o q in
          rw (eq-eqb e d (s.one_link e d o (rw r at h) l n)) (ap f (t.charges e p h ∙ rw r refl))
      held e p false q h = pick_else (eqb e d) (f (k e p)) (k e p) ∙ t.charges e p h

  told_booked : (c : ℕ) (l : Line) (h : Change) → Booked w c l h → Told (apply h w) (λ p. granted_by l p (g p)) (λ e p. charge_by l e p (g p) (k e p))
  unfolding granted_by charge_by
  told_booked c l h keeps = unfold apply in (told_less (apply keep w) (λ p e. refl) (λ e p q. (q, refl)))
  told_booked c l h (relabels o a b) = told_alter o (relabel a b) (unfold edit in refl)
  told_booked c l h (fixes o) = told_alter o fix (unfold edit in refl)
  told_booked c l h (rewrites o b m) = told_alter o (rewrite b) (unfold edit in refl)
  told_booked c l h (cuts d o) = told_cut d o
  told_booked c l h (makes d x m a) = told_create d x
  told_booked c l h (ties d o m i a) = told_link d o i
  told_booked c l h (moves d o n m i f) = told_requota (λ q. q + n) d o i f
  told_booked c l h (takes d o n m m2 i f r) = told_requota (λ q. q - n) d o i f

  pub told_call : (c : ℕ) (x : Call) → Told (after w c x) (λ p. granted_by (line_of w c x) p (g p)) (λ e p. charge_by (line_of w c x) e p (g p) (k e p))
  told_call c x =
      each_call w c x (λ l u. Told u (λ p. granted_by l p (g p)) (λ e p. charge_by l e p (g p) (k e p)))
      (unfold granted_by charge_by in t) (told_booked c)

-- ---- at the beginning

pub told_beginning : (w : World) → Told w (granted (beginning w)) (charge (beginning w))
unfolding granted charge
told_beginning w = record { quotas = λ p h. refl; charges = λ e p h. rw h }
