-- Every granted change keeps the terms of the start, as far as TermsKept has them. Here every change has its
-- case.
use Rattle.std.specs.Prelude.{ℕ, ◌<◌, ◌≤◌, ◌≡◌}
use Rattle.std.proofs.Common.{arith, ◌∙◌, ap, subst}
use Rattle.std.proofs.Math.Bool.{true, false, cond}
use Rattle.std.proofs.Math.Path.{refl, sym}
use Rattle.labels.specs.declared.Label.{Label}
use Rattle.labels.specs.Core.{at, level1}
use Rattle.rules.specs.Kernel.{is_live, is_thread, is_segment, is_container, Obj, nothing, World, Edit, relabel, fix, requota, rewrite, edit, Change, keep, alter}
use Rattle.rules.specs.Kernel.{create, cut, link, put, stays, kept, apply}
use Rattle.rules.specs.Sound.{Sound}
use Rattle.rules.proofs.Laws.Bools.{not_both}
use Rattle.rules.proofs.Laws.Kinds.{thread_live, container_live, thread_no_container, nothing_dead}
use Rattle.rules.proofs.Laws.Put.{put_same, put_other, put_at, link_cases}
use Rattle.rules.proofs.Laws.Edit.{edit_kind, fix_label, requota_label, rewrite_label}
use Rattle.rules.proofs.Laws.Usage.{held_below, holder_below}
use Rattle.rules.proofs.Laws.Below.{stays_linked, stays_not_below, stays_kept, container_kept}
use Rattle.rules.proofs.Laws.Effects.{cut_at}
use Rattle.tainted.specs.Tainted.{untainted}
use Rattle.tainted.proofs.Laws.Rooms.{untainted_le, le_untainted}
use Rattle.tainted.proofs.Laws.Alike.{TermsKept}
use Rattle.tainted.proofs.Laws.Respects.{lv, Mine, Respects}

module _ (v : ℕ) (w : World) (so : Sound w) (cl : TermsKept v w) where
  pub kept_keep : TermsKept v (apply keep w)
  unfolding apply
  kept_keep = record { below_next = (let o = cl.below_next in omega arith); no_star = cl.no_star; within = cl.within }

  -- an edit that makes no star, makes nothing untainted, and taints no container
  kept_alter : (o : ℕ) (e : Edit) → (is_live (w.obj o).kind ≡ true → 1 ≤ at (edit e (w.obj o)).label v)
      → (untainted v (edit e (w.obj o)) ≡ true → untainted v (w.obj o) ≡ true)
      → (is_container (w.obj o).kind ≡ true → untainted v (w.obj o) ≡ true → untainted v (edit e (w.obj o)) ≡ true) → TermsKept v (apply (alter o e) w)
  unfolding apply
  kept_alter o e some down room =
      record {
        below_next = (let q = cl.below_next in omega arith);
        no_star = λ p.
            put_at (λ x. is_live x.kind ≡ true → 1 ≤ at x.label v) o (edit e (w.obj o)) w.obj p
            (λ q h. some (sym (ap is_live (edit_kind e (w.obj o))) ∙ h)) (λ q. cl.no_star p);
        within = λ d p l.
            put_at (λ x. is_segment x.kind ≡ false → untainted v x ≡ true → untainted v (put o (edit e (w.obj o)) w.obj d) ≡ true) o (edit e (w.obj o)) w.obj p
            (λ q h k. from d p l (cl.within d p l
            (subst (λ (m : ℕ). is_segment (w.obj m).kind ≡ false) (sym q) (sym (ap is_segment (edit_kind e (w.obj o))) ∙ h))
            (subst (λ (m : ℕ). untainted v (w.obj m) ≡ true) (sym q) (down k))))
            (λ q h k. from d p l (cl.within d p l h k));
      }
    where
      from : (d p : ℕ) → w.linked d p ≡ true → untainted v (w.obj d) ≡ true → untainted v (put o (edit e (w.obj o)) w.obj d) ≡ true
      from d p l h =
          put_at (λ x. untainted v x ≡ true) o (edit e (w.obj o)) w.obj d
          (λ q. room (subst (λ (m : ℕ). is_container (w.obj m).kind ≡ true) q (so.tree.holder d p l)) (subst (λ (m : ℕ). untainted v (w.obj m) ≡ true) q h))
          (λ q. h)

  -- an edit that leaves the label
  pub kept_edit : (o : ℕ) (e : Edit) → (edit e (w.obj o)).label ≡ (w.obj o).label → TermsKept v (apply (alter o e) w)
  kept_edit o e q =
      let same : untainted v (edit e (w.obj o)) ≡ untainted v (w.obj o) = unfold untainted in rw q in
      kept_alter o e (λ h. rw q (cl.no_star o h)) (λ h. sym same ∙ h) (λ k h. same ∙ h)

  module _ (c : ℕ) (k : is_thread (w.obj c).kind ≡ true) where
    some : 1 ≤ lv v w c
    some = cl.no_star c (thread_live (w.obj c).kind k)

    kept_relabel : (x y : Label) → lv v w c ≤ at x v → TermsKept v (apply (alter c (relabel x y)) w)
    kept_relabel x y h =
        let p = some in
        kept_alter c (relabel x y) (λ q. unfold edit in (omega arith))
        (λ q. le_untainted v (w.obj c) (omega (arith, lower q)))
        (λ q r. not_both (is_container (w.obj c).kind) q (thread_no_container (w.obj c).kind k))
      where
        lower : untainted v (edit (relabel x y) (w.obj c)) ≡ true → at x v ≤ level1
        lower q = unfold edit in (untainted_le v (edit (relabel x y) (w.obj c)) q)

    kept_create : (d : ℕ) (x : Obj) → Mine v w c d → lv v w c ≤ at x.label v → TermsKept v (apply (create d x) w)
    unfolding apply
    kept_create d x m h =
        let p0 = some in
        let e0 = m.level in
        record {
          below_next = (let q = cl.below_next in omega arith);
          no_star = λ p. put_at (λ y. is_live y.kind ≡ true → 1 ≤ at y.label v) w.next x w.obj p (λ q r. omega arith) (λ q. cl.no_star p);
          within = λ e p l g i.
              link_cases d w.next w.linked e p l
              (λ q r. old e (so.ids d (container_live (w.obj d).kind m.is_container_lem)).1 q
              (le_untainted v (w.obj d) (omega (arith, untainted_le v x (subst (λ (y : Obj). untainted v y ≡ true) (put_same w.next x w.obj p r) i)))))
              (λ q.
              let same = other p (held_below w so e p q) in
              old e (holder_below w so e p q) refl (cl.within e p q (subst (λ (y : Obj). is_segment y.kind ≡ false) same g) (subst (λ (y : Obj). untainted v y ≡ true) same i)));
        }
      where
        other : (p : ℕ) → p < w.next → put w.next x w.obj p ≡ w.obj p
        other p q = put_other w.next x w.obj p (λ e. omega arith)

        old : (e : ℕ) {f : ℕ} → f < w.next → e ≡ f → untainted v (w.obj f) ≡ true → untainted v (put w.next x w.obj e) ≡ true
        old e {f} q r i = subst (λ (j : ℕ). untainted v (put w.next x w.obj j) ≡ true) (sym r) (ap (untainted v) (other f q) ∙ i)

    kept_cut : (d o : ℕ) → TermsKept v (apply (cut d o) w)
    unfolding apply
    kept_cut d o =
        record {
          below_next = (let q = cl.below_next in omega arith);
          no_star = λ p.
              cut_at (λ x. is_live x.kind ≡ true → 1 ≤ at x.label v) w d o p (λ z. cl.no_star p)
              (λ z h. not_both (is_live nothing.kind) h nothing_dead);
          within = λ e p l g i.
              let n = stays_linked w d o e p l in
              let y : cond (kept w d o p) (w.obj p) nothing ≡ w.obj p = rw (stays_kept w so d o e p l) in
              let low-e = cl.within e p n (subst (λ (x : Obj). is_segment x.kind ≡ false) y g) (subst (λ (x : Obj). untainted v x ≡ true) y i) in
              cut_at (λ x. untainted v x ≡ true) w d o e (λ z. low-e) (λ z. absurd (gone e p l z));
        }
      where
        gone : (e p : ℕ) → stays w d o e p ≡ true → kept w d o e ≡ false → ⊥
        gone e p l z =
            not_both (kept w d o e) (container_kept w so d o e (so.tree.holder e p (stays_linked w d o e p l)) (stays_not_below w d o e p l)) z

    kept_link : (d o : ℕ) → is_segment (w.obj o).kind ≡ true → TermsKept v (apply (link d o) w)
    unfolding apply
    kept_link d o r =
        record {
          below_next = (let q = cl.below_next in omega arith);
          no_star = cl.no_star;
          within = λ e p l g.
              link_cases d o w.linked e p l
              (λ q j. not_both (is_segment (w.obj o).kind) r (subst (λ (m : ℕ). is_segment (w.obj m).kind ≡ false) j g))
              (λ q. cl.within e p q g);
        }

    -- THE LAW: a case for each change
    pub terms_kept : (h : Change) → Respects v w c h → TermsKept v (apply h w)
    terms_kept keep f = kept_keep
    terms_kept (alter o (relabel x y)) f = subst (λ (m : ℕ). TermsKept v (apply (alter m (relabel x y)) w)) (sym f.0) (kept_relabel x y f.1)
    terms_kept (alter o fix) f = kept_edit o fix (fix_label (w.obj o))
    terms_kept (alter o (requota q)) f = kept_edit o (requota q) (requota_label q (w.obj o))
    terms_kept (alter o (rewrite b)) f = kept_edit o (rewrite b) (rewrite_label b (w.obj o))
    terms_kept (create d x) f = kept_create d x f.0 f.1
    terms_kept (cut d o) f = kept_cut d o
    terms_kept (link d o) f = kept_link d o f.2
