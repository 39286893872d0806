-- A granted change of a tainted caller does not show; one of an untainted caller leaves two worlds alike.
-- Here every change has its case.
use Rattle.std.specs.Prelude.{ℕ, ◌<◌, ◌≤◌, true, false, ◌≡◌, refl}
use Rattle.std.proofs.Common.{arith, sym, ◌∙◌, ap, subst}
use Rattle.labels.specs.declared.Label.{Label}
use Rattle.labels.specs.Core.{at, level1}
use Rattle.rules.specs.Kernel.{is_thread, is_container, Obj, World, Edit, relabel, fix, requota, rewrite, edit, Change, keep, alter, create, cut, link, apply}
use Rattle.rules.specs.Sound.{Sound}
use Rattle.rules.proofs.Laws.Bools.{not_both, bool_cases}
use Rattle.rules.proofs.Laws.Kinds.{is_thread_lem, is_segment_lem, thread_no_container}
use Rattle.rules.proofs.Laws.Edit.{edit_kind, fix_label, requota_label, rewrite_label}
use Rattle.tainted.specs.Tainted.{untainted, untainted_container}
use Rattle.tainted.proofs.Laws.Rooms.{untainted_le, le_untainted, gt_tainted, room_of, no_container_no_room, tainted_no_room}
use Rattle.tainted.specs.Laws.Seen.{veiled, outside, seen}
use Rattle.tainted.proofs.Laws.Seen.{secret_same, edit_taint, edit_container, edit_seen}
use Rattle.tainted.proofs.Laws.Alike.{TermsKept, Alike, alike_refl}
use Rattle.tainted.proofs.Laws.Both.{keep_both, alter_both, link_both, create_both}
use Rattle.tainted.proofs.Laws.Quiet.{alter_quiet, link_quiet, create_quiet}
use Rattle.tainted.proofs.Laws.Cut.{cut_both, cut_quiet}
use Rattle.tainted.proofs.Laws.Respects.{lv, Mine, Held, Respects}

module _ (v : ℕ) where
  -- ---- a tainted caller

  module _ (w : World) (so : Sound w) (cl : TermsKept v w) (c : ℕ) (k : is_thread (w.obj c).kind ≡ true) (high : level1 < lv v w c) where
    above : (d : ℕ) → lv v w c ≤ lv v w d → untainted v (w.obj d) ≡ false
    above d e = gt_tainted v (w.obj d) (omega arith)

    mine_high : (d : ℕ) → Mine v w c d → untainted_container v (w.obj d) ≡ false
    mine_high d m = tainted_no_room v (w.obj d) (above d (omega (arith, m.level)))

    relabel_quiet : (l x : Label) → lv v w c ≤ at l v → Alike v (apply keep w) (apply (alter c (relabel l x)) w)
    relabel_quiet l x h =
        let none = thread_no_container (w.obj c).kind k in
        alter_quiet v w c (relabel l x) (no_container_no_room v (w.obj c) none)
        (no_container_no_room v (edit (relabel l x) (w.obj c)) (ap is_container (edit_kind (relabel l x) (w.obj c)) ∙ none))
        (λ d q r. secret_same v (w.obj c) (edit (relabel l x) (w.obj c)) (unfold veiled in (ap veiled (is_thread_lem (w.obj c).kind k)))
        (sym (edit_kind (relabel l x) (w.obj c))) (above c (omega arith))
        (gt_tainted v (edit (relabel l x) (w.obj c)) (unfold edit in (omega arith))) (unfold edit outside in (rw k)))

    -- insides that are hidden, of an object of the caller's level
    pub inside_quiet : (o : ℕ) (e : Edit) → lv v w o ≡ lv v w c → veiled (w.obj o).kind ≡ true → ((x : Obj) → (edit e x).label ≡ x.label)
        → ((x : Obj) → outside (edit e x) ≡ outside x) → Alike v (apply keep w) (apply (alter o e) w)
    inside_quiet o e q g same d =
        let n = above o (omega arith) in
        let m = edit_taint v e same (w.obj o) ∙ n in
        alter_quiet v w o e (tainted_no_room v (w.obj o) n) (tainted_no_room v (edit e (w.obj o)) m)
        (λ f i r. secret_same v (w.obj o) (edit e (w.obj o)) g (sym (edit_kind e (w.obj o))) n m (sym (d (w.obj o))))

    -- a quota that is not fixed is held by one container, which is the caller's
    pub held_quiet : (d o : ℕ) (e : Edit) → Held v w c d o → (w.obj o).fixed ≡ false → ((x : Obj) → (edit e x).label ≡ x.label)
        → Alike v (apply keep w) (apply (alter o e) w)
    held_quiet d o e h f same =
        let n = tainted_no_room v (w.obj o) (above o h.above) in
        alter_quiet v w o e n (edit_container v e same (w.obj o) ∙ n)
        (λ g q r. not_both (untainted_container v (w.obj g)) q
        (subst (λ (i : ℕ). untainted_container v (w.obj i) ≡ false) (so.one_link d g o h.is_linked r f) (mine_high d h.mine)))

    fix_quiet : (d o : ℕ) → Held v w c d o → Alike v (apply keep w) (apply (alter o fix) w)
    fix_quiet d o h =
        let n = tainted_no_room v (w.obj o) (above o h.above) in
        bool_cases (w.obj o).fixed
        (λ f. alter_quiet v w o fix n (edit_container v fix fix_label (w.obj o) ∙ n) (λ e q r. ap (seen v) (already (w.obj o) f)))
        (λ f. held_quiet d o fix h f fix_label)
      where
        already : (x : Obj) → x.fixed ≡ true → x ≡ edit fix x
        already x f = unfold edit in (rw (← f))

    -- THE LAW: a case for each change
    pub quiet : (h : Change) → Respects v w c h → Alike v (apply keep w) (apply h w)
    quiet keep f = alike_refl v (apply keep w)
    quiet (alter o (relabel l x)) f = subst (λ (m : ℕ). Alike v (apply keep w) (apply (alter m (relabel l x)) w)) (sym f.0) (relabel_quiet l x f.1)
    quiet (alter o fix) f = fix_quiet f.0 o f.1
    quiet (alter o (requota q)) f = held_quiet f.0 o (requota q) f.1 f.2 (requota_label q)
    quiet (alter o (rewrite b)) f =
        inside_quiet o (rewrite b) f.0 (unfold veiled in (ap veiled (is_segment_lem (w.obj o).kind f.1))) (rewrite_label b) (λ x. unfold edit outside in refl)
    quiet (create d x) f = create_quiet v w so d x (mine_high d f.0) (tainted_no_room v x (gt_tainted v x (omega (arith, f.1))))
    quiet (cut d o) f = cut_quiet v w so cl d o (mine_high d f.0) f.1
    quiet (link d o) f = link_quiet v w d o (mine_high d f.0)

  -- ---- an untainted caller, the same in both

  module _ (a b : World) (s : Alike v a b) (sa : Sound a) (sb : Sound b) (ca : TermsKept v a) (cb : TermsKept v b) (c : ℕ)
      (k : is_thread (a.obj c).kind ≡ true) (l : untainted v (a.obj c) ≡ true) (e : a.obj c ≡ b.obj c) where
    relabel_both : (x y : Label) → Alike v (apply (alter c (relabel x y)) a) (apply (alter c (relabel x y)) b)
    relabel_both x y =
        alter_both v a b s c (relabel x y) (thread_edit (a.obj c) k) (thread_edit (b.obj c) (subst (λ (o : Obj). is_thread o.kind ≡ true) e k))
        (λ h. ap (λ (o : Obj). seen v (edit (relabel x y) o)) e)
      where
        thread_edit : (o : Obj) → is_thread o.kind ≡ true → untainted_container v (edit (relabel x y) o) ≡ untainted_container v o
        thread_edit o h =
            let none = thread_no_container o.kind h in
            no_container_no_room v (edit (relabel x y) o) (ap is_container (edit_kind (relabel x y) o) ∙ none) ∙ sym (no_container_no_room v o none)

    -- an edit that leaves the label, and the same of what is always seen
    pub edit_both : (o : ℕ) (e : Edit) → ((x : Obj) → (edit e x).label ≡ x.label) → ((x y : Obj) → outside x ≡ outside y → outside (edit e x) ≡ outside (edit e y))
        → Alike v (apply (alter o e) a) (apply (alter o e) b)
    edit_both o e same d = alter_both v a b s o e (edit_container v e same (a.obj o)) (edit_container v e same (b.obj o)) (edit_seen v e same d (a.obj o) (b.obj o))

    -- THE LAW: a case for each change
    pub both : (h : Change) → Respects v a c h → Alike v (apply h a) (apply h b)
    both keep f = keep_both v a b s
    both (alter o (relabel x y)) f = subst (λ (m : ℕ). Alike v (apply (alter m (relabel x y)) a) (apply (alter m (relabel x y)) b)) (sym f.0) (relabel_both x y)
    both (alter o fix) f = edit_both o fix fix_label (λ x y q. unfold edit outside in (ap (edit fix) q))
    both (alter o (requota n)) f = edit_both o (requota n) (requota_label n) (λ x y q. unfold edit outside in (ap (edit (requota n)) q))
    both (alter o (rewrite n)) f = edit_both o (rewrite n) (rewrite_label n) (λ x y q. unfold edit outside in q)
    both (create d x) f = create_both v a b s sa sb d x
    both (cut d o) f = cut_both v a b s sa sb ca cb d o
    both (link d o) f =
        let g = f.1 in
        link_both v a b s d o
        (s.objs g.from o
        (room_of v (a.obj g.from) g.is_container_lem (le_untainted v (a.obj g.from) (omega (arith, g.level, untainted_le v (a.obj c) l)))) g.is_linked)
