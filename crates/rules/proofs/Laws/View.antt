-- A sound world as a book of rows and links, as the theory of quotas sees it: row o is the object o, link l is that of l % n in l / n, for the next number n.
use Rattle.std.specs.Prelude.{ℕ, zero, suc, ◌+◌, ◌*◌, ◌/◌, ◌%◌, ◌<◌, ◌≤◌, Bool, ◌≡◌, refl, eqb}
use Rattle.std.proofs.Common.{div-add-mod', sym, ◌∙◌, ap, eqb-true, eq-eqb, ne_eqb}
use native.Mathlib.Omega.{arith}
use Rattle.std.proofs.Math.Bool.{true, false, cond}
use Rattle.std.proofs.Math.Path.{ap₂, subst}
use Rattle.quotas.specs.Sum.{Σ, when, sum_cong, sum_none, sum_only, sum_term, sum_when, sum_point, when_true, when_false, when_none, when_swap}
use Rattle.quotas.specs.Tree.{View, Sound as Fitting, linked, use_of_lem, links, Way, here, step}
use Rattle.rules.specs.Kernel.{is_live, is_container, is_segment, World, charged, use_of, hold_of, under}
use Rattle.rules.specs.Sound.{Sound}
use Rattle.rules.proofs.Laws.Bools.{not_both}
use Rattle.rules.proofs.Laws.Kinds.{container_live, container_no_segment}
use Rattle.rules.proofs.Laws.Usage.{use_container, use_some, held_below, holder_below}
use Rattle.rules.proofs.Laws.Below.{container_free, under_step}
use Rattle.rules.proofs.Laws.Square.{row_of, column_of, place_below, sum_square}

abbrev pub view_of : World → View
view_of w =
    record {
      live = λ o. is_live (w.obj o).kind;
      con = λ o. is_container (w.obj o).kind;
      quota = λ o. (w.obj o).quota;
      hold = hold_of w;
      on = λ l. w.linked (l / w.next) (l % w.next);
      par = λ l. l / w.next;
      obj = λ l. l % w.next;
    }

abbrev pub link_count : World → ℕ
link_count w = w.next * w.next

-- the link of o in d
abbrev place : World → ℕ → ℕ → ℕ
place w d o = d * w.next + o

-- what is linked in a container is what it is charged with
view_linked : (w : World) (c : ℕ) → c < w.next → linked (view_of w) (link_count w) c ≡ charged w c
unfolding linked charged
view_linked w c l =
    sum_square w.next (λ i j. when (w.linked i j) (when (eqb i c) (w.obj j).quota))
    ∙ sum_cong w.next _ (λ i. when (eqb i c) (Σ w.next (λ j. when (w.linked i j) (w.obj j).quota)))
    (λ i k.
    sum_cong w.next _ (λ j. when (eqb i c) (when (w.linked i j) (w.obj j).quota)) (λ j m. when_swap (w.linked i j) (eqb i c) (w.obj j).quota)
    ∙ sum_when w.next (eqb i c) (λ j. when (w.linked i j) (w.obj j).quota))
    ∙ sum_point w.next (λ i. Σ w.next (λ j. when (w.linked i j) (w.obj j).quota)) c l

module _ (w : World) (s : Sound w) where
  at_place : (d o : ℕ) → w.linked d o ≡ true → (P : ℕ → ℕ → Type 0) → P d o → P (place w d o / w.next) (place w d o % w.next)
  at_place d o l P p =
      subst (λ (i : ℕ). P i (place w d o % w.next)) (sym (row_of w.next d o (held_below w s d o l)))
      (subst (P d) (sym (column_of w.next d o (held_below w s d o l))) p)

  -- the links that lead to r, one by one
  leads : ℕ → ℕ → ℕ
  leads r l = when (w.linked (l / w.next) (l % w.next)) (when (eqb (l % w.next) r) 1)

  leads_one : (d r : ℕ) → w.linked d r ≡ true → leads r (place w d r) ≡ 1
  unfolding leads
  leads_one d r l =
      at_place d r l (λ i j. when (w.linked i j) (when (eqb j r) 1) ≡ 1)
      (when_true (w.linked d r) (when (eqb r r) 1) l ∙ when_true (eqb r r) 1 (eq-eqb r r refl))

  -- a link that leads to r is r's in its container
  leads_none : (r l : ℕ) → (l % w.next ≡ r → w.linked (l / w.next) r ≡ true → ⊥) → leads r l ≡ 0
  unfolding leads
  leads_none r l n =
      when_none (w.linked (l / w.next) (l % w.next)) _
      (λ on. when_false (eqb (l % w.next) r) 1 (ne_eqb (l % w.next) r (λ e. n e (subst (λ (o : ℕ). w.linked (l / w.next) o ≡ true) e on))))

  links_some : (d r : ℕ) → w.linked d r ≡ true → 1 ≤ links (view_of w) (link_count w) r
  unfolding links leads
  links_some d r l =
      omega (arith, sum_term (link_count w) (leads r) (place w d r) (place_below w.next d r (held_below w s d r l) (holder_below w s d r l)), leads_one d r l)

  links_one : (d r : ℕ) → w.linked d r ≡ true → (w.obj r).fixed ≡ false → links (view_of w) (link_count w) r ≡ 1
  unfolding links leads
  links_one d r l f =
      sum_only (link_count w) (leads r) (place w d r) (place_below w.next d r (held_below w s d r l) (holder_below w s d r l))
      (λ k m n. leads_none r k (λ q on.
      n (sym (div-add-mod' k w.next) ∙ ap₂ (λ (i j : ℕ). i * w.next + j) (s.one_link (k / w.next) d r on l f) q)))
      ∙ leads_one d r l

  hold_some : (o : ℕ) → is_live (w.obj o).kind ≡ true → (1 ≤ hold_of w o) × (hold_of w o ≤ (w.obj o).quota)
  unfolding hold_of
  hold_some o k = go (is_segment (w.obj o).kind)
    where
      go : (t : Bool) → (1 ≤ cond t (use_of w o) 1) × (cond t (use_of w o) 1 ≤ (w.obj o).quota)
      go true = (use_some w o, s.uses o k)
      go false = (omega arith, (s.ranges o k).quota_some)

  hold_container : (o : ℕ) → is_container (w.obj o).kind ≡ true → hold_of w o ≡ 1
  unfolding hold_of
  hold_container o k = rw (container_no_segment (w.obj o).kind k)

  root_live : is_live (w.obj w.root).kind ≡ true
  root_live = container_live (w.obj w.root).kind s.tree.root_container

  pub view_fitting : Fitting (view_of w) w.next (link_count w) w.root
  unfolding links use_of_lem leads
  view_fitting = record {
    par_con = λ l m on. (holder_below w s _ _ on, s.tree.holder _ _ on);
    obj_live = λ l m on. (held_below w s _ _ on, s.tree.held _ _ on);
    con_live = λ c k. container_live (w.obj c).kind k;
    root_in = (s.ids w.root root_live).1;
    root_con = s.tree.root_container;
    root_none = sum_none (link_count w) (leads w.root) (λ l m. leads_none w.root l (λ q on. not_both _ on (s.tree.root_top (l / w.next))));
    one = λ c l k n.
        let (d, on) = s.has_link c (container_live (w.obj c).kind k) n in
        links_one d c on (container_free w s c k);
    some = λ r l k nc.
        let not_root : (r ≡ w.root → ⊥) = λ e. not_both (is_container (w.obj r).kind) (ap (λ (o : ℕ). is_container (w.obj o).kind) e ∙ s.tree.root_container) nc in
        let (d, on) = s.has_link r k not_root in
        links_some d r on;
    fits = λ c l k. omega (arith, view_linked w c l, use_container w c k, s.uses c (container_live (w.obj c).kind k));
    holds = λ r l k. hold_some r k;
    con_holds = λ c k. hold_container c k;
  }

  -- k links down in the world are k links down in the view
  pub under_way : (o k e : ℕ) → under w o k e ≡ true → Way (view_of w) (link_count w) k o e
  under_way o zero e h = unfold under in (subst (λ (i : ℕ). Way (view_of w) (link_count w) 0 o i) (sym (eqb-true e o h)) (here o))
  under_way o (suc k) e h =
      let (d, on, t) = under_step w o k e h in
      let l = place w d e in
      let m = place_below w.next d e (held_below w s d e on) (holder_below w s d e on) in
      let r = row_of w.next d e (held_below w s d e on) in
      subst (λ (i : ℕ). Way (view_of w) (link_count w) (suc k) o i) (column_of w.next d e (held_below w s d e on))
      (step l m (at_place d e on (λ i j. w.linked i j ≡ true) on) (subst (λ (i : ℕ). Way (view_of w) (link_count w) k o i) (sym r) (under_way o k d t)))
