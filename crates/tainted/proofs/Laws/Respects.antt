-- What the change of a granted call respects of levels in v, and how a verdict's tests show it.
use Rattle.std.specs.Prelude.{ℕ, ◌≤◌, Bool, true, false, ◌≡◌, List, ◌∷◌, ◌++◌}
use Rattle.std.proofs.lemmas.Bool.{not-true}
use Rattle.labels.specs.Core.{at}
use Rattle.rules.specs.Kernel.{is_thread, is_segment, is_container, Obj, World, Edit, relabel, fix, requota, rewrite, Change, keep, alter, create, cut, link}
use Rattle.rules.specs.Kernel.{Condition, all_hold, flow, writing, Verdict, grant, must, must_hold, opens, entry, make, move, access}
use Rattle.rules.specs.Sound.{Sound}
use Rattle.rules.proofs.Laws.Kinds.{thread_live}
use Rattle.rules.proofs.Laws.Must.{must_test, must_rest, hold_test, hold_rest, same_change, all_head, all_left, all_right}
use Rattle.rules.proofs.Laws.Entries.{opens_container, opens_read, entry_opens, entry_link}
use Rattle.tainted.proofs.Laws.Levels.{flow_holds, flows_at, reads_at, writes_at}
use Rattle.tainted.proofs.Laws.Alike.{TermsKept}

-- ---- what each change respects

-- the level of an object
abbrev pub lv : ℕ → World → ℕ → ℕ
lv v w o = at (w.obj o).label v

-- d is a container of the caller's level
pub record Mine (v : ℕ) (w : World) (c d : ℕ) : Type 0 where
  pub is_container_lem : is_container (w.obj d).kind ≡ true
  pub level : lv v w d ≡ lv v w c

-- o is linked in such a container, and is not below the caller
pub record Held (v : ℕ) (w : World) (c d o : ℕ) : Type 0 where
  pub mine : Mine v w c d
  pub is_linked : w.linked d o ≡ true
  pub above : lv v w c ≤ lv v w o

-- o is linked in a container that is not above the caller
pub record Found (v : ℕ) (w : World) (c o : ℕ) : Type 0 where
  pub from : ℕ
  pub is_container_lem : is_container (w.obj from).kind ≡ true
  pub is_linked : w.linked from o ≡ true
  pub level : lv v w from ≤ lv v w c

abbrev pub RespectsEdit : ℕ → World → ℕ → ℕ → Edit → Type 0
RespectsEdit v w c o (relabel l k) = (o ≡ c) × (lv v w c ≤ at l v)
RespectsEdit v w c o fix = (d : ℕ) × Held v w c d o
RespectsEdit v w c o (requota q) = (d : ℕ) × Held v w c d o × ((w.obj o).fixed ≡ false)
RespectsEdit v w c o (rewrite b) = (lv v w o ≡ lv v w c) × (is_segment (w.obj o).kind ≡ true)

abbrev pub Respects : ℕ → World → ℕ → Change → Type 0
Respects v w c keep = Unit {0}
Respects v w c (alter o e) = RespectsEdit v w c o e
Respects v w c (create d x) = Mine v w c d × (lv v w c ≤ at x.label v)
Respects v w c (cut d o) = Mine v w c d × (w.linked d o ≡ true)
Respects v w c (link d o) = Mine v w c d × Found v w c o × (is_segment (w.obj o).kind ≡ true)

-- whatever a verdict grants respects them
pub record Grants (v : ℕ) (w : World) (c : ℕ) (r : Verdict) : Type 0 where
  pub respected : (n : ℕ) (l : List ℕ) (h : Change) → r ≡ grant n l h → Respects v w c h

-- c is a live thread of a sound world that keeps the start's terms
pub record Calling (v : ℕ) (w : World) (c : ℕ) : Type 0 where
  pub sound : Sound w
  pub terms : TermsKept v w
  pub is_thread_lem : is_thread (w.obj c).kind ≡ true

-- ---- tests

module _ {v : ℕ} {w : World} {c : ℕ} where
  -- a test passed, and what is granted after it
  pub pass : (p : Bool) (k : ℕ) (r : Verdict) → (p ≡ true → Grants v w c r) → Grants v w c (must p k r)
  pass p k r f = record { respected = λ n l h e. (f (must_test n l h p k r e)).respected n l h (must_rest n l h p k r e) }

  -- the label conditions passed
  pub pass7 : (qs : List Condition) (r : Verdict) → (all_hold qs ≡ true → Grants v w c r) → Grants v w c (must_hold qs r)
  pass7 qs r f = record { respected = λ n l h e. (f (hold_test n l h qs r e)).respected n l h (hold_rest n l h qs r e) }

  pub done : (n : ℕ) (l : List ℕ) (h : Change) → Respects v w c h → Grants v w c (grant n l h)
  done n l h f = record { respected = λ m k g e. same_change (Respects v w c) n m l k h g e f }

  -- ---- what was named

  module _ (t : Calling v w c) where
    pub some : 1 ≤ lv v w c
    some = t.terms.no_star c (thread_live (w.obj c).kind t.is_thread_lem)

    opens_level : (d : ℕ) → opens w (w.obj c) d ≡ true → lv v w d ≤ lv v w c
    opens_level d p = reads_at v (w.obj c).label some (w.obj d).label (opens_read w (w.obj c) d p)

    pub mine : (d : ℕ) (more : List Condition) → opens w (w.obj c) d ≡ true → all_hold (writing (w.obj c).label (w.obj d).label ++ more) ≡ true → Mine v w c d
    mine d more p q =
        record {
          is_container_lem = opens_container w (w.obj c) d p;
          level = writes_at v (w.obj c).label some (w.obj d).label (all_left (writing (w.obj c).label (w.obj d).label) more q);
        }

    pub mine_entry : (d o : ℕ) → entry w (w.obj c) d o ≡ true → all_hold (writing (w.obj c).label (w.obj d).label) ≡ true → Mine v w c d
    mine_entry d o p q =
        record { is_container_lem = opens_container w (w.obj c) d (entry_opens w (w.obj c) d o p); level = writes_at v (w.obj c).label some (w.obj d).label q }

    pub found : (d o : ℕ) → entry w (w.obj c) d o ≡ true → Found v w c o
    found d o p =
        record {
          from = d;
          is_container_lem = opens_container w (w.obj c) d (entry_opens w (w.obj c) d o p);
          is_linked = entry_link w (w.obj c) d o p;
          level = opens_level d
              (entry_opens w (w.obj c) d o p);
        }

    -- the caller's label flows to x, a condition after those of writing d
    pub not_below : (d : ℕ) (x : Obj) (more : List Condition)
        → all_hold (writing (w.obj c).label (w.obj d).label ++ (flow (w.obj c).label x.label ∷ more)) ≡ true → lv v w c ≤ at x.label v
    not_below d x more q =
        flows_at v (w.obj c).label x.label (flow_holds _ _ (all_head _ more (all_right (writing (w.obj c).label (w.obj d).label) _ q)))

    pub held : (d o : ℕ) (more : List Condition) → entry w (w.obj c) d o ≡ true
        → all_hold (writing (w.obj c).label (w.obj d).label ++ (flow (w.obj c).label (w.obj o).label ∷ more)) ≡ true → Held v w c d o
    held d o more p q = record { mine = mine d _ (entry_opens w (w.obj c) d o p) q; is_linked = entry_link w (w.obj c) d o p; above = not_below d (w.obj o) more q }

    -- ---- by the rules that calls share

    pub make_respects : (d : ℕ) (x : Obj) (more : List Condition) → Grants v w c (make w (w.obj c) d x more)
    unfolding make
    make_respects d x more =
        pass _ 5 _ (λ p. pass7 _ _ (λ q. pass _ 8 _ (λ r. pass _ 13 _ (λ u. done _ _ (create d x) (mine d _ p q, not_below d x more q)))))

    pub move_respects : (d o : ℕ) (more : List Condition) (rest : Verdict) → (Held v w c d o → (w.obj o).fixed ≡ false → Grants v w c rest)
        → Grants v w c (move w (w.obj c) d o more rest)
    unfolding move
    move_respects d o more rest f =
        pass _ 5 _ (λ p. pass _ 6 _ (λ r. pass7 _ _ (λ q. pass _ 9 _ (λ u. f (held d o _ p q) (not-true (w.obj o).fixed u)))))

    pub access_respects : (d o : ℕ) (qs : List Condition) (rest : Verdict) → (is_segment (w.obj o).kind ≡ true → all_hold qs ≡ true → Grants v w c rest)
        → Grants v w c (access w (w.obj c) d o qs rest)
    unfolding access
    access_respects d o qs rest f = pass _ 5 _ (λ p. pass _ 6 _ (λ r. pass7 _ _ (λ q. f r q)))

    -- a segment that the caller may write is of its level
    pub rewrites : (o : ℕ) → is_segment (w.obj o).kind ≡ true → all_hold (writing (w.obj c).label (w.obj o).label) ≡ true
        → (lv v w o ≡ lv v w c) × (is_segment (w.obj o).kind ≡ true)
    rewrites o r q = (writes_at v (w.obj c).label some (w.obj o).label q, r)
