-- An untainted caller before two worlds that are alike: what it names, and the tests that calls share, are
-- the same.
use Rattle.std.specs.Prelude.{ℕ, ◌-◌, ◌≤◌, Bool, true, false, ◌&&◌, ◌||◌, ◌≡◌, refl, List, ◌∷◌, ◌++◌}
use Rattle.std.proofs.Common.{arith, subst, ◌∙◌}
use Rattle.std.proofs.Math.Bool.{not}
use Rattle.std.proofs.Math.Path.{sym, ap, ap₂}
use Rattle.std.proofs.Math.Dec.{leb}
use Rattle.labels.specs.declared.Label.{Label}
use Rattle.labels.specs.Core.{at, may_read}
use Rattle.quotas.specs.Sum.{Σ, when, sum_cong, when_cong}
use Rattle.rules.specs.Kernel.{Kind, is_thread, is_segment, is_container, Obj, World, charged, spare_of, Condition, all_hold, flow, reading, writing, Verdict, unless, must, why_not, must_hold}
use Rattle.rules.specs.Kernel.{opens, entry, fits, make, move, access, look_bytes}
use Rattle.rules.proofs.Laws.Bools.{not_both, not_i, bool_cases}
use Rattle.rules.proofs.Laws.Kinds.{segment_no_thread}
use Rattle.rules.proofs.Laws.Entries.{opens_container, opens_read, entry_opens, entry_link}
use Rattle.rules.proofs.Laws.Must.{all_tail, all_right}
use Rattle.rules.proofs.Laws.Usage.{use_same}
use Rattle.tainted.specs.Tainted.{untainted, untainted_container}
use Rattle.tainted.proofs.Laws.Levels.{reads_at, reading_holds}
use Rattle.tainted.proofs.Laws.Rooms.{untainted_le, le_untainted, room_of, room_untainted}
use Rattle.tainted.specs.Laws.Seen.{seen}
use Rattle.tainted.proofs.Laws.Seen.{movable_no_thread, same_whole, same_kind, same_quota, same_fixed, same_description}
use Rattle.tainted.proofs.Laws.Seen.{same_taint, same_label}
use Rattle.tainted.proofs.Laws.Alike.{Alike}

-- ---- tests

pub must_same : (p q : Bool) (k : ℕ) (r u : Verdict) → p ≡ q → (p ≡ true → r ≡ u) → must p k r ≡ must q k u
unfolding unless must
must_same true q k r u e f = rw (← e) (f refl)
must_same false q k r u e f = rw (← e)

-- The same label conditions, in the same order: whatever answer 7 tells of them is the same.
pub must7_same : (qs rs : List Condition) (r u : Verdict) → qs ≡ rs → (all_hold qs ≡ true → r ≡ u) → must_hold qs r ≡ must_hold rs u
unfolding must_hold unless
must7_same qs rs r u e f = subst (λ xs. must_hold qs r ≡ must_hold xs u) e (go (all_hold qs) f)
  where
    go : (p : Bool) → (p ≡ true → r ≡ u) → unless p (why_not qs) r ≡ unless p (why_not qs) u
    go true f = f refl
    go false f = refl

pub and_same : (a b c d : Bool) → a ≡ b → (a ≡ true → c ≡ d) → (a && c) ≡ (b && d)
and_same true b c d p q = rw (← p, q refl)
and_same false b c d p q = rw (← p)

-- ---- the caller t and the worlds a and b

pub record Before (v : ℕ) (t : Obj) (a b : World) : Type 0 where
  pub no_star : 1 ≤ at t.label v
  pub is_untainted : untainted v t ≡ true
  pub alike : Alike v a b

module _ {v : ℕ} {t : Obj} {a b : World} (s : Before v t a b) where
  -- what such a caller reads is untainted
  pub reads_untainted : (x : Obj) → may_read t.label x.label ≡ true → untainted v x ≡ true
  reads_untainted x h =
      le_untainted v x (omega (arith, reads_at v t.label s.no_star x.label h, untainted_le v t s.is_untainted))

  opens_room : (w : World) (d : ℕ) → opens w t d ≡ true → untainted_container v (w.obj d) ≡ true
  opens_room w d h = room_of v (w.obj d) (opens_container w t d h) (reads_untainted (w.obj d) (opens_read w t d h))

  pub room : (d : ℕ) → opens a t d ≡ true → untainted_container v (a.obj d) ≡ true
  room d h = opens_room a d h

  -- ---- what is named

  -- RULES 6.5: a container that may not be read and one that does not exist are one answer. What opens in one
  -- world opens in the other.
  pub opens_same : (d : ℕ) → opens a t d ≡ opens b t d
  opens_same d =
      bool_cases (untainted_container v (a.obj d))
      (λ h. unfold opens in (ap (λ (x : Obj). is_container x.kind && may_read t.label x.label) (s.alike.room_objs d h)))
      (λ h. not_i (opens a t d) (λ q. not_both (untainted_container v (a.obj d)) (opens_room a d q) h)
      ∙ sym (not_i (opens b t d) (λ q. not_both (untainted_container v (b.obj d)) (opens_room b d q) (sym (s.alike.rooms d) ∙ h))))

  pub open_obj : (d : ℕ) → opens a t d ≡ true → a.obj d ≡ b.obj d
  open_obj d h = s.alike.room_objs d (room d h)

  pub entry_same : (d o : ℕ) → entry a t d o ≡ entry b t d o
  unfolding entry
  entry_same d o = and_same (opens a t d) (opens b t d) (a.linked d o) (b.linked d o) (opens_same d) (λ h. s.alike.links d o (room d h))

  -- what is linked in an open container looks the same
  pub entry_seen : (d o : ℕ) → entry a t d o ≡ true → seen v (a.obj o) ≡ seen v (b.obj o)
  entry_seen d o h = s.alike.objs d o (room d (entry_opens a t d o h)) (entry_link a t d o h)

  -- and is the same if it is read
  pub read_obj : (o : ℕ) → seen v (a.obj o) ≡ seen v (b.obj o) → all_hold (reading t.label (a.obj o).label) ≡ true → a.obj o ≡ b.obj o
  read_obj o i q = same_whole v (a.obj o) (b.obj o) i (reads_untainted (a.obj o) (reading_holds t.label (a.obj o).label q))

  -- ---- units

  charged_same : (d : ℕ) → untainted_container v (a.obj d) ≡ true → charged b d ≡ charged a d
  unfolding charged
  charged_same d h =
      sym (sum_cong a.next (λ o. when (a.linked d o) (a.obj o).quota) (λ o. when (b.linked d o) (b.obj o).quota)
      (λ o l. when_cong (a.linked d o) (a.obj o).quota (b.obj o).quota (λ k. same_quota v (a.obj o) (b.obj o) (s.alike.objs d o h k))
      ∙ ap (λ (k : Bool). when k (b.obj o).quota) (s.alike.links d o h))
      ∙ ap (λ (n : ℕ). Σ n (λ o. when (b.linked d o) (b.obj o).quota)) s.alike.same_next)

  pub fits_same : (o n : ℕ) → a.obj o ≡ b.obj o → untainted v (a.obj o) ≡ true → fits a o n ≡ fits b o n
  unfolding fits spare_of
  fits_same o n e l =
      ap₂ (λ (q u : ℕ). leb n (q - u)) (ap (λ (x : Obj). x.quota) e)
      (sym (use_same a b o o (sym (ap (λ (x : Obj). x.kind) e)) (sym (ap (λ (x : Obj). x.bytes) e))
      (λ k. charged_same o (room_of v (a.obj o) k l))))

  pub room_same : (d n : ℕ) → opens a t d ≡ true → fits a d n ≡ fits b d n
  room_same d n h = fits_same d n (open_obj d h) (room_untainted v (a.obj d) (room d h))

  -- ---- by the rules that calls share

  pub make_same : (d : ℕ) (x y : Obj) (more : List Condition) → (opens a t d ≡ true → x ≡ y) → make a t d x more ≡ make b t d y more
  unfolding make
  make_same d x y more e =
      must_same (opens a t d) (opens b t d) 5 _ _ (opens_same d) (λ h.
      let q = open_obj d h in
      let f = e h in
      must7_same _ _ _ _ (rw (q, f)) (λ h7.
      must_same _ _ 8 _ _ (rw (q, f)) (λ h8.
      must_same _ _ 13 _ _ (rw f (room_same d y.quota h)) (λ h13.
      rw (s.alike.same_next, f)))))

  -- a segment, or a container, in an open container: the conditions on its label are the same
  pub access_same : (d o : ℕ) (f : Label → List Condition) (r u : Verdict)
      → (seen v (a.obj o) ≡ seen v (b.obj o) → all_hold (f (a.obj o).label) ≡ true → r ≡ u)
      → access a t d o (f (a.obj o).label) r ≡ access b t d o (f (b.obj o).label) u
  unfolding access
  access_same d o f r u g =
      must_same _ _ 5 _ _ (entry_same d o) (λ h.
      let i = entry_seen d o h in
      must_same _ _ 6 _ _ (ap is_segment (same_kind v (a.obj o) (b.obj o) i)) (λ h6.
      must7_same _ _ _ _ (ap f (same_label v (a.obj o) (b.obj o) i (segment_no_thread (a.obj o).kind h6))) (λ h7.
      g i h7)))

  pub move_same : (d o : ℕ) (f : Label → List Condition) (r u : Verdict)
      → (opens a t d ≡ true → seen v (a.obj o) ≡ seen v (b.obj o) → all_hold (f (a.obj o).label) ≡ true → r ≡ u)
      → move a t d o (f (a.obj o).label) r ≡ move b t d o (f (b.obj o).label) u
  unfolding move
  move_same d o f r u g =
      must_same _ _ 5 _ _ (entry_same d o) (λ h.
      let z = entry_opens a t d o h in
      let q = open_obj d z in
      let i = entry_seen d o h in
      must_same _ _ 6 _ _ (ap (λ (k : Kind). is_segment k || is_container k) (same_kind v (a.obj o) (b.obj o) i)) (λ h6.
      let m = same_label v (a.obj o) (b.obj o) i (movable_no_thread (a.obj o).kind h6) in
      must7_same _ _ _ _ (conditions q m) (λ h7.
      must_same _ _ 9 _ _ (ap not (same_fixed v (a.obj o) (b.obj o) i)) (λ h9.
      g z i (all_tail _ _ (all_tail _ _ (all_right (writing t.label (a.obj d).label) _ h7)))))))
    where
      conditions : a.obj d ≡ b.obj d → (a.obj o).label ≡ (b.obj o).label
          → writing t.label (a.obj d).label ++ (flow t.label (a.obj o).label ∷ flow (a.obj o).label t.clearance ∷ f (a.obj o).label)
          ≡ writing t.label (b.obj d).label ++ (flow t.label (b.obj o).label ∷ flow (b.obj o).label t.clearance ∷ f (b.obj o).label)
      conditions q m =
          ap₂ (λ (x y : Label). writing t.label x ++ (flow t.label y ∷ flow y t.clearance ∷ f y)) (ap (λ (x : Obj). x.label) q) m

  -- ---- what a look shows

  unread : (x : Obj) → untainted v x ≡ false → may_read t.label x.label ≡ false
  unread x n = not_i (may_read t.label x.label) (λ r. not_both (untainted v x) (reads_untainted x r) n)

  -- of what looks the same a look shows the same
  pub look_seen : (x y : Obj) → seen v x ≡ seen v y → look_bytes t.label x ≡ look_bytes t.label y
  look_seen x y i =
      bool_cases (untainted v x) (λ l. ap (look_bytes t.label) (same_whole v x y i l))
      (λ n. bool_cases (is_thread x.kind)
      (λ k. unfold look_bytes in
      (rw (unread x n, unread y (sym (same_taint v x y i) ∙ n), same_description v x y i, same_kind v x y i, ap is_thread (sym (same_kind v x y i)) ∙ k)))
      (λ k. unfold look_bytes in (rw (same_label v x y i k, same_description v x y i, same_kind v x y i))))
