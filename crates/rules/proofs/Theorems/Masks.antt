-- What a mask forbids does not come in (W2): by no call, so in no history.
use Rattle.std.specs.Prelude.{ℕ, ◌<◌, Bool, true, false, cond, ◌&&◌, ◌≡◌, refl, leb}
use Rattle.std.proofs.Common.{arith}
use Rattle.rules.specs.Kernel.{is_live, World, nothing, Change, keep, alter, create, cut, link, apply, number_of, Verdict, refused, grant, Call, forbids, call, leaves, after}
use Rattle.rules.specs.Kernel.{start, History, beginning, next, world_after}
use Rattle.rules.specs.Sound.{Sound}
use Rattle.rules.specs.Fair.{Fair}
use Rattle.rules.specs.Histories.{first_world, WellStarted}
use Rattle.rules.specs.Ledger.{Line, line_if}
use Rattle.rules.specs.Masks.{forbidden_in}
use Rattle.rules.proofs.Laws.Bools.{and_l, and_r, and_i, not_i, not_both}
use Rattle.rules.proofs.Laws.Kinds.{container_live, nothing_dead}
use Rattle.rules.proofs.Laws.Must.{passed}
use Rattle.rules.proofs.Laws.Put.{put_same, put_other, put_at, link_cases}
use Rattle.rules.proofs.Laws.Edit.{edit_mask, alter_kind, alter_field}
use Rattle.rules.proofs.Laws.Below.{stays_linked}
use Rattle.rules.proofs.Laws.Effects.{cut_at}
use Rattle.rules.proofs.Laws.Booked.{Booked, keeps, relabels, fixes, rewrites, cuts, makes, ties, moves, takes, booked}
use Rattle.rules.proofs.Laws.Grants.{grants_fair}
use Rattle.rules.proofs.Laws.StartSound.{start_allows}
use Rattle.rules.proofs.Laws.Keep.{keep_sound}
use Rattle.rules.proofs.Theorems.StaysSound.{history_sound}

-- ---- what is granted

-- what a change links anew is of a kind that the container does not forbid
abbrev Allowed : World → Change → Type 0
Allowed w keep = Unit {0}
Allowed w (alter o e) = Unit {0}
Allowed w (create d x) = forbids (w.obj d).mask x.kind ≡ false
Allowed w (cut d o) = Unit {0}
Allowed w (link d o) = forbids (w.obj d).mask (w.obj o).kind ≡ false

-- so it is of every granted call
allowed : (w : World) (c : ℕ) (l : Line) (h : Change) → Booked w c l h → Allowed w h
allowed w c l h keeps = tt
allowed w c l h (relabels o x k) = tt
allowed w c l h (fixes o) = tt
allowed w c l h (rewrites o b m) = tt
allowed w c l h (cuts d o) = tt
allowed w c l h (makes d x m a) = a
allowed w c l h (ties d o m i a) = a
allowed w c l h (moves d o n m i f) = tt
allowed w c l h (takes d o n m k i f z) = tt

-- ---- what a change leaves

-- a live object that was there before has the kind and the mask that it had
kept_same : (w : World) (h : Change) (o : ℕ) → o < w.next → is_live ((apply h w).obj o).kind ≡ true
    → (((apply h w).obj o).kind ≡ (w.obj o).kind) × (((apply h w).obj o).mask ≡ (w.obj o).mask)
unfolding apply
kept_same w keep o i e = (refl, refl)
kept_same w (alter p d) o i e = (alter_kind w p d o, alter_field w p d (λ x. x.mask) (edit_mask d (w.obj p)) o)
kept_same w (create d x) o i e =
    put_at (λ y. (y.kind ≡ (w.obj o).kind) × (y.mask ≡ (w.obj o).mask)) w.next x w.obj o (λ q. absurd (omega arith)) (λ n. (refl, refl))
kept_same w (cut d p) o i e =
    cut_at (λ y. is_live y.kind ≡ true → (y.kind ≡ (w.obj o).kind) × (y.mask ≡ (w.obj o).mask)) w d p o
    (λ q k. (refl, refl)) (λ q k. not_both (is_live nothing.kind) k nothing_dead) e
kept_same w (link d p) o i e = (refl, refl)

-- the link that a change makes
abbrev Newly : World → Change → ℕ → ℕ → Type 0
Newly w keep d o = ⊥
Newly w (alter p e) d o = ⊥
Newly w (create e x) d o = (d ≡ e) × (o ≡ w.next)
Newly w (cut e p) d o = ⊥
Newly w (link e p) d o = (d ≡ e) × (o ≡ p)

-- a link after a change was there before, or it is the one that the change made
link_before : {C : Type 0} (w : World) (h : Change) (d o : ℕ) → (apply h w).linked d o ≡ true → (w.linked d o ≡ true → C) → (Newly w h d o → C) → C
unfolding apply
link_before w keep d o l old new = old l
link_before w (alter p e) d o l old new = old l
link_before w (create e x) d o l old new = link_cases e w.next w.linked d o l (λ q r. new (q, r)) old
link_before w (cut e p) d o l old new = old (stays_linked w e p d o l)
link_before w (link e p) d o l old new = link_cases e p w.linked d o l (λ q r. new (q, r)) old

module _ (w : World) (s : Sound w) where
  -- what is linked anew is allowed there
  new_allowed : (h : Change) → Fair w h → Allowed w h → (d o : ℕ) → Newly w h d o → forbids ((apply h w).obj d).mask ((apply h w).obj o).kind ≡ false
  unfolding apply
  new_allowed keep f a d o n = absurd n
  new_allowed (alter p e) f a d o n = absurd n
  new_allowed (create e x) f a d o (q, r) =
      let i = (s.ids e (container_live (w.obj e).kind f.is_container_lem)).1 in
      rw (put_other w.next x w.obj d (λ z. omega arith), put_same w.next x w.obj o r, q) a
  new_allowed (cut e p) f a d o n = absurd n
  new_allowed (link e p) f a d o (q, r) = rw (q, r) a

  -- so what stands in spite of a mask stood there before
  brings_none : (h : Change) → Fair w h → Allowed w h → Sound (apply h w) → (d o : ℕ) → forbidden_in (apply h w) d o ≡ true → forbidden_in w d o ≡ true
  unfolding forbidden_in
  brings_none h f a t d o e =
      let l = and_l ((apply h w).linked d o) (forbids ((apply h w).obj d).mask ((apply h w).obj o).kind) e in
      let m = and_r ((apply h w).linked d o) (forbids ((apply h w).obj d).mask ((apply h w).obj o).kind) e in
      link_before w h d o l
      (λ k.
      let low-d = (s.ids d (container_live (w.obj d).kind (s.tree.holder d o k))).1 in
      let low-o = (s.ids o (s.tree.held d o k)).1 in
      let (kd, md) = kept_same w h d low-d (container_live ((apply h w).obj d).kind (t.tree.holder d o l)) in
      let (ko, mo) = kept_same w h o low-o (t.tree.held d o l) in
      and_i (w.linked d o) (forbids (w.obj d).mask (w.obj o).kind) k (rw (← md, ← ko) m))
      (λ n. not_both (forbids ((apply h w).obj d).mask ((apply h w).obj o).kind) m (new_allowed h f a d o n))

-- a refused call brings none
stopped : (w : World) (d o : ℕ) (p : Bool) → forbidden_in (cond p w (apply keep w)) d o ≡ true → forbidden_in w d o ≡ true
unfolding forbidden_in apply
stopped w d o true e = e
stopped w d o false e = e

-- No call brings an object into a container whose mask forbids its kind: where one stands after the call, it stood there before.
pub none_comes_in : (w : World) → Sound w → (c : ℕ) (x : Call) (d o : ℕ) → forbidden_in (after w c x) d o ≡ true → forbidden_in w d o ≡ true
unfolding after leaves
none_comes_in w s c x d o = judged (call w c x) refl
  where
    judged : (r : Verdict) → call w c x ≡ r → forbidden_in (leaves r w) d o ≡ true → forbidden_in w d o ≡ true
    judged (refused f) q = stopped w d o (leb (number_of f) 2)
    judged (grant v b h) q =
        let p = passed w c x v b h q in
        let f = grants_fair w s c p.caller x p.arguments v b h p.judged in
        brings_none w s h f (allowed w c (line_if w.next x) h (booked w c v b h x q)) (keep_sound w s p.number h f) d o

-- So a history that began with none has none,
pub never_forbidden : (h : History) → WellStarted h → ((d o : ℕ) → forbidden_in (first_world h) d o ≡ false) → (d o : ℕ) → forbidden_in (world_after h) d o ≡ false
unfolding world_after first_world
never_forbidden (beginning w) g n d o = n d o
never_forbidden (next h c x) g n d o =
    not_i (forbidden_in (after (world_after h) c x) d o) (λ e.
    not_both (forbidden_in (world_after h) d o) (none_comes_in (world_after h) (history_sound h g) c x d o e) (never_forbidden h g n d o))

-- and Start begins with none.
pub start_forbids_none : (f d o : ℕ) → forbidden_in (start f) d o ≡ false
unfolding forbidden_in
start_forbids_none f d o =
    let p = forbids ((start f).obj d).mask ((start f).obj o).kind in
    not_i ((start f).linked d o && p) (λ e. not_both p (and_r ((start f).linked d o) p e) (start_allows f d o (and_l ((start f).linked d o) p e)))
