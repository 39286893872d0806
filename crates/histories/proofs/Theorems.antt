-- The demands are met, and W2 and W5. Each statement stands in Demands, or in Unseen.
use Rattle.std.specs.Prelude.{ℕ, ◌+◌, ◌*◌, ◌≤◌, ◌<◌, Bool, true, false, cond, ◌≡◌, refl, List, [], ◌∷◌, length, get_or, eqb, leb}
use Rattle.std.proofs.Math.Decide.{ℕ_discrete}
use Rattle.std.proofs.Common.{arith, sym, ap, subst, ◌∙◌, eqb-true}
use Rattle.quotas.specs.Sum.{Σ, when}
use Rattle.rules.specs.Kernel.{World, Call, link, read, resize, is_live, is_container, is_segment, units, hold_of, spare_of, startable, call, after, answer_of, value_of, Verdict, History}
use Rattle.rules.specs.Kernel.{beginning, start, started, next, world_after, block_size}
use Rattle.rules.specs.Histories.{first_world}
use Rattle.rules.specs.Masks.{forbidden_in}
use Rattle.rules.specs.Answers.{one_of}
use Rattle.rules.specs.Trees.{in_tree}
use Rattle.rules.specs.Written.{last_written}
use Rattle.rules.specs.Ledger.{reckoned, spends, draws, needs, refused_earlier, writer}
use Rattle.rules.proofs.Theorems.Refusals.{never_one}
use Rattle.rules.proofs.Theorems.Holds.{history_tree_holds}
use Rattle.rules.proofs.Theorems.Reckoned.{reckoned_is_spare}
use Rattle.rules.proofs.Theorems.Exactly.{exactly}
use Rattle.rules.proofs.Theorems.Shrinks.{reckoned_shrinks_by}
use Rattle.rules.proofs.Theorems.Reads.{read_shows}
use Rattle.rules.proofs.Theorems.Granted.{room_is_kept, growth_is_kept}
use Rattle.rules.proofs.Theorems.StaysSound.{history_sound}
use Rattle.rules.proofs.Theorems.Masks.{none_comes_in, never_forbidden, start_forbids_none}
use Rattle.tainted.specs.Tainted.{untainted_caller, SameUntainted}
use Rattle.tainted.proofs.Theorem.{tainted_work_does_not_show, starts_untainted}
use Rattle.rules.proofs.Laws.Bools.{bool_cases}
use Rattle.tables.specs.Layout.{View, view, size}
use Rattle.tables.specs.Layout.Only.{view_only}
use Rattle.book.specs.Book.{world_of}
use Rattle.book.specs.Enact.{area_size, start_view, enact_area}
use Rattle.book.specs.Sound.{Sound}
use Rattle.book.specs.Laws.Clear.{wiped_clear}
use Rattle.book.proofs.Laws.Means.{areas_mean}
use Rattle.book.specs.Laws.Shapes.{view_shape}
use Rattle.book.specs.Laws.Every.{every_enacted, every_sound}
use Rattle.book.specs.Laws.Tie.{world_next}
use Rattle.book.specs.Laws.WorldSound.{placed}
use Rattle.calls.specs.Outcome.{verdict_on, book_left, area_left, output_left}
use Rattle.calls.specs.Started.{lengths_right, start_answer}
use Rattle.calls.specs.Laws.Prelude.{book_long, area_long, book_sound, is_sound}
use Rattle.calls.specs.Theorems.Kept.{verdict_is, world_after_lem}
use Rattle.calls.specs.Theorems.One.{one_outcome}
use Rattle.flytewood.specs.Laws.{handed_out}
use Rattle.histories.specs.Areas.{world, After, begun, called}
use Rattle.histories.specs.Demands as the
use Rattle.histories.specs.Unseen as two
use Rattle.histories.proofs.Laws.Refused.{refusal}
use Rattle.histories.proofs.Laws.Spelled.{spelled, ruled_on, ruled}
use Rattle.histories.proofs.Laws.Alike.{not_1, told, runs, run_start, from, same_first}

-- ---- Demand 1

pub demand_1 : the.Demand1
demand_1 b area c x out answer value b' area' out' h d refused = refusal b area c x out answer value b' area' out' h d refused

start_number : (p q : Bool) → (◌≡◌ {A = ℕ} (cond p (cond q 0 4) 1) 0 → ⊥) → one_of (cond p (cond q 0 4) 1) (1 ∷ 4 ∷ []) ≡ true
unfolding one_of
start_number true true n = absurd (n refl)
start_number true false n = refl
start_number false q n = refl

pub start_refuses : the.StartRefuses
unfolding start_answer
start_refuses b area f answer b' area' s n =
    let not_zero : start_answer b area f ≡ 0 → ⊥ = λ z. n (s.made.answer ∙ z) in (
      subst (λ (i : ℕ). one_of i (1 ∷ 4 ∷ []) ≡ true) (sym s.made.answer) (start_number (lengths_right b area) (startable f) not_zero),
      s.made.book_kept not_zero,
      s.made.area_kept not_zero,
    )

-- ---- Demand 2

pub demand_2 : the.Demand2
demand_2 b area l m sound c x out answer value b' area' out' d =
    ruled_on b area ((areas_mean b area).1 (l, m, sound)) c x out answer value b' area' out' d

pub spells_the_world : the.SpellsTheWorld
spells_the_world h b area a = (spelled h b area a).spells

pub next_as_ruled : the.NextAsRuled
next_as_ruled h b area a c x out answer value b' area' out' d = ruled h b area (spelled h b area a) c x out answer value b' area' out' d

pub one_result : the.OneOutcome
one_result b area c x out answer₁ value₁ b₁ area₁ out₁ answer₂ value₂ b₂ area₂ out₂ p q =
    let same = one_outcome b area c x b₁ area₁ b₂ area₂ p.book_bytes q.book_bytes answer₁ value₁ answer₂ value₂ p.said q.said in
    (same.answer, same.value, same.book, same.area, p.output ∙ sym q.output)

-- a Start that is granted was lent a book of the right length
granted_long : (b area : List ℕ) (f : ℕ) → start_answer b area f ≡ 0 → length b ≡ size
unfolding start_answer lengths_right
granted_long b area f e =
    bool_cases (eqb (length b) size)
    (λ t. eqb-true (length b) size t)
    (λ t. absurd (let z : ◌≡◌ {A = ℕ} 1 0 = sym (ap (λ (p : Bool). cond (cond p (eqb (length area) area_size) false) (cond (startable f) 0 4) 1) t) ∙ e in omega arith))

pub one_start : the.OneStart
one_start b area f answer₁ b₁ area₁ answer₂ b₂ area₂ p q =
    let s = p.made in
    let t = q.made in
    elim (ℕ_discrete (start_answer b area f) 0) [
      | yes e ↦
          let long = granted_long b area f e in (
            s.answer ∙ sym t.answer,
            view_only b₁ b₂ p.book_bytes q.book_bytes (s.book_made e ∙ sym (t.book_made e)) (s.length_same ∙ long) (t.length_same ∙ long),
            s.area_made e ∙ sym (t.area_made e),
          )
      | no n ↦ (s.answer ∙ sym t.answer, s.book_kept n ∙ sym (t.book_kept n), s.area_kept n ∙ sym (t.area_kept n))
    ]

pub one_read : the.OneRead
one_read b area c d s k from n answer₁ value₁ place₁ count₁ b₁ area₁ answer₂ value₂ place₂ count₂ b₂ area₂ p q =
    let (answers, values, books, areas, parts) = one_result b area c (read d s k from n) [] answer₁ value₁ b₁ area₁ _ answer₂ value₂ b₂ area₂ _ p.called q.called in
    (answers, values, p.place_is ∙ sym q.place_is, p.count_is ∙ sym q.count_is, books, areas)

-- what a verdict leaves goes by the tables and the data area alone
same_left : (v v' : Verdict) (w w' : View) (l l' : List ℕ) → v ≡ v' → w ≡ w' → l ≡ l' → (book_left v w l ≡ book_left v' w' l') × (area_left v w l ≡ area_left v' w' l')
same_left v v' w w' l l' e f g = (rw (e, f, g), rw (e, f, g))

-- two starts of one world are starts at one number
same_first_number : (f g : ℕ) → started f ≡ started g → f ≡ g
unfolding world_after start
same_first_number f g e = ap (λ (h : History). (world_after h).root) e

not_next : (w : World) (h : History) (c : ℕ) (x : Call) → beginning w ≡ next h c x → ⊥
not_next w h c x e = let z : ◌≡◌ {A = ℕ} 0 1 = cc in omega arith

same_next : (h k : History) (c d : ℕ) (x y : Call) → next h c x ≡ next k d y → (h ≡ k) × (c ≡ d) × (x ≡ y)
same_next h k c d x y e = (cc, cc, cc)

one_by_one : {h k : History} {b₁ area₁ b₂ area₂ : List ℕ} → h ≡ k → After h b₁ area₁ → After k b₂ area₂ → (view b₁ ≡ view b₂) × (area₁ ≡ area₂)
one_by_one same (begun f c₁ d₁ b₁ area₁ s) (begun g c₂ d₂ b₂ area₂ t) =
    let p = s.made in
    let q = t.made in
    let e = same_first_number f g same in
    (p.book_made (sym p.answer) ∙ ap start_view e ∙ sym (q.book_made (sym q.answer)), p.area_made (sym p.answer) ∙ sym (q.area_made (sym q.answer)))
one_by_one same (begun f c₁ d₁ b₁ area₁ s) (called k c₂ d₂ c' y out₂ answer₂ value₂ b₂ area₂ given₂ a₂ e) = absurd (not_next (start f) k c' y same)
one_by_one same (called h c₁ d₁ c x out₁ answer₁ value₁ b₁ area₁ given₁ a d) (begun g c₂ d₂ b₂ area₂ t) = absurd (not_next (start g) h c x (sym same))
one_by_one same (called h c₁ d₁ c x out₁ answer₁ value₁ b₁ area₁ given₁ a d) (called k c₂ d₂ c' y out₂ answer₂ value₂ b₂ area₂ given₂ a₂ e) =
    let (before, caller, call-is) = same_next h k c c' x y same in
    let (p, q) = one_by_one before a a₂ in
    let g = (spelled h c₁ d₁ a).good in
    let g₂ = (spelled k c₂ d₂ a₂).good in
    let v = verdict_is c₁ d₁ g c x ∙ (λ t. call (world_of (p t) (q t)) (caller t) (call-is t)) ∙ sym (verdict_is c₂ d₂ g₂ c' y) in
    let (m, n) = same_left _ _ _ _ _ _ v p q in
    (d.said.left.book_left_lem g ∙ (m ∙ sym (e.said.left.book_left_lem g₂)), d.said.left.area_left_lem ∙ (n ∙ sym e.said.left.area_left_lem))

pub one_history : the.OneHistory
one_history h b₁ area₁ b₂ area₂ a a₂ =
    let (p, q) = one_by_one refl a a₂ in
    let s = spelled h b₁ area₁ a in
    let t = spelled h b₂ area₂ a₂ in
    (view_only b₁ b₂ s.bytes t.bytes p (book_long b₁ area₁ s.good) (book_long b₂ area₂ t.good), q)

pub reads_show : the.ReadShows
reads_show h b area a c d s k from count answer value b' area' part t granted =
    let r = next_as_ruled h b area a c (read d s k from count) [] answer value b' area' part t in
    subst (λ (l : List ℕ). (length l ≡ count) × ((i : ℕ) → i < count → get_or l i 0 ≡ last_written h s (block_size * k + from + i)))
    (sym (r.output_is ∙ handed_out (call (world_after h) c (read d s k from count))))
    (read_shows h (spelled h b area a).started_well c d s k from count (sym r.answer_is ∙ granted))

pub clearing_shows : the.ClearingShows
clearing_shows h b area a j l =
    let p = spelled h b area a in
    wiped_clear (view b) area (placed (view b) (book_sound b area p.good)) p.wiped j (omega (arith, area_long b area p.good))

-- ---- Demand 3

pub stays_sound : the.StaysSound
stays_sound h b area a = book_sound b area (spelled h b area a).good

pub no_call_answers_1 : the.NeverOne
no_call_answers_1 h b area a c x out answer value b' area' out' d e =
    never_one (world_after h) c x (sym (next_as_ruled h b area a c x out answer value b' area' out' d).answer_is ∙ e)

pub tree_holds : the.TreeHolds
tree_holds h b area a d container =
    let p = spelled h b area a in
    let within : Σ (world b area).next (λ o. when (in_tree (world b area) d o) (hold_of (world b area) o)) ≤ ((world b area).obj d).quota =
    subst (λ (w : World). is_container (w.obj d).kind ≡ true → Σ w.next (λ o. when (in_tree w d o) (hold_of w o)) ≤ (w.obj d).quota)
    (sym p.spells) (history_tree_holds h p.started_well d) container
    in
    omega (arith, within)

pub granted_exactly : the.Exactly
granted_exactly h b area a c x out answer value b' area' out' d =
    let p = spelled h b area a in
    let e = (next_as_ruled h b area a c x out answer value b' area' out' d).answer_is in
    subst (λ (w : World). spends w x ≡ true → refused_earlier answer ≡ false → answer ≡ cond (leb (needs w x) (reckoned h (draws w x))) 0 13)
    (sym p.spells)
    (λ q n. e ∙ exactly h p.started_well c x q (subst (λ (i : ℕ). refused_earlier i ≡ false) e n))

pub reckoned_is_the_spare : the.ReckonedIsSpare
reckoned_is_the_spare h b area a =
    let p = spelled h b area a in
    subst (λ (w : World). (d : ℕ) → is_container (w.obj d).kind ≡ true → reckoned h d ≡ spare_of w d) (sym p.spells) (reckoned_is_spare h p.started_well)

pub shrinks_by : the.ShrinksBy
shrinks_by h b area a c x b' area' a' d =
    let p = spelled h b area a in
    let q = spelled (next h c x) b' area' a' in
    subst (λ (w : World). is_container (w.obj d).kind ≡ true → is_live ((world b' area').obj d).kind ≡ true → reckoned (next h c x) d < reckoned h d → writer w c d ≡ true)
    (sym p.spells)
    (λ k l s. reckoned_shrinks_by h p.started_well c x d k (subst (λ (w : World). is_live (w.obj d).kind ≡ true) q.spells l) s)

pub by_the_world_alone : the.ByTheWorldAlone
by_the_world_alone b₁ area₁ b₂ area₂ g₁ g₂ e c x out answer₁ value₁ b₁' area₁' out₁ answer₂ value₂ b₂' area₂' out₂ p q =
    let v : verdict_on b₁ area₁ c x ≡ verdict_on b₂ area₂ c x = verdict_is b₁ area₁ g₁ c x ∙ (ap (λ (w : World). call w c x) e ∙ sym (verdict_is b₂ area₂ g₂ c x)) in (
      p.said.answer_is ∙ (ap answer_of v ∙ sym q.said.answer_is),
      p.said.value_is ∙ (ap value_of v ∙ sym q.said.value_is),
      p.output ∙ (ap (λ (i : Verdict). output_left i out) v ∙ sym q.output),
      world_after_lem b₁ area₁ g₁ c x b₁' area₁' p.said.left ∙ (ap (λ (w : World). after w c x) e ∙ sym (world_after_lem b₂ area₂ g₂ c x b₂' area₂' q.said.left)),
    )

-- ---- The fault cannot happen

pub room_kept : the.RoomIsKept
room_kept h b area a d n container fits k b₂ area₂ a₂ others c x out answer value b' area' out' t taking from few passed =
    let p = spelled h b area a in
    let q = spelled k b₂ area₂ a₂ in
    let e = (next_as_ruled k b₂ area₂ a₂ c x out answer value b' area' out' t).answer_is in
    let is : is_container ((world_after h).obj d).kind ≡ true = subst (λ (w : World). is_container (w.obj d).kind ≡ true) p.spells container in
    let enough : needs (world b₂ area₂) x ≤ n = omega (arith, few) in
    e
    ∙ room_is_kept h p.started_well k c d n is fits others x (subst (λ (w : World). spends w x ≡ true) q.spells taking)
    (subst (λ (w : World). draws w x ≡ d) q.spells from) (subst (λ (w : World). needs w x ≤ n) q.spells enough)
    (subst (λ (i : ℕ). refused_earlier i ≡ false) e passed)

pub list_can_grow : the.ListCanGrow
list_can_grow h b area a s n segment fits k b₂ area₂ a₂ others c d out answer value b' area' out' t m =
    let p = spelled h b area a in
    let e = (next_as_ruled k b₂ area₂ a₂ c (resize d s n) out answer value b' area' out' t).answer_is in
    let is : is_segment ((world_after h).obj s).kind ≡ true = subst (λ (w : World). is_segment (w.obj s).kind ≡ true) p.spells segment in
    let room : units n ≤ ((world_after h).obj s).quota = subst (λ (w : World). units n ≤ (w.obj s).quota) p.spells fits in
    e ∙ growth_is_kept h p.started_well k c s n is room others d (subst (λ (i : ℕ). refused_earlier i ≡ false) e m)

-- ---- W2

pub masks_hold : the.MasksHold
masks_hold b area good c x out answer value b' area' out' t d o e =
    let r = ruled_on b area good c x out answer value b' area' out' t in
    none_comes_in (world b area) (is_sound b area good) c x d o (subst (λ (w : World). forbidden_in w d o ≡ true) r.world_is e)

-- every history of areas begins with a start, which has none
begins_free : (h : History) (b area : List ℕ) → After h b area → (d o : ℕ) → forbidden_in (first_world h) d o ≡ false
unfolding first_world
begins_free (beginning w) b area (begun f b₁ area₁ b₂ area₂ s) d o = start_forbids_none f d o
begins_free (next h c x) b area (called k b₁ area₁ c₁ x₁ out answer value b₂ area₂ out₂ a t) d o = begins_free h b₁ area₁ a d o

pub none_forbidden : the.NoneForbidden
none_forbidden h b area a d o =
    let p = spelled h b area a in
    subst (λ (w : World). forbidden_in w d o ≡ false) (sym p.spells) (never_forbidden h p.started_well (begins_free h b area a) d o)

pub old_links_sound : the.OldLinksSound
unfolding enact_area
old_links_sound b area good d o f n b' long made =
    let s = book_sound b area good in
    let z = view_shape b in
    let v = every_sound (view b) area s z (link d o) (omega (arith, n, world_next (view b) area)) f tt in (
      (areas_mean b' area).1 (long, area_long b area good, subst Sound (sym made) v),
      ap (λ (v : View). world_of v area) made ∙ (every_enacted (view b) area s z (link d o) f tt).world,
    )

-- ---- W5

pub tainted_work_unseen : two.TaintedWorkUnseen
tainted_work_unseen v w u b₁ area₁ b₂ area₂ r =
    let k = runs v w r in
    let t = tainted_work_does_not_show v w (run_start v w r) u (world b₁ area₁) (world b₂ area₂) k.alike in
    (told v b₁ area₁ b₂ area₂ k.good₁ k.good₂ t.0, t.1)

pub without_answer_1 : two.WithoutAnswer1
without_answer_1 v w b₁ area₁ b₂ area₂ r = let k = runs v w r in (not_1 b₁ area₁ k.good₁, not_1 b₂ area₂ k.good₂)

pub unseen_from : two.UnseenFrom
unseen_from v p h k u r b₁ area₁ b₂ area₂ a₁ a₂ =
    let s₁ = spelled h b₁ area₁ a₁ in
    let s₂ = spelled k b₂ area₂ a₂ in
    let t = tainted_work_does_not_show v (world_after p) (history_sound p (same_first v r s₁.started_well)) u (world_after h) (world_after k) (from v r) in (
      told v b₁ area₁ b₂ area₂ s₁.good s₂.good (λ c x i.
          subst (λ (w : World). call w c x ≡ call (world b₂ area₂) c x) (sym s₁.spells)
          (t.0 c x (subst (λ (w : World). untainted_caller v (w.obj c) ≡ true) s₁.spells i) ∙ ap (λ (w : World). call w c x) (sym s₂.spells))),
      subst (λ (w : World). SameUntainted v w (world b₂ area₂)) (sym s₁.spells) (subst (λ (w : World). SameUntainted v (world_after h) w) (sym s₂.spells) t.1),
    )

pub unseen_from_start : two.UnseenFromStart
unfolding world_after
unseen_from_start v f h k l r = unseen_from v (started f) h k (starts_untainted f v l) r
