-- The world that Start makes is sound.
use Rattle.std.specs.Prelude.{ℕ, ◌+◌, ◌-◌, ◌<◌, ◌≤◌, ◌≡◌, eqb, leb, length, replicate}
use Rattle.std.proofs.Math.Bool.{true, false, cond}
use Rattle.std.proofs.Math.Path.{refl, sym, subst}
use Rattle.std.proofs.Common.{◌∙◌}
use native.Mathlib.Omega.{arith}
use borrow.Author.Tests.{eqb-true, leb-true, eq-eqb}
use Rattle.labels.specs.Core.{plain, flows, unread, level1, level2, level3, at}
use Rattle.labels.specs.Core.Formed.{plain_formed}
use Rattle.labels.specs.Core.Fresh.{formed_fresh}
use Rattle.labels.proofs.Core.Compare.{flows_means}
use Rattle.quotas.specs.Sum.{when, sum_only, when_true, when_false}
use Rattle.rules.specs.Kernel.{kind_code, is_live, is_thread, is_segment, is_container, has_clearance, Obj, nothing, charged, use_of, units, put, container_of, thread_of, start}
use Rattle.rules.specs.Kernel.{startable, last_number, root_quota, text_size, forbids}
use Rattle.rules.specs.Sound.{InRange, Formed, Tree, Sound}
use Rattle.rules.specs.Fair.{Whole}
use Rattle.rules.proofs.Laws.Bools.{and_l, and_r, not_both, not_i}
use Rattle.rules.proofs.Laws.Kinds.{nothing_dead, nothing_uncleared, thread_live, thread_no_container}
use Rattle.rules.proofs.Laws.Put.{put_same, put_other, put_each}
use Rattle.rules.proofs.Laws.Objects.{container_whole, thread_whole}

plain_at : (d c : ℕ) → 1 ≤ d → d ≤ level3 → at (plain d) c ≡ d
plain_at d c l h = formed_fresh 0 true (plain d) (plain_formed 0 true d l h) c (omega arith)

first_flows : flows (plain level1) (plain level2) ≡ true
first_flows =
    (flows_means (plain level1) (plain level2) unread).1
    (λ c. rw (plain_at level1 c (omega arith) (omega arith), plain_at level2 c (omega arith) (omega arith)) (omega arith))

root_object : Obj
root_object = container_of (plain level1) (replicate text_size 0) 0 root_quota

first_thread : Obj
first_thread = thread_of (plain level1) (plain level2) (replicate text_size 0)

root_is_container : is_container root_object.kind ≡ true
unfolding root_object container_of is_container kind_code
root_is_container = refl

thread_is_thread : is_thread first_thread.kind ≡ true
unfolding first_thread thread_of is_thread kind_code
thread_is_thread = refl

module _ (f : ℕ) where
  -- what holds of the root, of the first thread, and of nothing
  each : (P : ℕ → Obj → Type 0) → P f root_object → P (f + 1) first_thread → ((o : ℕ) → P o nothing) → (o : ℕ) → P o ((start f).obj o)
  unfolding start root_object first_thread
  each P r t n = put_each P f root_object (put (f + 1) first_thread (λ o. nothing)) r (put_each P (f + 1) first_thread (λ o. nothing) t n)

  each_live : (P : ℕ → Obj → Type 0) → P f root_object → P (f + 1) first_thread
      → (o : ℕ) → is_live ((start f).obj o).kind ≡ true → P o ((start f).obj o)
  each_live P r t = each (λ o x. is_live x.kind ≡ true → P o x) (λ i. r) (λ i. t) (λ o i. not_both (is_live nothing.kind) i nothing_dead)

  root_whole : Whole (f + 2) root_object
  unfolding root_object
  root_whole =
      container_whole (f + 2) (plain level1) refl (replicate text_size 0) refl
      (plain_formed (f + 2) false level1 (omega arith) (omega arith)) root_quota (omega arith) 0 (omega arith)

  first_whole : Whole (f + 2) first_thread
  unfolding first_thread
  first_whole =
      thread_whole (f + 2) (plain level1) refl (replicate text_size 0) refl (plain level2)
      (plain_formed (f + 2) true level1 (omega arith) (omega arith)) (plain_formed (f + 2) false level2 (omega arith) (omega arith))
      refl first_flows

  -- the one link
  link_is : (d o : ℕ) → (start f).linked d o ≡ true → (d ≡ f) × (o ≡ f + 1)
  unfolding start
  link_is d o l = (eqb-true d f (and_l (eqb d f) (eqb o (f + 1)) l), eqb-true o (f + 1) (and_r (eqb d f) (eqb o (f + 1)) l))

  linked_first : (start f).linked f (f + 1) ≡ true
  unfolding start
  linked_first = rw (eq-eqb f f refl, eq-eqb (f + 1) (f + 1) refl)

  at_root : (start f).obj f ≡ root_object
  unfolding start root_object
  at_root = put_same f root_object _ f refl

  at_thread : (start f).obj (f + 1) ≡ first_thread
  unfolding start root_object first_thread
  at_thread =
      put_other f root_object (put (f + 1) first_thread (λ o. nothing)) (f + 1) (λ e. omega arith)
      ∙ put_same (f + 1) first_thread (λ o. nothing) (f + 1) refl

  -- the root forbids nothing
  pub start_allows : (d o : ℕ) → (start f).linked d o ≡ true → forbids ((start f).obj d).mask ((start f).obj o).kind ≡ false
  unfolding forbids
  start_allows d o l = rw ((link_is d o l).0, (link_is d o l).1, at_root, at_thread) (unfold root_object first_thread container_of thread_of kind_code in refl)

  -- what the root is charged is the thread's quota
  root_charged : charged (start f) f ≡ 1
  unfolding charged start
  root_charged =
      sum_only (f + 2) (λ o. when ((start f).linked f o) ((start f).obj o).quota) (f + 1) (omega arith)
      (λ o l n. when_false ((start f).linked f o) ((start f).obj o).quota (not_i ((start f).linked f o) (λ i. n (link_is f o i).1)))
      ∙ (when_true ((start f).linked f (f + 1)) ((start f).obj (f + 1)).quota linked_first ∙ rw at_thread (unfold first_thread thread_of in refl))

  start_uses : (o : ℕ) → is_live ((start f).obj o).kind ≡ true → use_of (start f) o ≤ ((start f).obj o).quota
  unfolding use_of
  start_uses =
      each_live (λ o x. cond (is_container x.kind) (1 + charged (start f) o) (cond (is_segment x.kind) (units (length x.bytes)) 1) ≤ x.quota)
      (rw (root_is_container, root_charged) (unfold root_object container_of in (omega arith)))
      (unfold first_thread thread_of is_container is_segment kind_code in (omega arith))

  start_tree : Tree (start f)
  unfolding start
  start_tree =
      record {
        root_container = subst (λ x. is_container x.kind ≡ true) (sym at_root) root_is_container;
        root_quota_lem = rw at_root (unfold root_object container_of in refl);
        root_top = λ d. not_i ((start f).linked d f) (λ l. let e = (link_is d f l).1 in omega arith);
        holder = λ d o l. rw ((link_is d o l).0, at_root) root_is_container;
        held = λ d o l. rw ((link_is d o l).1, at_thread) (thread_live first_thread.kind thread_is_thread);
      }

  -- THE LAW: the world after a start is sound
  pub start_sound : startable f ≡ true → Sound (start f)
  unfolding start startable
  start_sound g =
      let low = leb-true 1 f (and_l (leb 1 f) (leb f (last_number - 2)) g) in
      let high = leb-true f (last_number - 2) (and_r (leb 1 f) (leb f (last_number - 2)) g) in
      record {
        next_most = omega arith;
        ranges = each_live (λ o x. InRange x) root_whole.range first_whole.range;
        ids = each_live (λ o x. (1 ≤ o) × (o < f + 2)) (omega arith, omega arith) (omega arith, omega arith);
        labels = each_live (λ o x. Formed (f + 2) x) root_whole.formed first_whole.formed;
        clearances = each (λ o x. has_clearance x.kind ≡ true → flows x.label x.clearance ≡ true) root_whole.cleared first_whole.cleared
            (λ o i. not_both (has_clearance nothing.kind) i nothing_uncleared);
        tree = start_tree;
        has_link = each_live (λ o x. (o ≡ f → ⊥) → (d : ℕ) × ((start f).linked d o ≡ true)) (λ n. absurd (n refl)) (λ n. (f, linked_first));
        one_link = λ d e o l m u. (link_is d o l).0 ∙ sym (link_is e o m).0;
        uses = start_uses;
        masks = λ d o l i.
            not_both (is_container first_thread.kind) (rw ((link_is d o l).1, at_thread) at i) (thread_no_container first_thread.kind thread_is_thread);
      }
