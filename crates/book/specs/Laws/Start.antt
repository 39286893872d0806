-- Start: what is cleared and written is the book of the rules' start, and that book is sound.
use Rattle.std.specs.Prelude.{ℕ, ◌+◌, ◌-◌, ◌<◌, Bool, ◌&&◌, ◌||◌, ◌≡◌, get_or, replicate, leb, ltb}
use Rattle.std.proofs.Math.Decide.{ℕ_discrete}
use Rattle.std.proofs.Common.{arith, sym, ◌∙◌, ap, subst}
use Rattle.std.proofs.Math.Bool.{true, false, cond}
use Rattle.std.proofs.Math.Path.{refl, ap₂}
use Rattle.std.proofs.lemmas.List.{length-replicate, get_or-replicate}
use Rattle.std.proofs.Math.ListN.{get_or-eq_default}
use Rattle.std.proofs.Math.Dec.{eqb}
use borrow.Author.Tests.{eqb-true, leb-true, ltb-true, ltb-false}
use Rattle.labels.specs.Core.{plain, level1, level2}
use Rattle.rules.specs.Kernel.{Obj, nothing, put, link_in, container_of, thread_of, start, startable, last_number, root_quota, text_size}
use Rattle.rules.specs.Sound as W
use Rattle.rules.proofs.Laws.Bools.{and_r, not_i, bool_cases}
use Rattle.rules.proofs.Laws.Put.{put_same, put_other}
use Rattle.rules.proofs.Laws.StartSound.{start_sound}
use Rattle.rules.proofs.Laws.Kinds.{kind_most}
use Rattle.rules.proofs.Laws.Worlds.{world_ext}
use Rattle.tables.specs.Layout.{View, row_count, link_count, block_count, next_t, root_t, zeros, empty, put_t}
use Rattle.book.specs.Book.{next_of, root_of, id_of, code_of, mark_of, owner_of, world_of}
use Rattle.book.specs.Sound.{Live, On, Sound}
use Rattle.book.specs.Placed.{Placed}
use Rattle.book.specs.Shape.{Shape}
use Rattle.book.specs.Enact.{relabelled, row_filled, link_filled, start_view, start_area}
use Rattle.book.specs.Make.{Handed, root_row, thread_row, root_made, thread_made}
use Rattle.book.specs.Laws.Tie.{obj_none, linked_is, world_next, world_root}
use Rattle.book.specs.Laws.SoundBy.{sound_by}
use Rattle.book.specs.Laws.Shapes.{empty_shape, put_shape}
use Rattle.book.specs.Laws.Handed.{container_handed, thread_handed, row_is_container, row_is_thread}
use Rattle.book.specs.Laws.Filled.{Fresh, container_fresh, thread_fresh, filled_id_other, filled_code_other, filled_id, filled_shape}
use Rattle.book.specs.Laws.Make.{filled_live, live_still, filled_obj, filled_linked, filled_placed, linked_obj, linked_more, linked_placed}

-- ---- the two objects

-- The root and its thread are handed over whole.
pub root_handed : Handed root_row (replicate text_size 0) (replicate text_size 0)
root_handed = container_handed (plain level1) (replicate text_size 0) (omega arith) refl refl 0 root_quota

pub first_handed : Handed thread_row (replicate text_size 0) (replicate text_size 0)
first_handed = thread_handed (plain level1) (replicate text_size 0) (omega arith) refl refl (plain level2) (omega arith) refl

module _ (f : ℕ) where
  pub root_object : (start f).obj f ≡ container_of (plain level1) (replicate text_size 0) 0 root_quota
  unfolding start
  root_object =
      put_same f (container_of (plain level1) (replicate text_size 0) 0 root_quota)
      (put (f + 1) (thread_of (plain level1) (plain level2) (replicate text_size 0)) (λ o. nothing)) f refl

  pub first_object : (start f).obj (f + 1) ≡ thread_of (plain level1) (plain level2) (replicate text_size 0)
  unfolding start
  first_object =
      put_other f (container_of (plain level1) (replicate text_size 0) 0 root_quota)
      (put (f + 1) (thread_of (plain level1) (plain level2) (replicate text_size 0)) (λ o. nothing)) (f + 1) (λ e. omega arith)
      ∙ put_same (f + 1) (thread_of (plain level1) (plain level2) (replicate text_size 0)) (λ o. nothing) (f + 1) refl

  -- The root and then its thread are Start's book,
  start_laid :
      link_filled 0 0 1
      (row_filled 1 (f + 1) (thread_of (plain level1) (plain level2) (replicate text_size 0))
      (row_filled 0 f (container_of (plain level1) (replicate text_size 0) 0 root_quota) (put_t root_t 0 f (put_t next_t 0 (f + 2) empty))))
      ≡ start_view f
  unfolding start_view
  start_laid =
      ap₂ (λ (t r : Obj). link_filled 0 0 1 (row_filled 1 (f + 1) t (row_filled 0 f r (put_t root_t 0 f (put_t next_t 0 (f + 2) empty)))))
      (sym first_object) (sym root_object)

  -- and so they are as handed over.
  pub start_made : thread_made (f + 1) (root_made f) ≡ start_view f
  unfolding thread_made root_made
  start_made =
      ap₂ (λ (t r : Obj). link_filled 0 0 1 (row_filled 1 (f + 1) t (row_filled 0 f r (put_t root_t 0 f (put_t next_t 0 (f + 2) empty)))))
      (row_is_thread (plain level1) (plain level2) (replicate text_size 0) (replicate text_size 0))
      (row_is_container (plain level1) 0 root_quota (replicate text_size 0) (replicate text_size 0))
      ∙ start_laid

  -- A number at which Start may begin leaves room for its two.
  pub startable_low : startable f ≡ true → f < last_number
  unfolding startable
  startable_low g = omega (arith, leb-true f (last_number - 2) (and_r (leb 1 f) (leb f (last_number - 2)) g))

-- ---- the world of Start's book, step by step

or_none : (b : Bool) → (b || false) ≡ b
or_none true = refl
or_none false = refl

root_new : Obj
root_new = container_of (plain level1) (replicate text_size 0) 0 root_quota

thread_new : Obj
thread_new = thread_of (plain level1) (plain level2) (replicate text_size 0)

root_fresh : Fresh root_new
unfolding root_new
root_fresh = container_fresh (plain level1) (replicate text_size 0) refl refl 0 root_quota

thread_is_fresh : Fresh thread_new
unfolding thread_new
thread_is_fresh = thread_fresh (plain level1) (replicate text_size 0) refl refl (plain level2) refl

zero_at : (n i : ℕ) → get_or (zeros n) i 0 ≡ 0
unfolding zeros
zero_at n i =
    bool_cases (ltb i n) (λ t. get_or-replicate n i 0 0 (ltb-true i n t))
    (λ t. let h = ltb-false i n t in get_or-eq_default (replicate n 0) 0 {n = i} (omega (arith, length-replicate {A = ℕ} n 0)))

module _ (f : ℕ) where
  -- a cleared book with its numbers,
  bare : View
  bare = put_t root_t 0 f (put_t next_t 0 (f + 2) empty)

  bare_shape : Shape bare
  unfolding bare
  bare_shape = put_shape root_t 0 f (put_t next_t 0 (f + 2) empty) (put_shape next_t 0 (f + 2) empty empty_shape)

  bare_code : (r : ℕ) → code_of bare r ≡ 0
  unfolding bare empty
  bare_code r = zero_at row_count r

  bare_mark : (l : ℕ) → mark_of bare l ≡ 0
  unfolding bare empty
  bare_mark l = zero_at link_count l

  bare_owner : (b : ℕ) → owner_of bare b ≡ 0
  unfolding bare empty
  bare_owner b = zero_at block_count b

  bare_dead : (r : ℕ) → Live bare r → ⊥
  bare_dead r a = a.used (bare_code r)

  bare_off : (l : ℕ) → On bare l → ⊥
  bare_off l a = a.used (bare_mark l)

  bare_placed : Placed bare
  bare_placed =
      record {
        code_most = λ r a. absurd (bare_dead r a);
        fixed_most = λ r a. absurd (bare_dead r a);
        ids_apart = λ r s a. absurd (bare_dead r a);
        from_live = λ l a. absurd (bare_off l a);
        to_live = λ l a. absurd (bare_off l a);
        links_apart = λ l m a. absurd (bare_off l a);
        owned = λ b a. absurd (a.used (bare_owner b));
        blocks_once = λ r a. absurd (bare_dead r a);
      }

  bare_obj : (o : ℕ) → (world_of bare start_area).obj o ≡ nothing
  bare_obj o = obj_none bare start_area o (λ r a e. bare_dead r a)

  bare_linked : (d o : ℕ) → (world_of bare start_area).linked d o ≡ false
  bare_linked d o = not_i ((world_of bare start_area).linked d o) (λ t. bare_off (linked_is bare start_area d o t).0 (linked_is bare start_area d o t).1)

  -- with the root in row 0,
  rooted : View
  rooted = row_filled 0 f root_new bare

  rooted_shape : Shape rooted
  unfolding rooted
  rooted_shape = filled_shape bare bare_shape 0 f root_new (omega arith)

  bare_none : (id s : ℕ) → Live bare s → id_of bare s ≡ id → ⊥
  bare_none id s a e = bare_dead s a

  rooted_placed : Placed rooted
  unfolding rooted
  rooted_placed = filled_placed bare bare_shape bare_placed 0 f root_new root_fresh (omega arith) (bare_code 0) (bare_none f) (kind_most root_new.kind)

  rooted_obj : (o : ℕ) → (world_of rooted start_area).obj o ≡ put f root_new (world_of bare start_area).obj o
  unfolding rooted
  rooted_obj = filled_obj bare bare_shape bare_placed 0 f root_new root_fresh (omega arith) (bare_code 0) (bare_none f) start_area

  rooted_linked : (d o : ℕ) → (world_of rooted start_area).linked d o ≡ false
  unfolding rooted
  rooted_linked d o =
      filled_linked bare bare_shape bare_placed 0 f root_new root_fresh (omega arith) (bare_code 0) (bare_none f) start_area d o ∙ bare_linked d o

  rooted_code : (r : ℕ) → (r ≡ 0 → ⊥) → code_of rooted r ≡ 0
  unfolding rooted
  rooted_code r ne = filled_code_other bare 0 f root_new r ne ∙ bare_code r

  rooted_id : id_of rooted 0 ≡ f
  unfolding rooted
  rooted_id = filled_id bare bare_shape 0 f root_new (omega arith)

  -- only the root's number is taken
  rooted_none : (s : ℕ) → Live rooted s → id_of rooted s ≡ f + 1 → ⊥
  rooted_none s a e = elim (ℕ_discrete s 0) [
    | yes q ↦ omega (arith, ap (id_of rooted) q, rooted_id)
    | no ne ↦ a.used (rooted_code s ne)
  ]

  -- and with its thread in row 1.
  peopled : View
  peopled = row_filled 1 (f + 1) thread_new rooted

  peopled_shape : Shape peopled
  unfolding peopled
  peopled_shape = filled_shape rooted rooted_shape 1 (f + 1) thread_new (omega arith)

  peopled_placed : Placed peopled
  unfolding peopled
  peopled_placed =
      filled_placed rooted rooted_shape rooted_placed 1 (f + 1) thread_new thread_is_fresh (omega arith) (rooted_code 1 (λ e. omega arith)) rooted_none (kind_most thread_new.kind)

  peopled_obj : (o : ℕ) → (world_of peopled start_area).obj o ≡ put (f + 1) thread_new (world_of rooted start_area).obj o
  unfolding peopled
  peopled_obj =
      filled_obj rooted rooted_shape rooted_placed 1 (f + 1) thread_new thread_is_fresh (omega arith) (rooted_code 1 (λ e. omega arith)) rooted_none start_area

  peopled_linked : (d o : ℕ) → (world_of peopled start_area).linked d o ≡ false
  unfolding peopled
  peopled_linked d o =
      filled_linked rooted rooted_shape rooted_placed 1 (f + 1) thread_new thread_is_fresh (omega arith) (rooted_code 1 (λ e. omega arith)) rooted_none start_area d o
      ∙ rooted_linked d o

  peopled_root : Live peopled 0
  unfolding peopled rooted
  peopled_root =
      live_still rooted rooted_shape rooted_placed 1 (f + 1) thread_new thread_is_fresh (omega arith) (rooted_code 1 (λ e. omega arith)) rooted_none 0
      (filled_live bare bare_shape bare_placed 0 f root_new root_fresh (omega arith) (bare_code 0) (bare_none f))

  peopled_thread : Live peopled 1
  unfolding peopled
  peopled_thread =
      filled_live rooted rooted_shape rooted_placed 1 (f + 1) thread_new thread_is_fresh (omega arith) (rooted_code 1 (λ e. omega arith)) rooted_none

  peopled_root_id : id_of peopled 0 ≡ f
  unfolding peopled
  peopled_root_id = filled_id_other rooted 1 (f + 1) thread_new 0 (λ e. omega arith) ∙ rooted_id

  peopled_thread_id : id_of peopled 1 ≡ f + 1
  unfolding peopled
  peopled_thread_id = filled_id rooted rooted_shape 1 (f + 1) thread_new (omega arith)

  peopled_mark : (l : ℕ) → mark_of peopled l ≡ 0
  unfolding peopled rooted row_filled relabelled
  peopled_mark l = bare_mark l

  joined : View
  joined = link_filled 0 0 1 peopled

  joined_next : next_of joined ≡ f + 2
  unfolding joined peopled rooted bare link_filled row_filled relabelled empty zeros
  joined_next = refl

  joined_root : root_of joined ≡ f
  unfolding joined peopled rooted bare link_filled row_filled relabelled empty zeros
  joined_root = refl

  -- the root's number and the thread's are two, so that the order does not matter
  two_put : (o : ℕ) → put (f + 1) thread_new (put f root_new (λ q. nothing)) o ≡ put f root_new (put (f + 1) thread_new (λ q. nothing)) o
  unfolding put
  two_put o = go (eqb o f) (eqb o (f + 1)) refl refl
    where
      go : (a b : Bool) → eqb o f ≡ a → eqb o (f + 1) ≡ b → cond b thread_new (cond a root_new nothing) ≡ cond a root_new (cond b thread_new nothing)
      go true true e q = absurd (omega (arith, eqb-true o f e, eqb-true o (f + 1) q))
      go true false e q = refl
      go false true e q = refl
      go false false e q = refl

  two_objects : (o : ℕ) → (world_of rooted start_area).obj o ≡ put f root_new (λ q. nothing) o
  two_objects o = rooted_obj o ∙ (λ i. put f root_new (λ q. bare_obj q i) o)

  joined_obj : (o : ℕ) → (world_of joined start_area).obj o ≡ (start f).obj o
  unfolding joined start root_new thread_new
  joined_obj o =
      linked_obj peopled peopled_shape 0 0 1 (omega arith) (peopled_mark 0) start_area o ∙ peopled_obj o
      ∙ (λ i. put (f + 1) thread_new (λ p. two_objects p i) o) ∙ two_put o

  joined_linked : (d o : ℕ) → (world_of joined start_area).linked d o ≡ (start f).linked d o
  unfolding joined start link_in
  joined_linked d o =
      linked_more peopled peopled_shape 0 0 1 (omega arith) (peopled_mark 0) start_area d o
      ∙ (λ i. (eqb d (peopled_root_id i) && eqb o (peopled_thread_id i)) || peopled_linked d o i)
      ∙ or_none (eqb d f && eqb o (f + 1))

  joined_placed : Placed joined
  unfolding joined
  joined_placed =
      linked_placed peopled peopled_shape 0 0 1 (omega arith) (peopled_mark 0) peopled_placed peopled_root peopled_thread
      (λ m a e q. a.used (peopled_mark m))

  joined_is : joined ≡ start_view f
  unfolding joined peopled rooted bare root_new thread_new
  joined_is = start_laid f

  -- Start's book spells the rules' start,
  pub start_world : world_of (start_view f) start_area ≡ start f
  start_world =
      ap (λ (v : View). world_of v start_area) (sym joined_is)
      ∙ world_ext (world_of joined start_area) (start f) (world_next joined start_area ∙ joined_next ∙ unfold start in refl)
      (world_root joined start_area ∙ joined_root ∙ unfold start in refl) joined_obj joined_linked

  -- its positions are in order,
  pub start_placed : Placed (start_view f)
  start_placed = subst Placed joined_is joined_placed

  -- and it is sound.
  pub start_is_sound : startable f ≡ true → Sound (start_view f)
  start_is_sound g = sound_by (start_view f) start_area start_placed (subst W.Sound (sym start_world) (start_sound f g))
