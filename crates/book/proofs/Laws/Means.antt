-- The test of a book holds exactly of sound books.
use Rattle.std.specs.Prelude.{ℕ, suc, true, ◌↔◌, List, ◌≡◌, eqb, leb, length}
use native.Mathlib.Omega.{arith}
use Rattle.std.proofs.Math.Decide.{ℕ_discrete}
use Rattle.std.proofs.Common.{⊎_elim, sym, ◌∙◌, subst}
use borrow.Author.Tests.{eq-eqb, ne_eqb, eqb-true, eqb-false, le-leb, leb-true}
use Rattle.quotas.specs.Any.{any, any_found, any_of}
use Rattle.rules.specs.Kernel.{last_number}
use Rattle.tables.specs.Layout.{View, view, size, row_count, link_count}
use Rattle.book.specs.Book.{next_of, root_of, id_of, code_of, fixed_of, quota_of, len_of, has_id}
use Rattle.book.specs.Sound.{Live, On, Ends, Root, Sound, links_to, charged_to}
use Rattle.book.specs.Enact.{area_size}
use Rattle.book.specs.Test.{every, row_b, link_b, tie_b, once_b, rows_b, links_b, sound_b, areas_b}
use Rattle.book.specs.Laws.Tests.{and_l, and_r, apart, every_of, every_by}
use Rattle.book.specs.Laws.MeansRows.{Tied, Fits, Row, tie_of, tie_by, row_of, row_by, id_here, id_is}
use Rattle.book.specs.Laws.MeansLinks.{Masked, link_of, link_by, once_of, once_by}
use Rattle.book.proofs.Laws.MeansBlocks.{blocks_of_lem, blocks_by}

module _ (v : View) where
  -- what links_b says, clause by clause
  abbrev TieAt : ℕ → Type 0
  TieAt r = Tied (eqb (id_of v r) (root_of v)) (code_of v r) (fixed_of v r) (quota_of v r) (links_to v r) × Fits (code_of v r) (quota_of v r) (len_of v r) (charged_to v r)

  -- a live row with the root's id is the root
  root_of_lem : any row_count (has_id v (root_of v)) ≡ true → ((r : ℕ) → Live v r → TieAt r) → (r : ℕ) × Root v r
  root_of_lem h tie =
      let (r, low, t) = any_found row_count (has_id v (root_of v)) h in
      let p = id_is v (root_of v) r low t in
      let s = (tie r p.0).0 in
      let e = eq-eqb (id_of v r) (root_of v) p.1 in
      (r, record { low = low; is_container_lem = s.root_container e; has_id_lem = p.1; quota_all = s.root_quota_lem e; no_link = s.root_none e })

  of_test : sound_b v ≡ true → Sound v
  unfolding sound_b rows_b links_b
  of_test h =
      let h1 = and_r (rows_b v) _ h in
      let rs = and_l (rows_b v) _ h in
      let ls = and_l (links_b v) _ h1 in
      let l1 = and_r (every link_count (link_b v)) _ ls in
      let l2 = and_r (every row_count (λ r. tie_b v r (links_to v r) (charged_to v r))) _ l1 in
      let row : (r : ℕ) → Live v r → Row v r = λ r live. row_of v r live (every_of row_count (row_b v) (and_r (leb (next_of v) (suc last_number)) _ rs) r live.low) in
      let link : (l : ℕ) → On v l → Ends v l × Masked v l = λ l on. link_of v l on (every_of link_count (link_b v) (and_l (every link_count (link_b v)) _ ls) l on.low) in
      let tie : (r : ℕ) → Live v r → TieAt r = λ r live. tie_of v r (links_to v r) (charged_to v r) live
      (every_of row_count (λ r. tie_b v r (links_to v r) (charged_to v r)) (and_l (every row_count (λ r. tie_b v r (links_to v r) (charged_to v r))) _ l1) r live.low) in
      let blocks = blocks_of_lem v (and_r (links_b v) _ h1) in
      record {
        next_most = leb-true (next_of v) (suc last_number) (and_l (leb (next_of v) (suc last_number)) _ rs);
        ranges = λ r live. (row r live).range;
        ends = λ l on. (link l on).0;
        ids_from = λ r live. (row r live).id_from;
        ids_below = λ r live. (row r live).id_below;
        ids_apart = λ r s live live2. (row r live).id_new s live2;
        labels = λ r live. (row r live).label;
        clearances = λ r live. (row r live).clearance;
        flow = λ r live. (row r live).flow;
        root = root_of_lem (and_r (every link_count (once_b v (links_to v))) _ l2) tie;
        some_link = λ r live ne. (tie r live).0.some (ne_eqb (id_of v r) (root_of v) ne);
        one_link = λ r live. (tie r live).0.most;
        links_apart = λ l m on om lt. once_of v l on (every_of link_count (once_b v (links_to v)) (and_l (every link_count (once_b v (links_to v))) _ l2) l on.low) m om lt;
        container_fits = λ r live. (tie r live).1.container;
        segment_fits = λ r live. (tie r live).1.segment;
        masks = λ l on. (link l on).1;
        owned = blocks.0;
        blocks_once = λ r live. blocks.1 r live.low;
      }

  -- in a sound book every live row with the root's id is the root
  root_at : Sound v → (r : ℕ) → Live v r → id_of v r ≡ root_of v → Root v r
  root_at s r live e =
      let (q, g) = s.root in
      let held : Live v q = record { low = g.low; used = λ z. omega (arith, g.is_container_lem) } in
      elim (ℕ_discrete q r) [
        | yes same ↦ subst (λ (x : ℕ). Root v x) same g
        | no ne ↦ absurd (⊎_elim (λ l. s.ids_apart r q live held l (e ∙ sym g.has_id_lem)) (λ l. s.ids_apart q r held live l (g.has_id_lem ∙ sym e)) (apart q r ne))
      ]

  by_test : Sound v → sound_b v ≡ true
  unfolding sound_b rows_b links_b
  by_test s =
      let (q, g) = s.root in
      let held : Live v q = record { low = g.low; used = λ z. omega (arith, g.is_container_lem) } in
      rw (
        le-leb (next_of v) (suc last_number) s.next_most,
        every_by row_count (row_b v) (λ r low. row_by v r low (λ live.
            record {
              range = s.ranges r live;
              id_from = s.ids_from r live;
              id_below = s.ids_below r live;
              id_new = λ t w l. s.ids_apart r t live w l;
              label = s.labels r live;
              clearance = s.clearances r live;
              flow = s.flow r live;
            })),
        every_by link_count (link_b v) (λ l low. link_by v l low (λ on. (s.ends l on, s.masks l on))),
        every_by row_count (λ r. tie_b v r (links_to v r) (charged_to v r)) (λ r low. tie_by v r (links_to v r) (charged_to v r) low (λ live. (
          record {
            root_container = λ t. (root_at s r live (eqb-true (id_of v r) (root_of v) t)).is_container_lem;
            root_quota_lem = λ t. (root_at s r live (eqb-true (id_of v r) (root_of v) t)).quota_all;
            root_none = λ t. (root_at s r live (eqb-true (id_of v r) (root_of v) t)).no_link;
            some = λ t. s.some_link r live (eqb-false (id_of v r) (root_of v) t);
            most = s.one_link r live;
          },
          record { container = s.container_fits r live; segment = s.segment_fits r live },
        ))),
        every_by link_count (once_b v (links_to v)) (λ l low. once_by v (links_to v) l low (λ on m om lt. s.links_apart l m on om lt)),
        any_of row_count (has_id v (root_of v)) q g.low (id_here v (root_of v) q held g.has_id_lem),
      )
      (blocks_by v s.owned (λ r low c. s.blocks_once r (record { low = low; used = λ z. omega arith }) c))

-- The test of a book holds exactly of sound books.
pub sound_means : (v : View) → sound_b v ≡ true ↔ Sound v
sound_means v = (of_test v, by_test v)

-- The test of the two lent areas holds exactly if they have their lengths and the book is sound.
pub areas_mean : (b area : List ℕ) → areas_b b area ≡ true ↔ ((length b ≡ size) × (length area ≡ area_size) × Sound (view b))
unfolding areas_b
areas_mean b area = (
  λ h.
      let h1 = and_r (eqb (length b) size) _ h in (
        eqb-true (length b) size (and_l (eqb (length b) size) _ h),
        eqb-true (length area) area_size (and_l (eqb (length area) area_size) _ h1),
        of_test (view b)
            (and_r (eqb (length area) area_size) _ h1),
      ),
  λ p. rw (eq-eqb (length b) size p.0, eq-eqb (length area) area_size p.1) (by_test (view b) p.2),
)
