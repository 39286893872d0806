-- Every fair change of the rules is made on the book: its world becomes the changed world, and the book stays sound.
use Rattle.std.specs.Prelude.{ℕ, ◌≤◌, ◌≡◌, List, length}
use Rattle.std.proofs.Common.{arith, sym, ◌∙◌}
use Rattle.std.proofs.Math.Path.{ap}
use Rattle.rules.specs.Kernel.{relabel, fix, requota, rewrite, Change, keep, alter, create, cut, link, apply, last_number}
use Rattle.rules.specs.Fair.{Fair}
use Rattle.rules.proofs.Laws.Kinds.{segment_live}
use Rattle.tables.specs.Layout.{View}
use Rattle.book.specs.Book.{next_of, quota_of, world_of}
use Rattle.book.specs.Sound.{Sound}
use Rattle.book.specs.Shape.{Shape}
use Rattle.book.specs.Enact.{enact_view, enact_area, altered_view, altered_area}
use Rattle.book.specs.Laws.Tie.{quota_at}
use Rattle.book.specs.Laws.WorldSound.{placed}
use Rattle.book.specs.Laws.Room.{block_room}
use Rattle.book.specs.Laws.Filled.{Fresh}
use Rattle.book.specs.Laws.Made.{create_enacted, link_enacted}
use Rattle.book.specs.Laws.Rewrite.{rewritten_world, lengthened_placed, lengthened_shape}
use Rattle.book.specs.Laws.CutWorld.{cut_world, cut_placed, cut_shape}
use Rattle.book.specs.Laws.Enacted.{Enacted, enacted_sound, keep_enacted, alter_enacted, at_row, segment_code_lem, relabel_enacted, fix_enacted, requota_enacted}

-- a row holds all of a new object, as it does of those that the four creates make
abbrev pub Storable : Change → Type 0
Storable keep = Unit {0}
Storable (alter o e) = Unit {0}
Storable (create d x) = Fresh x
Storable (cut d o) = Unit {0}
Storable (link d o) = Unit {0}

module _ (v : View) (area : List ℕ) (s : Sound v) (z : Shape v) where
  -- a link is cut with all that hangs on it;
  pub cut_enacted : (d o : ℕ) → Enacted (cut d o) v area
  unfolding enact_view enact_area
  cut_enacted d o = record { world = cut_world v area z s d o; placed = cut_placed v area z s d o; shape = cut_shape v area d o z }

  -- a segment's bytes are written, or it is resized.
  pub rewrite_enacted : (o : ℕ) (b : List ℕ) → Fair (world_of v area) (alter o (rewrite b)) → Enacted (alter o (rewrite b)) v area
  unfolding altered_view altered_area
  rewrite_enacted o b f =
      at_row v area s o (segment_live ((world_of v area).obj o).kind f.is_segment_lem) (λ r a i h.
      let code = segment_code_lem v area s o r a i f.is_segment_lem in
      let q : ((world_of v area).obj o).quota ≡ quota_of v r = ap (λ (n : ℕ). ((world_of v area).obj n).quota) (sym i) ∙ quota_at v area (placed v s) r a in
      let room = block_room v s r (length b) a.low code (omega (arith, f.within, q)) in
      alter_enacted v area o r (rewrite b) h
      (rewritten_world v z (placed v s) r a code area b room ∙ ap (λ (n : ℕ). apply (alter n (rewrite b)) (world_of v area)) i)
      (lengthened_placed v z (placed v s) r a code (length b) room)
      (lengthened_shape v z (placed v s) r a code (length b)))

  -- So is every fair change:
  pub every_enacted : (h : Change) → Fair (world_of v area) h → Storable h → Enacted h v area
  every_enacted keep f t = keep_enacted v area s z
  every_enacted (alter o (relabel l c)) f t = relabel_enacted v area s z o l c f
  every_enacted (alter o fix) f t = fix_enacted v area s z o f
  every_enacted (alter o (requota q)) f t = requota_enacted v area s z o q f
  every_enacted (alter o (rewrite b)) f t = rewrite_enacted o b f
  every_enacted (create d x) f t = create_enacted v area z s x t d f
  every_enacted (cut d o) f t = cut_enacted d o
  every_enacted (link d o) f t = link_enacted v area z s d o f

  -- and while the numbers last, the book stays sound.
  pub every_sound : (h : Change) → next_of v ≤ last_number → Fair (world_of v area) h → Storable h → Sound (enact_view h v area)
  every_sound h n f t = enacted_sound v area s z h n f (every_enacted h f t)
