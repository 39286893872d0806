use Prim.Native.Nat.{ℕ, ◌+◌, ◌<◌}
use native.Mathlib.Omega.{arith}
use mathlib.Core.Path.{◌≡◌, refl, sym, ◌∙◌, ap, subst}
use mathlib.Core.List.{List}
use Rattle.tables.specs.Layout.{View, view, link_from_t, put_t}
use Rattle.book.specs.declared.kinds.Kind.TheVariants.{Container}
use Rattle.book.specs.Book.{code_of, to_of}
use Rattle.book.specs.Cut.{Linked}
use Rattle.book.specs.Laws.Kinds.{kind_same, kind_other}
use Rattle.book.specs.Laws.CutSteps.{live_links, Sofar, begun, links_fall, object_kept, code_read, all_done, next_linked, next_turned, next_skipped}
use Rattle.book.proofs.cut.+turn_off.Goals as goal
use Rattle.book.proofs.cut.+turn_off.Goals.{After-get-mark}

-- what the call has left: link k is off too, with all that hangs on it
turned : (t : ℕ) (c : After-get-mark t) (e : List ℕ) (ok : Linked e c.args.l) → view c.put.new.b ≡ put_t link_from_t c.args.l 0 (view e)
    → Sofar (view e) c.args.l (c.loop-k.k + 1) (view c.turn_off-k.new.b)
turned t c e ok q =
    let l = c.loop-k in
    let o = c.get-o in
    let gone = c.turn_off-k in
    let mark = c.get in
    let eo = o.ensures ∙ ap (λ (x : View). to_of x c.args.l) (sym c.put.ensures ∙ q) in
    let code = kind_same c.kind_at.result (code_of (view c.put.new.b) o.result) Container c.kind_at.ensures (sym c.ne.ensures ∙ c.if-ne.false) in
    let con = code_read e c.args.l ok c.put.new.b o.result (code_of (view c.put.new.b) o.result) q eo refl ∙ code in
    next_turned e c.args.l ok l.b l.k (l.invariant.3 e ok q) mark.result mark.ensures c.loop-k-test.true o.result
    (c.if-get-mark.true ∙ l.invariant.2) eo con (view gone.new.b) gone.ensures.unlinked

-- the mark that is read anew is the one that was looked for
same_mark : (t : ℕ) (c : After-get-mark t) → c.get-mark.result ≡ c.get-o.result
same_mark t c =
    c.get-mark.ensures
    ∙ object_kept c.args.b.now c.args.l c.requires c.turn_off-k.new.b (c.loop-k.k + 1) (turned t c c.args.b.now c.requires c.put.ensures)
    ∙ sym c.get-o.ensures

pub returns-then-ne-clause-unlinked : goal.returns-then-ne-clause-unlinked
returns-then-ne-clause-unlinked t c =
    let a = c.args in
    let off = c.put in
    let con = code_read a.b.now a.l c.requires off.new.b c.get-o.result (code_of (view off.new.b) c.get-o.result) off.ensures c.get-o.ensures refl in
    let other = kind_other c.kind_at.result (code_of (view off.new.b) c.get-o.result) Container c.kind_at.ensures (sym c.ne.ensures ∙ c.if-ne.true) in
    all_done a.b.now a.l c.requires off.new.b 0 (begun a.b.now a.l c.requires off.new.b off.ensures) (λ q. absurd (other (sym con ∙ q)))

pub loop-k-init : goal.loop-k-init
loop-k-init t c =
    (c.put.array_long, omega arith, refl, λ e ok q. begun e c.args.l ok c.put.new.b q)

pub turn_off-k-requires : goal.turn_off-k-requires
turn_off-k-requires t c =
    let l = c.loop-k in
    let mark = c.get in
    let sofar = l.invariant.3 c.args.b.now c.requires c.put.ensures in (
      subst (λ (x : ℕ). live_links (view l.b) < x) c.decreases (links_fall c.args.b.now c.args.l c.requires l.b l.k sofar),
      next_linked c.args.b.now c.args.l c.requires l.b l.k sofar mark.result mark.ensures
          c.loop-k-test.true c.get-o.result (c.if-get-mark.true ∙ l.invariant.2) l.invariant.0,
    )

pub loop-k-preserved-then-get-mark : goal.loop-k-preserved-then-get-mark
loop-k-preserved-then-get-mark t c =
    let gone = c.turn_off-k in
    let next = gone.ensures.value in
    let here = (goal.at.loop-k-preserved-then-get-mark t c).After-get-mark in (
      gone.array_long,
      omega (arith, next, c.loop-k-test.true),
      ap (λ (x : ℕ). x + 1) (same_mark t here),
      λ e ok q. subst (λ (x : ℕ). Sofar (view e) c.args.l x (view gone.new.b)) (sym next) (turned t here e ok q),
    )

pub loop-k-preserved : goal.loop-k-preserved
loop-k-preserved t c =
    let l = c.loop-k in
    let mark = c.get in
    let o = c.get-o in (
      l.invariant.0,
      omega (arith, c.loop-k-test.true),
      l.invariant.2,
      λ e ok q.
          let eo = o.ensures ∙ ap (λ (x : View). to_of x c.args.l) (sym c.put.ensures ∙ q) in
          next_skipped e c.args.l ok l.b l.k (l.invariant.3 e ok q) mark.result mark.ensures c.loop-k-test.true o.result
          (λ m. c.if-get-mark.false (m ∙ sym l.invariant.2)) eo,
    )

pub returns-clause-unlinked : goal.returns-clause-unlinked
returns-clause-unlinked t c =
    let l = c.loop-k in
    all_done c.args.b.now c.args.l c.requires l.b l.k (l.invariant.3 c.args.b.now c.requires c.put.ensures) (λ q. c.loop-k-test.false)
