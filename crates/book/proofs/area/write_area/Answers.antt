use mathlib.Core.Path.{◌≡◌, refl, sym, ap, ◌∙◌}
use Prim.Native.Nat.{ℕ, ◌+◌}
use native.Mathlib.Numerals.{add-one}
use native.Mathlib.Omega.{arith}
use mathlib.Core.List.{List, ◌++◌}
use lib.ListN.{length, get_or, set, take, drop, length-set}
use lib.Seq.{sets-eq, paste, paste-zero, paste-suc, take_all}
use Rattle.book.proofs.area.write_area.Goals as goal

pub loop-j-init : goal.loop-j-init
loop-j-init c = (refl, paste-zero c.args.area.now c.args.place c.args.bytes.now)

pub loop-j-preserved : goal.loop-j-preserved
loop-j-preserved c =
    let a = c.args in
    let l = c.loop-j in
    let v = get_or a.bytes.now l.j 0 in (
      length-set l.area (a.place + l.j) v ∙ l.invariant.0,
      ap (λ (x : List ℕ). set x (a.place + l.j) v) l.invariant.1
          ∙ paste-suc a.area.now a.place a.bytes.now l.j 0 (omega arith) (omega arith)
          ∙ ap (paste a.area.now a.place a.bytes.now) (sym (add-one l.j)),
    )

pub returns : goal.returns
returns c =
    let a = c.args in
    let l = c.loop-j in
    let z : l.j ≡ length a.bytes.now = omega arith in
    l.invariant.1
    ∙ ap (paste a.area.now a.place a.bytes.now) z
    ∙ ap (λ (x : List ℕ). take a.place a.area.now ++ x ++ drop (a.place + length a.bytes.now) a.area.now) (take_all (length a.bytes.now) a.bytes.now (omega arith))
    ∙ sym (sets-eq a.bytes.now a.area.now a.place (omega arith))
