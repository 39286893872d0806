use Prim.Native.Nat.{◌-◌, ◌<◌}
use native.Mathlib.Omega.{arith}
use mathlib.Core.Path.{◌≡◌, ◌∙◌, sym}
use Rattle.book.specs.Seen.{offset_of, two_bytes}
use Rattle.book.specs.Book.{owner_of}
use Rattle.tables.specs.Layout.{view, row_count}
use Rattle.book.proofs.Laws.MeansBlocks.{owned_is}
use Rattle.book.proofs.Laws.Seen.{number_low, number_read, offset_most}
use Rattle.book.proofs.sound_blocks.number.Goals as goal

pub row_of-owner-requires : goal.row_of-owner-requires
row_of-owner-requires c =
    let (used, owned, few, numbered) = c.requires in
    (λ z. used (sym c.get.ensures ∙ z), omega (arith, (owned_is (view c.args.b.now) c.args.i owned).owner_low, c.get.ensures))

pub returns : goal.returns
returns c =
    let (used, owned, few, numbered) = c.requires in
    let v = view c.args.b.now in
    let r = c.from.result in
    let owner : r ≡ owner_of v c.args.i - 1 = omega arith in
    let there : r < row_count = omega (arith, (owned_is v c.args.i owned).owner_low) in
    let small : two_bytes (offset_of v r) ≡ offset_of v r = omega (arith, offset_most v r there) in
    let e = number_read v c.args.i r c.from-2.result c.from-3.result owner (c.from-2.ensures ∙ numbered.offset r there ∙ small) (c.from-3.ensures ∙ c.get-2.ensures) in
    (e, omega (arith, e, number_low v c.args.i (owned_is v c.args.i owned)))
