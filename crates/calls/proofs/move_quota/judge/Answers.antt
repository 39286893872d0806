use Rattle.std.proofs.Common.{rules, sym, ap, ◌∙◌}
use mir.Facts.{to_z-of_z}
use Rattle.calls.specs.Amount.{amount_of}
use Rattle.calls.specs.Laws.Begun.{sound_by_caller}
use Rattle.calls.specs.Laws.Entry.{container_there, object_there}
use Rattle.calls.specs.Laws.MoveQuota.{move_seven, to_move}
use Rattle.calls.proofs.move_quota.judge.Goals as goal

pub has_room-requires : goal.has_room-requires
has_room-requires c =
    let by = c.in_ok-book.ensures.1 in
    let e = sym c.in_ok-place.ensures in
    (sound_by_caller _ _ _ _ by, container_there _ _ _ _ _ _ by _ e, object_there _ _ _ _ _ _ by _ e)

pub returns-in_err-allowed : goal.returns-in_err-allowed
returns-in_err-allowed c =
    let (lent, by) = c.in_ok-book.ensures in
    let ok = sym (c.in_ok-units.ensures ∙ ap amount_of (to_z-of_z c.ranges.n)) in
    move_seven _ _ _ _ _ _ _ lent by _ _ ok _ (sym c.in_ok-place.ensures) (search rules) c.in_err-allowed.field-0.0 (search rules) _ c.from_residual-in_err-allowed.ensures

pub returns : goal.returns
returns c =
    let (lent, by) = c.in_ok-book.ensures in
    let ok = sym (c.in_ok-units.ensures ∙ ap amount_of (to_z-of_z c.ranges.n)) in
    to_move _ _ _ _ _ _ _ lent by _ _ ok _ (sym c.in_ok-place.ensures) (search rules) (search rules) (search rules) (search rules)
