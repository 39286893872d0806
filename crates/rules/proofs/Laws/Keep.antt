-- A fair change keeps a sound world sound.
use Rattle.std.specs.Prelude.{true, ◌≡◌, leb}
use Rattle.std.proofs.Common.{leb-true}
use Rattle.rules.specs.Kernel.{World, Change, keep, alter, create, cut, link, apply, last_number}
use Rattle.rules.specs.Sound.{Sound}
use Rattle.rules.specs.Fair.{Fair}
use Rattle.rules.proofs.Laws.KeepAlter.{sound_keep, keep_alter}
use Rattle.rules.proofs.Laws.KeepCreate.{keep_create}
use Rattle.rules.proofs.Laws.KeepLink.{keep_link}
use Rattle.rules.proofs.Laws.KeepCut.{keep_cut}

-- While the numbers last, a fair change of a sound world leaves it sound.
pub keep_sound : (w : World) → Sound w → leb w.next last_number ≡ true → (h : Change) → Fair w h → Sound (apply h w)
keep_sound w s n keep f = sound_keep w s (leb-true w.next last_number n)
keep_sound w s n (alter o e) f = keep_alter w s (leb-true w.next last_number n) o e f
keep_sound w s n (create d x) f = keep_create w s d x f (leb-true w.next last_number n)
keep_sound w s n (cut d o) f = keep_cut w s d o (leb-true w.next last_number n)
keep_sound w s n (link d o) f = keep_link w s d o f (leb-true w.next last_number n)
