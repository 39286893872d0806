-- A signed number of units, as call 11 takes it: so many in or so many out, or refused as over its limit; and what each asks and comes to.
use Rattle.std.specs.Prelude.{ℕ, suc, ◌+◌, ◌-◌, ◌≤◌, Bool, cond, List, [], leb, ltb, ℤ, pos, negsuc, Result, Ok, Err}
use Rattle.labels.specs.declared.Label.{Label}
use Rattle.rules.specs.Kernel.{Condition, World, reading, fits, max_move, root_quota}
use Rattle.tables.specs.Layout.{View}
use Rattle.book.specs.Units.{spare_at}
use Rattle.calls.specs.declared.amount.Amount.{Amount}
use Rattle.calls.specs.declared.amount.Amount.TheVariants.{In, Out}
use Rattle.calls.specs.declared.Refusal.{Refusal}
use Rattle.calls.specs.declared.Refusal.TheVariants.{BadArgument}

-- RULES 8.11: "4 unless n is from -256 to 256."
unfoldable pub amount_of : ℤ → Result Amount Refusal
amount_of (pos k) = cond (ltb max_move k) (Err BadArgument) (Ok (In k))
amount_of (negsuc k) = cond (ltb k max_move) (Ok (Out (suc k))) (Err BadArgument)

-- RULES 8.11: ".. and, for n below 0, O flows to high(T)."
abbrev pub more_for : Amount → Label → Label → List Condition
more_for (In m) t o = []
more_for (Out m) t o = reading t o

-- RULES 8.11: "13 if n is above D's spare, or if n is below 0 and -n is above O's spare."
abbrev pub room_for : Amount → World → ℕ → ℕ → Bool
room_for (In m) w d o = fits w d m
room_for (Out m) w d o = fits w o m

-- the same by the rows of both
abbrev pub room_at : Amount → View → ℕ → ℕ → Bool
room_at (In m) v k r = leb m (spare_at v k)
room_at (Out m) v k r = leb m (spare_at v r)

-- the quota that q becomes
abbrev pub quota_for : Amount → ℕ → ℕ
quota_for (In m) q = q + m
quota_for (Out m) q = q - m

-- that it can be reckoned
abbrev pub Reckoned : Amount → ℕ → Type 0
Reckoned (In m) q = m ≤ root_quota
Reckoned (Out m) q = m ≤ q

-- the same of what a signed number comes to: over the limit q stays
abbrev pub quota_if : Result Amount Refusal → ℕ → ℕ
quota_if (Ok u) q = quota_for u q
quota_if (Err r) q = q

abbrev pub ReckonedIf : Result Amount Refusal → ℕ → Type 0
ReckonedIf (Ok u) q = Reckoned u q
ReckonedIf (Err r) q = 0 ≤ q
