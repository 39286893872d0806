-- Arguments that are lent bytes, and what they are parsed to.
use Rattle.std.specs.Prelude.{Bool, true, false, ◌≡◌, Option, MatchOption}

-- there is something, and it is as `well` says, exactly if the arguments are good
abbrev pub LentIf : {A : Type 0} → Bool → (A → Type 0) → Option A → Type 0
LentIf good well o = MatchOption o (good ≡ false) (λ x. (good ≡ true) × well x)
