-- Text as bytes: a number in decimal, bytes in hexadecimal, and text put into a buffer.
use Rattle.std.specs.Prelude.{ℕ, zero, suc, ◌+◌, ◌/◌, ◌%◌, cond, List, [], ◌∷◌, ◌++◌, ltb, length, take, drop}
pub mod Laws

-- the buffer with the text at `at`, where it fits, and every other byte as it was
unfoldable pub put : List ℕ → ℕ → List ℕ → List ℕ
put out at text = take at out ++ (text ++ drop (at + length text) out)

-- the character of a digit: `0` to `9`, then `a` to `f`
unfoldable pub digit_of : ℕ → ℕ
digit_of d = cond (ltb d 10) (48 + d) (87 + d)

-- each byte in hexadecimal, as two digits
unfoldable pub hex_of : List ℕ → List ℕ
hex_of [] = []
hex_of (b ∷ bs) = digit_of (b / 16) ∷ digit_of (b % 16) ∷ hex_of bs

-- a number in decimal, with no zeros in front; the last k digits where it has more
unfoldable pub decimal_in : ℕ → ℕ → List ℕ
decimal_in zero n = []
decimal_in (suc k) n = cond (ltb n 10) (digit_of n ∷ []) (decimal_in k (n / 10) ++ (digit_of (n % 10) ∷ []))

-- a number below 2^64 in decimal: it has 20 digits at most
abbrev pub decimal_of : ℕ → List ℕ
decimal_of n = decimal_in 20 n
