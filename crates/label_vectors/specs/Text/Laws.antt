-- Laws of text, and some examples of it.
use Rattle.std.specs.Prelude.{ℕ, zero, suc, ◌+◌, ◌*◌, ◌-◌, ◌/◌, ◌%◌, ◌^◌, ◌<◌, ◌≤◌, Bool, true, false, cond, ◌≡◌, refl, List, [], ◌∷◌, ◌++◌, ltb, length, get_or, set, take, drop}
use Rattle.std.proofs.Common.{sym, ◌∙◌, add-zero, add-one, arith, lt-ltb, le-ltb, ltb-true, ltb-false, length-append}
use Rattle.std.proofs.Common.{length-set, take-append-drop, drop_of_length-le, drop-cons, drop-drop, take-suc-set, drop-set-lt}
use Rattle.std.proofs.Math.Nat.{pow-succ', one-le-pow, pow-le-pow_right}
use Rattle.std.proofs.Math.Seq.{append_snoc}
use Rattle.io.specs.Digits.{last_digits, IsDigitCount}
use Rattle.label_vectors.specs.Text.{put, digit_of, hex_of, decimal_in, decimal_of}

-- ---- text in a buffer

-- no text: the buffer as it was
pub put_nil : (out : List ℕ) (at : ℕ) → put out at [] ≡ out
unfolding put
put_nil out at = rw add-zero (take-append-drop at out)

-- text that begins with x: x is stored, and the rest put behind it
pub put_cons : (out : List ℕ) (at x : ℕ) (text : List ℕ) → at < length out → put out at (x ∷ text) ≡ put (set out at x) (at + 1) text
unfolding put
put_cons out at x text h =
    let m : at + suc (length text) ≡ at + 1 + length text = omega arith in
    rw (m, drop-set-lt (at + 1 + length text) out at x (omega arith), add-one at, take-suc-set out at x h)
    (sym (append_snoc (take at out) x (text ++ drop (suc at + length text) out)))

-- text behind text
pub put_append : (out : List ℕ) (at : ℕ) (a b : List ℕ) → at + length a ≤ length out → put (put out at a) (at + length a) b ≡ put out at (a ++ b)
put_append out at [] b h = rw (put_nil out at, add-zero)
put_append out at (x ∷ a) b h =
    let m : at + suc (length a) ≡ at + 1 + length a = omega arith in
    rw (put_cons out at x a (omega arith), m, put_append (set out at x) (at + 1) a b (simp length-set (omega arith)))
    (sym (put_cons out at x (a ++ b) (omega arith)))

-- what a function that puts text leaves and answers
abbrev pub Puts : List ℕ → ℕ → List ℕ → List ℕ → ℕ → Type 0
Puts out at text left r = (r ≡ at + length text) × (left ≡ put out at text)

-- two such functions, one after the other
pub puts_then : (out : List ℕ) (at : ℕ) (a b : List ℕ) (mid : List ℕ) (next : ℕ) (left : List ℕ) (r : ℕ)
    → Puts out at a mid next → Puts mid next b left r → at + length a ≤ length out → Puts out at (a ++ b) left r
puts_then out at a b mid next left r p q h =
    (simp length-append (omega arith), q.1 ∙ rw (p.0, p.1) (put_append out at a b h))

-- a part of the buffer that becomes the text
pub put_part : (out : List ℕ) (at k : ℕ) (part text : List ℕ) → part ≡ text → k ≡ length text → take at out ++ (part ++ drop k (drop at out)) ≡ put out at text
unfolding put
put_part out at k part text e f = rw (e, f, drop-drop (length text) at out)

-- ---- hexadecimal

-- two digits a byte
pub hex_length : (bytes : List ℕ) → length (hex_of bytes) ≡ length bytes * 2
unfolding hex_of
hex_length [] = refl
hex_length (b ∷ bs) = let e = hex_length bs in omega arith

-- a walk that spells: the byte at i is spelt, and those behind it are to be
pub hex_more : (out : List ℕ) (at : ℕ) (bytes : List ℕ) (i : ℕ) → at + 1 < length out → i < length bytes
    → put out at (hex_of (drop i bytes))
    ≡ put (set (set out at (digit_of (get_or bytes i 0 / 16))) (at + 1) (digit_of (get_or bytes i 0 % 16))) (at + 1 + 1) (hex_of (drop (i + 1) bytes))
unfolding hex_of
hex_more out at bytes i h l =
    let b : ℕ = get_or bytes i 0 in
    rw (drop-cons bytes i 0 l, add-one i)
    (put_cons out at (digit_of (b / 16)) (digit_of (b % 16) ∷ hex_of (drop (suc i) bytes)) (omega arith)
    ∙ put_cons (set out at (digit_of (b / 16))) (at + 1) (digit_of (b % 16)) (hex_of (drop (suc i) bytes)) (simp length-set (omega arith)))

-- and where i has come to the end none is
pub hex_end : (out : List ℕ) (at : ℕ) (bytes : List ℕ) (i : ℕ) → length bytes ≤ i → put out at (hex_of (drop i bytes)) ≡ out
unfolding hex_of
hex_end out at bytes i h = rw (drop_of_length-le bytes h) (put_nil out at)

-- ---- decimal

-- never more digits than k
pub decimal_length : (k n : ℕ) → length (decimal_in k n) ≤ k
unfolding decimal_in
decimal_length zero n = omega arith
decimal_length (suc k) n = go (ltb n 10) (decimal_length k (n / 10))
  where
    go : (b : Bool) → length (decimal_in k (n / 10)) ≤ k → length (cond b (digit_of n ∷ []) (decimal_in k (n / 10) ++ (digit_of (n % 10) ∷ []))) ≤ suc k
    go true h = omega arith
    go false h = simp length-append (omega arith)

-- the fewest digits that hold a number below 2^64 are 20 at most
pub decimal_fits : (n j : ℕ) → IsDigitCount 10 1 n j → n < 18446744073709551616 → j ≤ 20
decimal_fits n j f l = go (ltb 20 j) refl
  where
    go : (b : Bool) → ltb 20 j ≡ b → j ≤ 20
    go false e = ltb-false 20 j e
    go true e =
        let h = ltb-true 20 j e in
        let p : 10 ^ 20 ≤ 10 ^ (j - 1) = pow-le-pow_right (omega arith) {i = 20} {j = j - 1} (omega arith) in
        let q = f.2 (omega arith) in
        omega arith

-- they are these, with room for k of them
decimal_fewest : (k n j : ℕ) → IsDigitCount 10 1 n j → j ≤ k → last_digits 10 j n ≡ decimal_in k n
unfolding decimal_in digit_of
decimal_fewest k n zero f l = absurd (omega arith)
decimal_fewest zero n (suc j) f l = absurd (omega arith)
decimal_fewest (suc k) n (suc zero) f l =
    let m : n % 10 ≡ n = omega arith in
    rw (m, lt-ltb n 10 f.1)
decimal_fewest (suc k) n (suc (suc j)) f l =
    let e : suc (suc j) - 1 ≡ suc j = omega arith in
    let d : suc j - 1 ≡ j = omega arith in
    let p : n < 10 * 10 ^ suc j = rw pow-succ' at f.1 in
    let q : 10 * 10 ^ j ≤ n = rw (e, pow-succ') at (f.2 (omega arith)) in
    let z = one-le-pow j 10 (omega arith) in
    rw (le-ltb n 10 (omega arith), decimal_fewest k (n / 10) (suc j) (omega arith, omega arith, λ h. rw d (omega arith)) (omega arith))

-- THE LAW: what `io::decimal` spells
pub decimal_is : (n j : ℕ) → IsDigitCount 10 1 n j → n < 18446744073709551616 → last_digits 10 j n ≡ decimal_of n
decimal_is n j f l = decimal_fewest 20 n j f (decimal_fits n j f l)

-- ---- examples: `00af`, `0`, and the largest number

hex_example : hex_of (0 ∷ 175 ∷ []) ≡ 48 ∷ 48 ∷ 97 ∷ 102 ∷ []
unfolding hex_of digit_of
hex_example = refl

decimal_zero : decimal_of 0 ≡ 48 ∷ []
unfolding decimal_in digit_of
decimal_zero = refl

decimal_most : decimal_of 18446744073709551615 ≡ 49 ∷ 56 ∷ 52 ∷ 52 ∷ 54 ∷ 55 ∷ 52 ∷ 52 ∷ 48 ∷ 55 ∷ 51 ∷ 55 ∷ 48 ∷ 57 ∷ 53 ∷ 53 ∷ 49 ∷ 54 ∷ 49 ∷ 53 ∷ []
unfolding decimal_in digit_of
decimal_most = refl
