-- A history played call by call, with what each call says.
use Rattle.std.specs.Prelude.{ℕ, zero, suc, ◌-◌, ◌<◌, Bool, true, ◌&&◌, ◌≡◌, List, [], ◌∷◌, get_or, replicate, ltb, ℤ, pos, negsuc}
use Rattle.std.proofs.Common.{arith, ltb-true}
use Rattle.labels.specs.Core.{label_bytes, word_of, word_count}
use Rattle.rules.specs.Kernel.{World, Call, start, call, after, answer_of, value_of, output_of}
use Rattle.rules.proofs.Laws.Bools.{and_l, and_r}

pub record Turn : Type 0 where
  pub caller : ℕ
  pub call : Call

pub record Said : Type 0 where
  pub answer : ℕ
  pub value : ℕ
  pub output : List ℕ

abbrev pub turn : ℕ → Call → Turn
turn c x = record { caller = c; call = x }

abbrev pub said : ℕ → ℕ → List ℕ → Said
said a v b = record { answer = a; value = v; output = b }

unfoldable pub run : List Turn → World → List Said
run [] w = []
run (t ∷ ts) w =
    said (answer_of (call w t.caller t.call)) (value_of (call w t.caller t.call)) (output_of (call w t.caller t.call))
    ∷ run ts (after w t.caller t.call)

-- the world that turns lead to
unfoldable pub end : List Turn → World → World
end [] w = w
end (t ∷ ts) w = end ts (after w t.caller t.call)

-- a history from a start, and what each of its calls should say
pub record Day : Type 0 where
  pub first : ℕ
  pub turns : List Turn
  pub said : List Said

abbrev pub day : ℕ → List Turn → List Said → Day
day f ts ss = record { first = f; turns = ts; said = ss }

-- what the rules say of each
unfoldable pub played : List Day → List (List Said)
played [] = []
played (d ∷ ds) = run d.turns (start d.first) ∷ played ds

-- what is written
unfoldable pub written : List Day → List (List Said)
written [] = []
written (d ∷ ds) = d.said ∷ written ds

-- the words of pairs (category, code), and zeros up to n words
unfoldable pub words_for : ℕ → List (ℕ × ℕ) → List ℕ
words_for n [] = replicate n 0
words_for n (p ∷ ps) = word_of p.0 p.1 ∷ words_for (n - 1) ps

-- the 65 bytes of the label with a default code and pairs (category, code)
unfoldable pub lent : ℕ → List (ℕ × ℕ) → List ℕ
lent d ps = label_bytes (record { default = d; words = words_for word_count ps })

unfoldable pub zeros32 : List ℕ
zeros32 = replicate 32 0

-- each number of a list is a byte
unfoldable pub bytes_b : List ℕ → Bool
bytes_b [] = true
bytes_b (n ∷ ns) = ltb n 256 && bytes_b ns

pub bytes_below : (l : List ℕ) → bytes_b l ≡ true → (k : ℕ) → get_or l k 0 < 256
unfolding bytes_b
bytes_below [] e k = omega arith
bytes_below (n ∷ ns) e zero = ltb-true n 256 (and_l (ltb n 256) (bytes_b ns) e)
bytes_below (n ∷ ns) e (suc k) = bytes_below ns (and_r (ltb n 256) (bytes_b ns) e) k

-- call 11's n: units moved in, or back
abbrev pub into : ℕ → ℤ
into n = pos n

abbrev pub back : ℕ → ℤ
back n = negsuc (n - 1)
