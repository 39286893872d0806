-- Labels where they are held: the words that bytes spell, and the label that is meant.
use Prim.Native.Nat.{ℕ, zero, suc, ◌+◌, ◌-◌, ◌*◌, ◌/◌, ◌<◌, ◌≤◌}
use Rattle.std.specs.Prelude.{◌≡◌, Bool, true, false, cond, leb, length, take, drop}
use Rattle.std.specs.Borrow.{Bor}
use Rattle.std.proofs.Math.Path.{refl, ap, ap₂}
use Rattle.std.proofs.Common.{sym, ◌∙◌, subst, add-zero, le-leb, length-drop, length-take-le, drop-drop}
use mathlib.Core.List.{List, [], ◌∷◌, ◌++◌}
use native.Mathlib.Omega.{arith}
use Rattle.std.proofs.lemmas.Bool.{lt-leb}
use Rattle.std.proofs.Math.ListN.{get_or}
use Rattle.std.proofs.Math.Seq.{take_all}
use Rattle.labels.specs.declared.Label.{Label}
use Rattle.labels.specs.declared.LabelRef.{LabelRef}
use Rattle.labels.specs.Core.{word_count, label_size, words_at, words_bytes, label_of, spelt, words_in, held_in, meant}
use Rattle.labels.specs.Core.Bytes.{words_at_length, words_bytes_words_at, pasted}
use Rattle.labels.specs.Core.Same.{label_ext}
use Rattle.labels.specs.Le.{le_at}
use Rattle.labels.specs.Le.Laws.{Below, le_at_part}

-- word i of n words
pub words_at_at : (n : ℕ) (b : List ℕ) (from i : ℕ) → i < n → get_or (words_at n b from) i 0 ≡ le_at 8 b (from + i * 8)
unfolding words_at
words_at_at zero b from i h = absurd (omega arith)
words_at_at (suc n) b from zero h = ap (le_at 8 b) (sym (add-zero from))
words_at_at (suc n) b from (suc i) h =
    let m : from + 8 + i * 8 ≡ from + suc i * 8 = omega arith in
    words_at_at n b (from + 8) i (omega arith) ∙ ap (le_at 8 b) m

-- ---- words in a part are those of the whole

module _ (m : ℕ) (b : List ℕ) (from : ℕ) where
  words_at_part : (n p : ℕ) → p + n * 8 ≤ m → words_at n (take m (drop from b)) p ≡ words_at n b (from + p)
  unfolding words_at
  words_at_part zero p h = refl
  words_at_part (suc n) p h =
      let q : from + (p + 8) ≡ from + p + 8 = omega arith in
      ap₂ (λ (u : ℕ) (v : List ℕ). u ∷ v) (le_at_part m b from 8 p (omega arith)) (words_at_part n (p + 8) (omega arith) ∙ ap (words_at n b) q)

-- ---- bytes that spell words

pub spelt_length : (b : List ℕ) → length (spelt b) ≡ length b / 8
unfolding spelt
spelt_length b = words_at_length (length b / 8) b 0

pub spelt_at : (b : List ℕ) (i : ℕ) → i < length b / 8 → le_at 8 b (i * 8) ≡ get_or (spelt b) i 0
unfolding spelt
spelt_at b i h =
    let m : 0 + i * 8 ≡ i * 8 = omega arith in
    sym (words_at_at (length b / 8) b 0 i h ∙ ap (le_at 8 b) m)

-- n words in a part
pub spelt_part : (n : ℕ) (b : List ℕ) (from : ℕ) → from + n * 8 ≤ length b → spelt (take (n * 8) (drop from b)) ≡ words_at n b from
unfolding spelt
spelt_part n b from h =
    let part = take (n * 8) (drop from b) in
    let long : length part ≡ n * 8 = length-take-le (n * 8) (drop from b) (simp length-drop (omega arith)) in
    let many : length part / 8 ≡ n = omega arith in
    ap (λ (k : ℕ). words_at k part 0) many ∙ words_at_part (n * 8) b from n 0 (omega arith) ∙ ap (words_at n b) (add-zero from)

-- ---- the bytes that spell words, written as the words

-- what stands within bytes is bytes
below_part : (p q r : List ℕ) → Below 256 (p ++ (q ++ r)) → Below 256 q
below_part (x ∷ p) q r h i = below_part p q r (λ j. h (suc j)) i
below_part [] [] r h i = omega arith
below_part [] (x ∷ q) r h zero = h 0
below_part [] (x ∷ q) r h (suc i) = below_part [] q r (λ j. h (suc j)) i

spelt_bytes : (b : List ℕ) → Below 256 (take (length b / 8 * 8) b) → words_bytes (spelt b) ≡ take (length b / 8 * 8) b
unfolding spelt
spelt_bytes b h =
    let n = length b / 8 in
    let part = take (n * 8) b in
    let long : length part ≡ n * 8 = length-take-le (n * 8) b (omega arith) in
    let same : words_at n part 0 ≡ words_at n b 0 = words_at_part (n * 8) b 0 n 0 (omega arith) in
    ap words_bytes (sym same) ∙ words_bytes_words_at n part 0 (omega arith) h ∙ take_all (n * 8) part (omega arith)

-- the bytes `out` with the first k of the bytes b put in at `from`, where k are those that spell words
pub put_spelt : (out b part : List ℕ) (from k : ℕ) → part ≡ take (length b / 8 * 8) b → k ≡ length b / 8 * 8 → Below 256 (take from out ++ (part ++ drop k (drop from out)))
    → take from out ++ (part ++ drop k (drop from out)) ≡ pasted out from (spelt b)
put_spelt out b part from k e ek h =
    let bytes = spelt_bytes b (subst (Below 256) e (below_part (take from out) part (drop k (drop from out)) h)) in
    let many : length (spelt b) * 8 ≡ length b / 8 * 8 = omega (arith, spelt_length b) in
    ap₂ (λ (u v : List ℕ). take from out ++ (u ++ v)) (e ∙ sym bytes) (drop-drop k from out ∙ ap (λ (m : ℕ). drop (from + m) out) (ek ∙ sym many))

-- ---- the words that stand at a place, as a part of the bytes

module _ (b part : List ℕ) (from : ℕ) where
  -- the words, and no byte more than they have
  with_length : (n : ℕ) → length part ≡ n * 8 → spelt part ≡ words_in b from → (spelt part ≡ words_in b from) × (length part ≡ length (words_in b from) * 8)
  with_length n f e = (e, omega (arith, f, spelt_length part, ap length e))

  pub held_part : from + word_count * 8 ≤ length b → part ≡ take (from + word_count * 8 - from) (drop from b)
      → (spelt part ≡ words_in b from) × (length part ≡ length (words_in b from) * 8)
  unfolding words_in
  held_part l e =
      let m : from + word_count * 8 - from ≡ word_count * 8 = omega arith in
      let whole : part ≡ take (word_count * 8) (drop from b) = e ∙ ap (λ (n : ℕ). take n (drop from b)) m in
      let long : length (take (word_count * 8) (drop from b)) ≡ word_count * 8 = length-take-le (word_count * 8) (drop from b) (simp length-drop (omega arith)) in
      with_length word_count (ap length whole ∙ long) (rw (le-leb (from + word_count * 8) (length b) l) (ap spelt whole ∙ spelt_part word_count b from l))

  pub held_past : length b < from + word_count * 8 → part ≡ [] → (spelt part ≡ words_in b from) × (length part ≡ length (words_in b from) * 8)
  unfolding words_in spelt words_at
  held_past l e = with_length 0 (ap length e) (rw (lt-leb (from + word_count * 8) (length b) l) (ap spelt e))

-- at most as many as a label has
pub held_most : (b : List ℕ) (d from : ℕ) → length (held_in b d from).words ≤ word_count
unfolding held_in words_in
held_most b d from = go (leb (from + word_count * 8) (length b))
  where
    go : (t : Bool) → length (cond t (words_at word_count b from) []) ≤ word_count
    go true = omega (arith, words_at_length word_count b from)
    go false = omega arith

pub held_default : (b : List ℕ) (d from : ℕ) → (held_in b d from).default ≡ d
unfolding held_in
held_default b d from = refl

-- ---- the label that is meant

module _ (l : LabelRef) where
  pub meant_default : (meant l).default ≡ l.default
  unfolding meant
  meant_default = refl

  pub meant_words : (meant l).words ≡ spelt l.words.now
  unfolding meant
  meant_words = refl

  -- as many words as there are bytes for
  pub meant_length : length (meant l).words ≡ length l.words.now / 8
  unfolding meant
  meant_length = spelt_length l.words.now

  -- where these are as many as a label has
  pub meant_value : length (meant l).words ≡ word_count → record { default = l.default; words = words_at word_count l.words.now 0 } ≡ meant l
  unfolding meant spelt
  meant_value h = label_ext _ _ refl (ap (λ (n : ℕ). words_at n l.words.now 0) (sym (sym meant_length ∙ h)))

  -- by its default and its words,
  pub meant_is : (d : ℕ) (ws : List ℕ) → l.default ≡ d → spelt l.words.now ≡ ws → meant l ≡ record { default = d; words = ws }
  unfolding meant
  meant_is d ws ed ew = label_ext _ _ ed ew

  -- or by where these stand
  pub meant_held : (b : List ℕ) (d from : ℕ) → l.default ≡ d → spelt l.words.now ≡ words_in b from → meant l ≡ held_in b d from
  unfolding meant held_in
  meant_held b d from ed ew = label_ext _ _ ed ew

  -- Fewer bytes than a word has, behind the words, mean nothing: what is meant does not say how many bytes there are.
  pub meant_longer : (k : ℕ) (b : List ℕ) (d from : ℕ) → k < 8 → from + word_count * 8 + k ≤ length b → l.default ≡ d
      → l.words.now ≡ take (from + word_count * 8 + k - from) (drop from b) → meant l ≡ held_in b d from
  unfolding meant held_in words_in spelt
  meant_longer k b d from few h ed ew =
      let m = word_count * 8 + k in
      let part = take m (drop from b) in
      let n : from + word_count * 8 + k - from ≡ m = omega arith in
      let whole : l.words.now ≡ part = ew ∙ ap (λ (x : ℕ). take x (drop from b)) n in
      let long : length part ≡ m = length-take-le m (drop from b) (simp length-drop (omega arith)) in
      let many : length part / 8 ≡ word_count = omega arith in
      label_ext _ _ ed (rw (le-leb (from + word_count * 8) (length b) (omega arith))
      (ap (λ (x : List ℕ). words_at (length x / 8) x 0) whole ∙ ap (λ (x : ℕ). words_at x part 0) many
      ∙ words_at_part m b from word_count 0 (omega arith) ∙ ap (words_at word_count b) (add-zero from)))

-- the bytes of n words have no byte more than these
pub meant_exact : (d : ℕ) (w : Bor (List ℕ)) (n : ℕ) → length w.now ≡ n * 8 → length w.now ≡ length (meant (record { default = d; words = w })).words * 8
meant_exact d w n e = omega (arith, e, meant_length (record { default = d; words = w }))

-- ---- the label that is held, from its default and its words

-- wherever they lie within the bytes
pub held_inside : (b : List ℕ) (d p : ℕ) (l : Label) → p + word_count * 8 ≤ length b → d ≡ l.default → words_at word_count b p ≡ l.words → held_in b d p ≡ l
unfolding held_in words_in
held_inside b d p l h ed ew = label_ext _ _ ed (rw (le-leb (p + word_count * 8) (length b) h) ew)

-- in bytes of its own
pub held_own : (b : List ℕ) (d : ℕ) → length b ≡ label_size → d ≡ get_or b 0 0 → held_in b d 1 ≡ label_of b
unfolding label_of
held_own b d e f = held_inside b d 1 (label_of b) (omega arith) f refl
