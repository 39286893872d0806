-- The bytes of a segment, place by place, after a write and after a resize.
use Rattle.std.specs.Prelude.{ℕ, ◌+◌, ◌-◌, ◌≤◌, Bool, ◌&&◌, ◌≡◌, List, ◌++◌, take, replicate}
use Rattle.std.proofs.Common.{arith, sym, ◌∙◌, length-append, length-take, length-drop, get_or-append-add}
use Rattle.std.proofs.Math.Bool.{true, false, cond}
use Rattle.std.proofs.Math.Path.{refl, ap}
use Rattle.std.proofs.Math.ListN.{length, get_or, drop, get_or-append, get_or-eq_default}
use Rattle.std.proofs.lemmas.List.{length-replicate, get_or-replicate}
use Rattle.std.proofs.Math.Seq.{get_or-take, get_or-drop}
use Rattle.std.proofs.Math.Dec.{leb, ltb}
use borrow.Author.Tests.{leb-true, leb-false, ltb-true, ltb-false}
use Rattle.rules.specs.Kernel.{overwrite, resized}

-- behind the first of two lists
pub get_d_behind : (xs ys : List ℕ) (i : ℕ) → length xs ≤ i → get_or (xs ++ ys) i 0 ≡ get_or ys (i - length xs) 0
get_d_behind xs ys i h =
    let e : i ≡ length xs + (i - length xs) = omega arith in
    ap (λ (j : ℕ). get_or (xs ++ ys) j 0) e ∙ get_or-append-add xs ys (i - length xs) 0

-- beyond the end, and among zeros
pub get_d_zeros : (n i : ℕ) → ◌≡◌ {A = ℕ} (get_or (replicate n 0) i 0) 0
get_d_zeros n i = go (ltb i n) refl
  where
    go : (t : Bool) → ltb i n ≡ t → ◌≡◌ {A = ℕ} (get_or (replicate n 0) i 0) 0
    go true e = get_or-replicate n i 0 0 (ltb-true i n e)
    go false e = get_or-eq_default (replicate n 0) 0 (let l = ltb-false i n e in let r = length-replicate {A = ℕ} n 0 in omega arith)

module _ (from : ℕ) (b bytes : List ℕ) (fits : from + length b ≤ length bytes) where
  head_length : length (take from bytes) ≡ from
  head_length = simp length-take (omega arith)

  pub overwrite_at : (i : ℕ) → get_or (overwrite from b bytes) i 0 ≡ cond (leb from i && ltb i (from + length b)) (get_or b (i - from) 0) (get_or bytes i 0)
  unfolding overwrite
  overwrite_at i = go (leb from i) refl (ltb i (from + length b)) refl
    where
      go : (s : Bool) → leb from i ≡ s → (t : Bool) → ltb i (from + length b) ≡ t
          → get_or (take from bytes ++ (b ++ drop (from + length b) bytes)) i 0 ≡ cond (s && t) (get_or b (i - from) 0) (get_or bytes i 0)
      go false e t f =
          let l = leb-false from i e in
          get_or-append (take from bytes) (b ++ drop (from + length b) bytes) 0 i (omega (arith, head_length)) ∙ get_or-take from bytes i 0 l
      go true e true f =
          let l = leb-true from i e in
          let r = ltb-true i (from + length b) f in
          get_d_behind (take from bytes) (b ++ drop (from + length b) bytes) i (omega (arith, head_length))
          ∙ get_or-append b (drop (from + length b) bytes) 0 (i - length (take from bytes)) (omega (arith, head_length))
          ∙ ap (λ (n : ℕ). get_or b (i - n) 0) head_length
      go true e false f =
          let r = ltb-false i (from + length b) f in
          get_d_behind (take from bytes) (b ++ drop (from + length b) bytes) i (omega (arith, head_length))
          ∙ get_d_behind b (drop (from + length b) bytes) (i - length (take from bytes)) (omega (arith, head_length))
          ∙ get_or-drop (from + length b) bytes (i - length (take from bytes) - length b) 0
          ∙ ap (λ (n : ℕ). get_or bytes n 0) (omega (arith, head_length))

  pub overwrite_length : length (overwrite from b bytes) ≡ length bytes
  unfolding overwrite
  overwrite_length = simp (length-append, length-drop) (omega (arith, head_length))

pub resized_at : (n : ℕ) (bytes : List ℕ) (i : ℕ) → get_or (resized n bytes) i 0 ≡ cond (leb n i) 0 (get_or bytes i 0)
unfolding resized
resized_at n bytes i = go (leb n i) refl (ltb i (length bytes)) refl
  where
    go : (s : Bool) → leb n i ≡ s → (t : Bool) → ltb i (length bytes) ≡ t → get_or (take n bytes ++ replicate (n - length bytes) 0) i 0 ≡ cond s 0 (get_or bytes i 0)
    go true e t f =
        let l = leb-true n i e in
        get_or-eq_default (take n bytes ++ replicate (n - length bytes) 0) 0
        (let a = length-append (take n bytes) (replicate (n - length bytes) 0) in
        let b = length-take n bytes in
        let c = length-replicate {A = ℕ} (n - length bytes) 0 in omega arith)
    go false e true f =
        let l = leb-false n i e in
        let r = ltb-true i (length bytes) f in
        get_or-append (take n bytes) (replicate (n - length bytes) 0) 0 i (let b = length-take n bytes in omega arith) ∙ get_or-take n bytes i 0 l
    go false e false f =
        let r = ltb-false i (length bytes) f in
        get_d_behind (take n bytes) (replicate (n - length bytes) 0) i (let b = length-take n bytes in omega arith)
        ∙ get_d_zeros (n - length bytes) (i - length (take n bytes))
        ∙ sym (get_or-eq_default bytes 0 r)
