-- Labels where they are held (W4): two labels in one run of bytes, each with its default before its words, as a host lends
-- them, and the labels that are held there. All is computed.
use Rattle.std.specs.Prelude.{true, false, ◌≡◌, refl, List, [], ◌++◌, ℕ}
use Rattle.labels.specs.declared.Label.{Label}
use Rattle.labels.specs.Le.{le_at, le_bytes}
use Rattle.labels.specs.Core.{level1, level3, level_at, every_named, holds_b, compare_b, flows, insert_w, words_at, words_bytes, label_bytes, label_of, spelt, words_in, held_in}
use Rattle.examples.specs.Paper.{one, pair_and1}

-- {1} and {5:3, 1}, of 65 bytes each
abbrev both : List ℕ
both = label_bytes one ++ label_bytes (pair_and1 5 level3)

-- the words of the first begin at byte 1, those of the second at byte 66
abbrev first : Label
first = held_in both level1 1

abbrev second : Label
second = held_in both level1 66

-- from byte 67 on there are 63 bytes, too few for eight words
abbrev beyond : Label
beyond = held_in both level1 67

pub record InPlace : Type 0 where
  -- each is its label
  pub first_means : first ≡ one
  pub second_means : second ≡ pair_and1 5 level3
  -- RULES 10.1: "P1 {1} flows to {5:3, 1}.", "P2 {5:3, 1} does not flow to {1}."
  pub P1 : flows first second ≡ true
  pub P2 : flows second first ≡ false
  -- in 65 bytes of its own a label begins at byte 1
  pub alone : held_in (label_bytes (pair_and1 5 level3)) level1 1 ≡ label_of (label_bytes (pair_and1 5 level3))
  -- one that would reach past the end is a label without words, and does not read what is not there
  pub past : beyond.words ≡ []
  -- bytes that are no whole word spell none
  pub part : spelt (le_bytes 7 44) ≡ []

pub in_place : InPlace
unfolding held_in words_in spelt label_of label_bytes words_at words_bytes le_at le_bytes insert_w level_at every_named holds_b compare_b
in_place =
    record { first_means = refl; second_means = refl; P1 = refl; P2 = refl; alone = refl; past = refl; part = refl }
