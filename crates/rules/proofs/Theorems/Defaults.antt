-- RULES 3.7: ".. 0 stands for a default: 8 for a container, 5 for a segment." So 0 is one more way to write the default: what a create with it answers and changes is what
-- the create with the default itself does.
use Rattle.std.specs.Prelude.{ℕ, ◌≡◌, refl, List}
use Rattle.rules.specs.Kernel.{segment_default, container_default, World, create_container, create_segment, good_arguments, or_default, judge, tests, call}

-- In every world, for every caller and all other arguments: call 4 with quota 0 and with the container's default have the same verdict, that is answer, value and change,
pub container_of_zero : (w : World) (c d : ℕ) (l s : List ℕ) (m : ℕ) → call w c (create_container d l s m 0) ≡ call w c (create_container d l s m container_default)
unfolding call tests judge good_arguments or_default
container_of_zero w c d l s m = refl

-- and so have call 5 with quota 0 and with the segment's.
pub segment_of_zero : (w : World) (c d : ℕ) (l s : List ℕ) → call w c (create_segment d l s 0) ≡ call w c (create_segment d l s segment_default)
unfolding call tests judge good_arguments or_default
segment_of_zero w c d l s = refl
