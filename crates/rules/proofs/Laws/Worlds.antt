-- Worlds and objects are one where all that they hold is.
use Rattle.std.specs.Prelude.{ℕ, ◌≡◌}
use Rattle.rules.specs.Kernel.{Obj, World}

-- Two worlds are one where next number, root, every object and every pair's link are.
pub world_ext : (w x : World) → w.next ≡ x.next → w.root ≡ x.root → ((o : ℕ) → w.obj o ≡ x.obj o) → ((d o : ℕ) → w.linked d o ≡ x.linked d o) → w ≡ x
world_ext w x n r f l = λ i. record { next = n i; root = r i; obj = λ o. f o i; linked = λ d o. l d o i }

-- Two objects are one where all ten fields are.
pub obj_ext : (x y : Obj) → x.kind ≡ y.kind → x.label ≡ y.label → x.clearance ≡ y.clearance → x.quota ≡ y.quota → x.fixed ≡ y.fixed
    → x.mask ≡ y.mask → x.bytes ≡ y.bytes → x.entry ≡ y.entry → x.description ≡ y.description → x.closure ≡ y.closure → x ≡ y
obj_ext x y k l c q f m b e d s =
    λ i. record { kind = k i; label = l i; clearance = c i; quota = q i; fixed = f i; mask = m i; bytes = b i; entry = e i; description = d i; closure = s i }
