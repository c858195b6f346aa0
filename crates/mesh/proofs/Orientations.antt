-- Laws of the orientation: it may be read from any corner, and changes its sign with the direction.
use Rattle.std.proofs.Common.{◌≡◌, ℕ, ◌+◌, ◌*◌, List, [], ◌∷◌, ℤ, pos}
use Rattle.arith.proofs.Ring.{Ex, var, con, ◌⊖◌, ◌⊗◌, ring}
use Rattle.mesh.specs.declared.Point.{Point}
use Rattle.mesh.specs.Geometry.{orientation}

-- the same over expressions, for `ring`: point i has the variables 2 * i and 2 * i + 1
abbrev pub coordinates : List Point → List ℤ
coordinates [] = []
coordinates (a ∷ l) = pos a.east ∷ pos a.north ∷ coordinates l

abbrev pub e : ℕ → Ex
e i = var (2 * i)

abbrev pub n : ℕ → Ex
n i = var (2 * i + 1)

abbrev pub o : ℕ → ℕ → ℕ → Ex
o a b c = (e b ⊖ e a) ⊗ (n c ⊖ n a) ⊖ (n b ⊖ n a) ⊗ (e c ⊖ e a)

pub orientation_rotates : (a b c : Point) → orientation b c a ≡ orientation a b c
unfolding orientation
orientation_rotates a b c = ring (coordinates (a ∷ b ∷ c ∷ [])) (o 1 2 0) (o 0 1 2) tt

-- a point twice makes no triangle
pub flat : (a c : Point) → orientation a a c ≡ pos 0
unfolding orientation
flat a c = ring (coordinates (a ∷ c ∷ [])) (o 0 0 1) (con (pos 0)) tt
