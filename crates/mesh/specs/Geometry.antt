-- Points of the plane, triangles, and which of two neighbours owns the points of a shared side.
use Rattle.std.specs.Prelude.{ℕ, ◌≤◌, min, Bool, false, ◌&&◌, ◌||◌, ℤ, pos, negsuc, ◌-ℤ◌, ◌*ℤ◌, ◌==◌, int_lt, nat_lt}
use Rattle.std.proofs.Math.Nat.{min-le_right}
use Rattle.mesh.specs.declared.Point.{Point}
use Rattle.mesh.specs.declared.Vertex.{Vertex}
use Rattle.mesh.specs.declared.checked.CheckedVertex.{CheckedVertex}

abbrev pub point : ℕ → ℕ → Point
point e n = record { east = e; north = n }

-- no coordinate is above 32,767
abbrev pub InPlan : Point → Type 0
InPlan a = (a.east ≤ 32767) × (a.north ≤ 32767)

-- twice the signed area of the triangle a, b, c: above 0 if they go round counterclockwise
unfoldable pub orientation : Point → Point → Point → ℤ
orientation a b c =
    (pos b.east -ℤ pos a.east) *ℤ (pos c.north -ℤ pos a.north)
    -ℤ (pos b.north -ℤ pos a.north) *ℤ (pos c.east -ℤ pos a.east)

abbrev pub positive : ℤ → Bool
positive z = int_lt (pos 0) z

abbrev pub is_zero : ℤ → Bool
is_zero (pos n) = n == 0
is_zero (negsuc n) = false

-- a side keeps the points on it if it runs south, or exactly west
abbrev pub keeps : Point → Point → Bool
keeps a b = nat_lt b.north a.north || (b.north == a.north && nat_lt b.east a.east)

-- w lies left of the side a → b, or on its line if the side keeps its points
abbrev pub admits : Point → Point → Point → Bool
admits a b w = positive (orientation a b w) || (is_zero (orientation a b w) && keeps a b)

-- the face a, b, c owns the point w: the half-open rule
abbrev pub owns : Point → Point → Point → Point → Bool
owns a b c w = positive (orientation a b c) && admits a b w && admits b c w && admits c a w

-- where a vertex stands
abbrev pub place : Vertex → Point
place v = record { east = v.east; north = v.north }

-- a vertex as a cost gets it; in a sound mesh no number is cut
abbrev pub checked : Vertex → CheckedVertex
checked v = record {
  east = min v.east 32767;
  north = min v.north 32767;
  height = min v.height 32767;
  easting = min-le_right v.east 32767;
  northing = min-le_right v.north 32767;
  low = min-le_right v.height 32767;
}
