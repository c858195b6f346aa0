-- What a mesh costs: a part for each face and a part for each interior edge.
use Rattle.std.specs.Prelude.{◌≡◌, ℕ, ◌+◌, ◌-◌, ◌*◌, ◌/◌, ◌^◌, ◌≤◌, min, Bool, cond, ◌&&◌, List, [], ◌∷◌, take, ℤ, pos, ◌+ℤ◌, ◌-ℤ◌, ◌*ℤ◌, nat_le, unsigned_abs}
use Rattle.arith.specs.Ranges.{sum, sum_over}
use Rattle.mesh.specs.declared.Point.{Point}
use Rattle.mesh.specs.declared.checked.CheckedVertex.{CheckedVertex}
use Rattle.mesh.specs.Geometry.{checked, point, orientation, owns}
use Rattle.mesh.specs.Meshes.{Mesh, next, previous, faces, start, twin_of, interior}
use Rattle.cost.specs.declared.misfit.Reading.{Reading}

-- a cost by its parts: of a face with corners a, b, c, and of an edge from a to b with third corners l left and r right of it
pub record Parts : Type 0 where
  pub face : CheckedVertex → CheckedVertex → CheckedVertex → ℕ
  pub edge : CheckedVertex → CheckedVertex → CheckedVertex → CheckedVertex → ℕ

-- a face may be named from any of its corners
pub record LawfulFace (K : Parts) : Type 0 where
  pub face_bounded : (a b c : CheckedVertex) → K.face a b c ≤ 2 ^ 48
  pub face_rotates : (a b c : CheckedVertex) → K.face b c a ≡ K.face a b c

-- an edge may be named in either direction
pub record LawfulEdge (K : Parts) : Type 0 where
  pub edge_bounded : (a b l r : CheckedVertex) → K.edge a b l r ≤ 2 ^ 48
  pub edge_reverses : (a b l r : CheckedVertex) → K.edge b a r l ≡ K.edge a b l r

pub record LawfulCost (K : Parts) : Type 0 where
  pub lawful_face : LawfulFace K
  pub lawful_edge : LawfulEdge K

-- ---- the cost of a mesh

-- the vertex where half-edge s starts, as a cost gets it
abbrev pub end : Mesh → ℕ → CheckedVertex
end m s = checked (start m s)

abbrev pub face_cost : Parts → Mesh → ℕ → ℕ
face_cost K m f = K.face (end m (3 * f)) (end m (3 * f + 1)) (end m (3 * f + 2))

abbrev pub edge_cost : Parts → Mesh → ℕ → ℕ
edge_cost K m s = K.edge (end m s) (end m (next s)) (end m (previous s)) (end m (previous (twin_of m s)))

unfoldable pub face_sum : Parts → Mesh → ℕ
face_sum K m = sum (face_cost K m) (faces m)

unfoldable pub edge_sum : Parts → Mesh → ℕ
edge_sum K m = sum_over (edge_cost K m) (interior m)

unfoldable pub total : Parts → Mesh → ℕ
total K m = face_sum K m + edge_sum K m

-- ---- fold

abbrev pub distance : ℕ → ℕ → ℤ
distance from to = pos to -ℤ pos from

-- where a vertex stands in the plan
abbrev pub plan_point : CheckedVertex → Point
plan_point v = point v.east v.north

-- twice the signed area of a, b, c in the plan
abbrev pub area : CheckedVertex → CheckedVertex → CheckedVertex → ℤ
area a b c =
    distance a.east b.east *ℤ distance a.north c.north
    -ℤ distance a.north b.north *ℤ distance a.east c.east

-- six times the signed volume of the tetrahedron a, b, l, r: 0 where the ground does not fold at the edge
abbrev pub volume : CheckedVertex → CheckedVertex → CheckedVertex → CheckedVertex → ℤ
volume a b l r =
    distance a.height b.height *ℤ area a l r
    -ℤ distance a.height l.height *ℤ area a b r
    +ℤ distance a.height r.height *ℤ area a b l

abbrev pub fold : Parts
fold = record { face = λ a b c. 0; edge = λ a b l r. unsigned_abs (volume a b l r) }

-- ---- length

abbrev pub square_gap : ℕ → ℕ → ℕ
square_gap x y = ((x - y) + (y - x)) * ((x - y) + (y - x))

-- the squared plan distance of an edge's ends
abbrev pub length : Parts
length = record {
  face = λ a b c. 0;
  edge = λ a b l r. square_gap a.east b.east + square_gap a.north b.north;
}

-- ---- misfit

-- where a reading stands
abbrev pub reading_point : Reading → Point
reading_point g = point g.east g.north

-- how much the corner opposite the side a → b weighs at w
unfoldable pub weight : CheckedVertex → CheckedVertex → Point → ℕ
weight a b w = unsigned_abs (orientation (plan_point a) (plan_point b) w)

-- the face a, b, c owns the point w
unfoldable pub face_owns : CheckedVertex → CheckedVertex → CheckedVertex → Point → Bool
face_owns a b c w = owns (plan_point a) (plan_point b) (plan_point c) w

-- the height of the face a, b, c at a point w that it owns (no orientation is then below 0), rounded down
unfoldable pub face_height : CheckedVertex → CheckedVertex → CheckedVertex → Point → ℕ
face_height a b c w =
    (a.height * weight b c w + b.height * weight c a w + c.height * weight a b w)
    / weight a b (plan_point c)

-- a reading counts for the face that owns it, unless its height is out of range
abbrev pub counts : CheckedVertex → CheckedVertex → CheckedVertex → Reading → Bool
counts a b c g = nat_le g.height 32767 && face_owns a b c (reading_point g)

-- what a reading adds to the face a, b, c
unfoldable pub misfit_at : CheckedVertex → CheckedVertex → CheckedVertex → Reading → ℕ
misfit_at a b c g = cond (counts a b c g) (square_gap g.height (face_height a b c (reading_point g))) 0

abbrev pub misfits : CheckedVertex → CheckedVertex → CheckedVertex → List Reading → ℕ
misfits a b c [] = 0
misfits a b c (g ∷ gs) = misfit_at a b c g + misfits a b c gs

-- how far the faces lie from the first 4,096 readings
abbrev pub misfit : List Reading → Parts
misfit readings = record { face = λ a b c. misfits a b c (take 4096 readings); edge = λ a b l r. 0 }

-- ---- costs made of costs

-- no part is above 2^48
abbrev pub capped : ℕ → ℕ
capped x = min x (2 ^ 48)

-- the sum of two costs
abbrev pub joint : Parts → Parts → Parts
joint K L = record {
  face = λ a b c. capped (K.face a b c + L.face a b c);
  edge = λ a b l r. capped (K.edge a b l r + L.edge a b l r);
}

-- a cost times a weight; one above 16 counts as 16
abbrev pub scaled : ℕ → Parts → Parts
scaled w K = record {
  face = λ a b c. capped (min w 16 * K.face a b c);
  edge = λ a b l r. capped (min w 16 * K.edge a b l r);
}
