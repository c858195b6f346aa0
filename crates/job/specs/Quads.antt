-- What a flip can change of a mesh's cost: the two faces and the five edges of its quadrilateral.
use Rattle.std.specs.Prelude.{◌≡◌, ℕ, ◌+◌, true, cond}
use Rattle.mesh.specs.Meshes.{Mesh, next, previous, twin_of, has_twin}
use Rattle.mesh.specs.Sound.{Sound}
use Rattle.editing.specs.Flips.{is_flippable, flipped}
use Rattle.cost.specs.Costs.{Parts, LawfulCost, end, edge_cost, total}

-- the face of half-edge s
abbrev pub face_at : Parts → Mesh → ℕ → ℕ
face_at K m s = K.face (end m s) (end m (next s)) (end m (previous s))

-- the edge of half-edge s; one without a twin is no interior edge
abbrev pub side_at : Parts → Mesh → ℕ → ℕ
side_at K m s = cond (has_twin m s) (edge_cost K m s) 0

-- the two faces at the edge of s, the edge, and the four round them
unfoldable pub quad_cost : Parts → Mesh → ℕ → ℕ
quad_cost K m s =
    let t = twin_of m s in
    face_at K m s + face_at K m t
    + (side_at K m s + side_at K m (next s) + side_at K m (previous s) + side_at K m (next t) + side_at K m (previous t))

-- a flip changes the cost of the mesh by as much as that of its quadrilateral
abbrev pub FlipIsLocal : Type 0
FlipIsLocal =
    (K : Parts) → LawfulCost K → (m : Mesh) (s : ℕ) → Sound m → is_flippable m s ≡ true →
    total K (flipped m s) + quad_cost K m s ≡ total K m + quad_cost K (flipped m s) s

-- two flips of one edge leave the cost as it was
abbrev pub TwoFlipsCost : Type 0
TwoFlipsCost =
    (K : Parts) → LawfulCost K → (m : Mesh) (s : ℕ) → Sound m → is_flippable m s ≡ true →
    total K (flipped (flipped m s) s) ≡ total K m

pub record FlipCostLaws : Type 0 where
  pub flip_is_local : FlipIsLocal
  pub two_flips_cost : TwoFlipsCost
