-- What flip, pin and unpin write, and when a flip is allowed.
use Rattle.std.specs.Prelude.{ℕ, min, Bool, ◌&&◌, List, ◌==◌, nat_lt, slice_set}
use Rattle.mesh.specs.declared.HalfEdge.{HalfEdge}
use Rattle.mesh.specs.Geometry.{orientation, positive}
use Rattle.mesh.specs.Meshes.{Mesh, mesh, next, previous, used, half_at, half, origin_point, twin_of, has_twin}
use Rattle.mesh.specs.Edits.{half_edge, moved}

-- ---- edges

-- s is a half-edge in use with a twin
abbrev pub is_interior : Mesh → ℕ → Bool
is_interior m s = nat_lt s (used m) && has_twin m s

-- an edge goes by the lower number of its two half-edges
abbrev pub edge_number : Mesh → ℕ → ℕ
edge_number m s = min s (twin_of m s)

-- an edge with this pin may be flipped
abbrev pub is_free : ℕ → Bool
is_free pin = pin == 0

-- with p → q the edge of s and t, r and u the third corners left and right of it: (u, q, r) and (r, p, u) go round counterclockwise
unfoldable pub convex : Mesh → ℕ → Bool
convex m s =
    let t = twin_of m s in
    let p = origin_point m s in
    let q = origin_point m (next s) in
    let r = origin_point m (previous s) in
    let u = origin_point m (previous t) in
    positive (orientation u q r) && positive (orientation r p u)

-- the edge of s may be flipped
abbrev pub is_flippable : Mesh → ℕ → Bool
is_flippable m s = is_interior m s && is_free (half m s).pin && convex m s

-- ---- flip

abbrev pub with_origin : List HalfEdge → ℕ → ℕ → List HalfEdge
with_origin hs s v = slice_set hs s (half_edge v (half_at hs s).twin (half_at hs s).pin)

-- s now runs from u to r and t back; of the four half-edges round them each moves on by one place, and its twin knows it
unfoldable pub turned : List HalfEdge → ℕ → ℕ → List HalfEdge
turned hs s t =
    let hs₁ = with_origin hs s (half_at hs (previous t)).origin in
    let hs₂ = with_origin hs₁ t (half_at hs (previous s)).origin in
    let hs₃ = moved hs₂ (half_at hs (previous s)) (next s) in
    let hs₄ = moved hs₃ (half_at hs (next t)) (previous s) in
    let hs₅ = moved hs₄ (half_at hs (previous t)) (next t) in
    moved hs₅ (half_at hs (next s)) (previous t)

abbrev pub with_half_edges : Mesh → List HalfEdge → Mesh
with_half_edges m hs = mesh m.header m.vertices hs

-- the mesh with the edge of s flipped
unfoldable pub flipped : Mesh → ℕ → Mesh
flipped m s = with_half_edges m (turned m.half_edges s (twin_of m s))

-- ---- pin

abbrev pub with_pin : ℕ → List HalfEdge → ℕ → List HalfEdge
with_pin p hs s = slice_set hs s (half_edge (half_at hs s).origin (half_at hs s).twin p)

-- p is the new pin of both half-edges of the edge of s
unfoldable pub pinned : ℕ → Mesh → ℕ → Mesh
pinned p m s = with_half_edges m (with_pin p (with_pin p m.half_edges s) (twin_of m s))
