-- What lay and add write. No entry past those in use changes.
use Rattle.std.specs.Prelude.{ℕ, ◌+◌, ◌*◌, Bool, cond, List, Some, None, Option, ◌==◌, slice_set}
use Rattle.mesh.specs.declared.Point.{Point}
use Rattle.mesh.specs.declared.Vertex.{Vertex}
use Rattle.mesh.specs.declared.HalfEdge.{HalfEdge}
use Rattle.mesh.specs.declared.Plan.{Plan}
use Rattle.mesh.specs.Geometry.{orientation, is_zero, place}
use Rattle.mesh.specs.Meshes.{Mesh, mesh, next, previous, no_twin, used, half_at, origin_point, owner}

-- ---- one entry

abbrev pub half_edge : ℕ → ℕ → ℕ → HalfEdge
half_edge v t p = record { origin = v; twin = t; pin = p }

-- half-edge t gets the twin `to`; nothing is written where there is no twin
abbrev pub linked : List HalfEdge → ℕ → ℕ → List HalfEdge
linked hs t to = cond (t == no_twin) hs (slice_set hs t (half_edge (half_at hs t).origin to (half_at hs t).pin))

-- h stands at `to`, and its twin knows it
unfoldable pub moved : List HalfEdge → HalfEdge → ℕ → List HalfEdge
moved hs h to = linked (slice_set hs to h) h.twin to

-- ---- lay

-- the four corners
abbrev pub corners : List Vertex → Plan → List Vertex
corners vs p =
    slice_set (slice_set (slice_set (slice_set vs
    0 (record { east = 0; north = 0; height = p.sw }))
    1 (record { east = p.width; north = 0; height = p.se }))
    2 (record { east = p.width; north = p.depth; height = p.ne }))
    3 (record { east = 0; north = p.depth; height = p.nw })

-- the faces (0, 1, 2) and (0, 2, 3)
abbrev pub two_faces : List HalfEdge → List HalfEdge
two_faces hs =
    slice_set (slice_set (slice_set (slice_set (slice_set (slice_set hs
    0 (half_edge 0 no_twin 0)) 1 (half_edge 1 no_twin 0)) 2 (half_edge 2 3 0))
    3 (half_edge 0 2 0)) 4 (half_edge 2 no_twin 0)) 5 (half_edge 3 no_twin 0)

-- the rectangle with its four corners, cut along the diagonal from corner 2 to corner 0
unfoldable pub laid : Mesh → Plan → Mesh
laid m p = mesh (record { width = p.width; depth = p.depth; count = 4 }) (corners m.vertices p) (two_faces m.half_edges)

-- ---- add

-- the face (a, b, c) of half-edges s, s + 1, s + 2 becomes (a, b, w); (b, c, w) and (c, a, w) follow at n
unfoldable pub split_face : List HalfEdge → ℕ → ℕ → ℕ → List HalfEdge
split_face hs s n w =
    let b = s + 1 in
    let c = s + 2 in
    let hs₁ = moved hs (half_at hs b) n in
    let hs₂ = moved hs₁ (half_at hs c) (n + 3) in
    let hs₃ = slice_set hs₂ b (half_edge (half_at hs b).origin (n + 2) 0) in
    let hs₄ = slice_set hs₃ c (half_edge w (n + 4) 0) in
    let hs₅ = slice_set hs₄ (n + 1) (half_edge (half_at hs c).origin (n + 5) 0) in
    let hs₆ = slice_set hs₅ (n + 2) (half_edge w b 0) in
    let hs₇ = slice_set hs₆ (n + 4) (half_edge (half_at hs s).origin c 0) in
    slice_set hs₇ (n + 5) (half_edge w (n + 1) 0)

-- w on the edge p → q: s and t become p → w and q → w, the next ones w → r and w → u; (w, q, r) and (w, p, u) follow at n;
-- the four halves of the edge have its pin
unfoldable pub split_edge : List HalfEdge → ℕ → ℕ → ℕ → List HalfEdge
split_edge hs s n w =
    let t = (half_at hs s).twin in
    let pin = (half_at hs s).pin in
    let hs₁ = moved hs (half_at hs (next s)) (n + 1) in
    let hs₂ = moved hs₁ (half_at hs (next t)) (n + 4) in
    let hs₃ = slice_set hs₂ s (half_edge (half_at hs s).origin (n + 3) pin) in
    let hs₄ = slice_set hs₃ t (half_edge (half_at hs t).origin n pin) in
    let hs₅ = slice_set hs₄ (next s) (half_edge w (n + 2) 0) in
    let hs₆ = slice_set hs₅ (next t) (half_edge w (n + 5) 0) in
    let hs₇ = slice_set hs₆ n (half_edge w t pin) in
    let hs₈ = slice_set hs₇ (n + 2) (half_edge (half_at hs (previous s)).origin (next s) 0) in
    let hs₉ = slice_set hs₈ (n + 3) (half_edge w s pin) in
    slice_set hs₉ (n + 5) (half_edge (half_at hs (previous t)).origin (next t) 0)

-- w lies on the line of half-edge s
abbrev pub on_line : Mesh → Point → ℕ → Bool
on_line m w s = is_zero (orientation (origin_point m s) (origin_point m (next s)) w)

-- the half-edge of face f on whose line w lies, if there is one
unfoldable pub crossed : Mesh → Point → ℕ → Option ℕ
crossed m w f =
    cond (on_line m w (3 * f)) (Some (3 * f))
    (cond (on_line m w (3 * f + 1)) (Some (3 * f + 1))
    (cond (on_line m w (3 * f + 2)) (Some (3 * f + 2)) None))

-- the new vertex v in face f cuts the half-edge it lies on, or else the face
abbrev pub split_at : List HalfEdge → ℕ → Option ℕ → ℕ → ℕ → List HalfEdge
split_at hs f (Some s) n v = split_edge hs s n v
split_at hs f None n v = split_face hs (3 * f) n v

abbrev pub with_vertex : Mesh → Vertex → List HalfEdge → Mesh
with_vertex m w hs =
    mesh (record { width = m.header.width; depth = m.header.depth; count = m.header.count + 1 }) (slice_set m.vertices m.header.count w) hs

-- the mesh with one more vertex w in face f
abbrev pub added_in : Mesh → Vertex → Option ℕ → Mesh
added_in m w None = m
added_in m w (Some f) = with_vertex m w (split_at m.half_edges f (crossed m (place w) f) (used m) m.header.count)

-- the mesh with one more vertex w, in the face that owns it
unfoldable pub added : Mesh → Vertex → Mesh
added m w = added_in m w (owner m (place w))
