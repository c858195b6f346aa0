-- A triangulated rectangle: face f has the half-edges 3f, 3f + 1 and 3f + 2, counterclockwise.
use Rattle.std.specs.Prelude.{◌≡◌, ℕ, ◌+◌, ◌-◌, ◌*◌, ◌%◌, Bool, cond, not, ◌&&◌, List, Some, None, Option, ◌==◌, nat_lt, slice_index_or}
use Rattle.arith.specs.Ranges.{select, first}
use Rattle.mesh.specs.declared.Header.{Header}
use Rattle.mesh.specs.declared.Point.{Point}
use Rattle.mesh.specs.declared.Vertex.{Vertex}
use Rattle.mesh.specs.declared.HalfEdge.{HalfEdge}
use Rattle.mesh.specs.declared.MeshRef.{MeshRef}
use Rattle.mesh.specs.declared.MeshMut.{MeshMut}
use Rattle.mesh.specs.Geometry.{owns, place}

-- the memory that a call is lent; entries past those in use may hold anything
pub record Mesh : Type 0 where
  pub header : Header
  pub vertices : List Vertex
  pub half_edges : List HalfEdge

abbrev pub mesh : Header → List Vertex → List HalfEdge → Mesh
mesh h vs hs = record { header = h; vertices = vs; half_edges = hs }

-- what a borrowed mesh holds
abbrev pub seen : MeshRef → Mesh
seen r = mesh r.header.now r.vertices.now r.half_edges.now

-- what a mesh that is lent to be written holds
abbrev pub lent : MeshMut → Mesh
lent r = mesh r.header.now r.vertices.now r.half_edges.now

-- the same three parts are lent
pub record SameLoan (old new : MeshMut) : Type 0 where
  pub header : new.header.ghost_name ≡ old.header.ghost_name
  pub vertices : new.vertices.ghost_name ≡ old.vertices.ghost_name
  pub half_edges : new.half_edges.ghost_name ≡ old.half_edges.ghost_name

-- the next half-edge of the same face
unfoldable pub next : ℕ → ℕ
next s = cond (s % 3 == 2) (s - 2) (s + 1)

-- the one before
unfoldable pub previous : ℕ → ℕ
previous s = cond (s % 3 == 0) (s + 2) (s - 1)

-- the twin of a half-edge that has none
abbrev pub no_twin : ℕ
no_twin = 65535

-- half-edges in use, and faces
abbrev pub used : Mesh → ℕ
used m = 6 * (m.header.count - 3)

abbrev pub faces : Mesh → ℕ
faces m = 2 * (m.header.count - 3)

-- what a read past the end of a list gives
abbrev pub no_half_edge : HalfEdge
no_half_edge = record { origin = 0; twin = 0; pin = 0 }

abbrev pub no_vertex : Vertex
no_vertex = record { east = 0; north = 0; height = 0 }

abbrev pub half_at : List HalfEdge → ℕ → HalfEdge
half_at hs s = slice_index_or hs s no_half_edge

abbrev pub half : Mesh → ℕ → HalfEdge
half m s = half_at m.half_edges s

abbrev pub vertex : Mesh → ℕ → Vertex
vertex m v = slice_index_or m.vertices v no_vertex

-- the vertex where half-edge s starts, and its point
abbrev pub start : Mesh → ℕ → Vertex
start m s = vertex m (half m s).origin

abbrev pub origin_point : Mesh → ℕ → Point
origin_point m s = place (start m s)

abbrev pub twin_of : Mesh → ℕ → ℕ
twin_of m s = (half m s).twin

abbrev pub has_twin : Mesh → ℕ → Bool
has_twin m s = not (twin_of m s == no_twin)

-- the half-edge that runs back, if there is one
abbrev pub twin_if_any : HalfEdge → Option ℕ
twin_if_any h = cond (h.twin == no_twin) None (Some h.twin)

-- an interior edge is a pair of twins, and goes by the lower number
abbrev pub is_edge_number : Mesh → ℕ → Bool
is_edge_number m s = has_twin m s && nat_lt s (twin_of m s)

-- the interior edges, rising
unfoldable pub interior : Mesh → List ℕ
interior m = select (is_edge_number m) (used m)

-- face f owns the point w
abbrev pub face_owns : Mesh → Point → ℕ → Bool
face_owns m w f = owns (origin_point m (3 * f)) (origin_point m (3 * f + 1)) (origin_point m (3 * f + 2)) w

-- the first face that owns w
unfoldable pub owner : Mesh → Point → Option ℕ
owner m w = first (face_owns m w) (faces m)
