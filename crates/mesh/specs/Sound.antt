-- When a header, its vertices and its half-edges are a mesh of the rectangle.
use Rattle.std.specs.Prelude.{◌≡◌, ℕ, ◌+◌, ◌-◌, ◌*◌, ◌<◌, ◌≤◌, Bool, not, ◌&&◌, ◌||◌, T, ◌≢◌, ◌↔◌, length, pos, ◌<ℤ◌, is_some, ◌==◌, nat_le, nat_lt}
use Rattle.std.specs.Bool.{beq}
use Rattle.arith.specs.Ranges.{every, tally, first}
use Rattle.mesh.specs.declared.Header.{Header}
use Rattle.mesh.specs.declared.Point.{Point}
use Rattle.mesh.specs.Geometry.{InPlan, orientation, positive, place}
use Rattle.mesh.specs.Meshes.{Mesh, next, no_twin, used, faces, half, vertex, origin_point, twin_of, has_twin}

-- ---- the facts

-- both points lie on one border of the rectangle
abbrev pub on_border : Header → Point → Point → Bool
on_border h a b =
    (a.east == 0 && b.east == 0)
    || (a.east == h.width && b.east == h.width)
    || (a.north == 0 && b.north == 0)
    || (a.north == h.depth && b.north == h.depth)

-- half-edge s runs along a border
abbrev pub along_border : Mesh → ℕ → Bool
along_border m s = on_border m.header (origin_point m s) (origin_point m (next s))

-- vertex v stands at east e, north n
abbrev pub Stands : Mesh → ℕ → ℕ → ℕ → Type 0
Stands m v e n = ((vertex m v).east ≡ e) × ((vertex m v).north ≡ n)

abbrev pub EachHalfEdge : Mesh → (ℕ → Type 0) → Type 0
EachHalfEdge m P = (s : ℕ) → s < used m → P s

abbrev pub EachTwin : Mesh → (ℕ → ℕ → Type 0) → Type 0
EachTwin m P = (s : ℕ) → s < used m → twin_of m s ≢ no_twin → P s (twin_of m s)

pub record Sound (m : Mesh) : Type 0 where
  -- the header is in range, and the lists are long enough
  pub width : (2 ≤ m.header.width) × (m.header.width ≤ 32767)
  pub depth : (2 ≤ m.header.depth) × (m.header.depth ≤ 32767)
  pub count : (4 ≤ m.header.count) × (m.header.count ≤ 1024)
  pub vertices_fit : m.header.count ≤ length m.vertices
  pub half_edges_fit : used m ≤ length m.half_edges
  -- vertices 0 to 3 are the corners, the others lie strictly inside, and no height is above 32,767
  pub southwest : Stands m 0 0 0
  pub southeast : Stands m 1 m.header.width 0
  pub northeast : Stands m 2 m.header.width m.header.depth
  pub northwest : Stands m 3 0 m.header.depth
  pub inside :
      (v : ℕ) → 4 ≤ v → v < m.header.count →
      (0 < (vertex m v).east) × ((vertex m v).east < m.header.width)
      × (0 < (vertex m v).north) × ((vertex m v).north < m.header.depth)
  pub heights : (v : ℕ) → v < m.header.count → (vertex m v).height ≤ 32767
  -- half-edges are in range
  pub origins : EachHalfEdge m (λ s. (half m s).origin < m.header.count)
  pub twins : EachTwin m (λ s t. t < used m)
  pub pins : EachHalfEdge m (λ s. (half m s).pin ≤ 1)
  -- every face goes round counterclockwise
  pub faces_turn :
      (f : ℕ) → f < faces m →
      pos 0 <ℤ orientation (origin_point m (3 * f)) (origin_point m (3 * f + 1)) (origin_point m (3 * f + 2))
  -- the twin of the twin is the half-edge itself, the two run opposite ways, their pins agree
  pub paired : EachTwin m (λ s t. twin_of m t ≡ s)
  pub opposite : EachTwin m (λ s t. ((half m t).origin ≡ (half m (next s)).origin) × ((half m (next t)).origin ≡ (half m s).origin))
  pub pins_agree : EachTwin m (λ s t. (half m t).pin ≡ (half m s).pin)
  -- a half-edge has no twin exactly along a border, is then unpinned, and there are four such
  pub border : EachHalfEdge m (λ s. (twin_of m s ≡ no_twin) ↔ T (along_border m s))
  pub border_unpinned : EachHalfEdge m (λ s. twin_of m s ≡ no_twin → (half m s).pin ≡ 0)
  pub four : tally (λ s. not (has_twin m s)) (used m) ≡ 4

-- what a reader of the lists needs to know of their lengths
pub record Roomy (m : Mesh) : Type 0 where
  pub some : 4 ≤ m.header.count
  pub few : m.header.count ≤ 1024
  pub vertices_fit : m.header.count ≤ length m.vertices
  pub half_edges_fit : used m ≤ length m.half_edges

-- each half-edge in use starts from a vertex in use, whose coordinates are in range
pub record Placed (m : Mesh) : Type 0 where
  pub roomy : Roomy m
  pub origins : EachHalfEdge m (λ s. (half m s).origin < m.header.count)
  pub in_plan : (v : ℕ) → v < m.header.count → InPlan (place (vertex m v))

-- every index that the half-edges in use hold lies within the lists
pub record Indexed (m : Mesh) : Type 0 where
  pub roomy : Roomy m
  pub origins : EachHalfEdge m (λ s. (half m s).origin < m.header.count)
  pub twins : EachTwin m (λ s t. t < used m)

-- ---- the test

-- strictly inside the rectangle
abbrev pub strictly_inside : Header → Point → Bool
strictly_inside h w = nat_lt 0 w.east && nat_lt w.east h.width && nat_lt 0 w.north && nat_lt w.north h.depth

-- width and depth are 2 to 32,767
abbrev pub extent_fits : ℕ → ℕ → Bool
extent_fits w d = nat_le 2 w && nat_le w 32767 && nat_le 2 d && nat_le d 32767

-- 4 to 1,024 vertices, and lists of these lengths are long enough
abbrev pub lists_fit : Header → ℕ → ℕ → Bool
lists_fit h vertices half_edges =
    nat_le 4 h.count && nat_le h.count 1024 && nat_le h.count vertices && nat_le (6 * (h.count - 3)) half_edges

-- vertex v stands at w
abbrev pub stands_at : Mesh → Point → ℕ → Bool
stands_at m w v = (vertex m v).east == w.east && (vertex m v).north == w.north

-- a vertex in use stands at w
unfoldable pub is_occupied : Mesh → Point → Bool
is_occupied m w = is_some (first (stands_at m w) m.header.count)

abbrev pub corners_stand : Mesh → Bool
corners_stand m =
    stands_at m (record { east = 0; north = 0 }) 0
    && stands_at m (record { east = m.header.width; north = 0 }) 1
    && stands_at m (record { east = m.header.width; north = m.header.depth }) 2
    && stands_at m (record { east = 0; north = m.header.depth }) 3

abbrev pub vertex_fits : Mesh → ℕ → Bool
vertex_fits m v = nat_le (vertex m v).height 32767 && (nat_lt v 4 || strictly_inside m.header (place (vertex m v)))

abbrev pub origin_fits : Mesh → ℕ → Bool
origin_fits m s = nat_lt (half m s).origin m.header.count

abbrev pub pin_fits : Mesh → ℕ → Bool
pin_fits m s = nat_le (half m s).pin 1 && (has_twin m s || (half m s).pin == 0)

abbrev pub border_agrees : Mesh → ℕ → Bool
border_agrees m s = beq (has_twin m s) (not (along_border m s))

abbrev pub twins_agree : Mesh → ℕ → ℕ → Bool
twins_agree m s t =
    (twin_of m t == s)
    && (half m t).origin == (half m (next s)).origin && (half m (next t)).origin == (half m s).origin
    && (half m t).pin == (half m s).pin

abbrev pub twin_fits : Mesh → ℕ → Bool
twin_fits m s = not (has_twin m s) || (nat_lt (twin_of m s) (used m) && twins_agree m s (twin_of m s))

abbrev pub face_turns : Mesh → ℕ → Bool
face_turns m f = positive (orientation (origin_point m (3 * f)) (origin_point m (3 * f + 1)) (origin_point m (3 * f + 2)))

-- header, lists and vertices are in order, and each half-edge starts from a vertex
abbrev pub is_placed : Mesh → Bool
is_placed m =
    extent_fits m.header.width m.header.depth
    && lists_fit m.header (length m.vertices) (length m.half_edges)
    && corners_stand m
    && every (vertex_fits m) m.header.count
    && every (origin_fits m) (used m)

-- the faces turn, and fit together along their half-edges
abbrev pub is_joined : Mesh → Bool
is_joined m =
    every (pin_fits m) (used m)
    && every (border_agrees m) (used m)
    && every (twin_fits m) (used m)
    && every (face_turns m) (faces m)
    && tally (λ s. not (has_twin m s)) (used m) == 4

unfoldable pub is_sound : Mesh → Bool
is_sound m = is_placed m && is_joined m
