-- The laws of lay and add: what they write is a mesh of the rectangle.
use Rattle.std.specs.Prelude.{◌≡◌, ℕ, ◌+◌, ◌<◌, ◌≤◌, true, false, length, Some}
use Rattle.mesh.specs.declared.Vertex.{Vertex}
use Rattle.mesh.specs.declared.Plan.{Plan}
use Rattle.mesh.specs.Geometry.{place}
use Rattle.mesh.specs.Meshes.{Mesh, used, owner}
use Rattle.mesh.specs.Sound.{Sound, extent_fits, strictly_inside, is_occupied}
use Rattle.mesh.specs.Edits.{laid, added}

-- a rectangle whose width, depth and heights are in range is sound, in lists that are long enough
abbrev pub LayMakesSound : Type 0
LayMakesSound =
    (m : Mesh) (p : Plan) → extent_fits p.width p.depth ≡ true →
    p.sw ≤ 32767 → p.se ≤ 32767 → p.ne ≤ 32767 → p.nw ≤ 32767 →
    4 ≤ length m.vertices → 6 ≤ length m.half_edges → Sound (laid m p)

-- a vertex strictly inside, where none stands, keeps a sound mesh sound, while there is room for it
abbrev pub AddKeepsSound : Type 0
AddKeepsSound =
    (m : Mesh) (w : Vertex) (f : ℕ) → Sound m → w.height ≤ 32767 →
    strictly_inside m.header (place w) ≡ true → is_occupied m (place w) ≡ false →
    m.header.count < 1024 → m.header.count < length m.vertices → used m + 6 ≤ length m.half_edges →
    owner m (place w) ≡ Some f → Sound (added m w)
