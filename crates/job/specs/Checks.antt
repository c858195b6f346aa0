-- What the checks before a call have found.
use Rattle.std.specs.Prelude.{◌≡◌, ℕ, ◌+◌, ◌<◌, ◌≤◌, true, ◌≢◌, length, Some}
use Rattle.mesh.specs.declared.Vertex.{Vertex}
use Rattle.mesh.specs.Geometry.{place}
use Rattle.mesh.specs.Meshes.{Mesh, no_twin, used, faces, twin_of, owner}
use Rattle.mesh.specs.Sound.{Sound, strictly_inside}

-- the mesh is sound, has room, and face f owns the new vertex
pub record Addable (m : Mesh) (w : Vertex) (f : ℕ) : Type 0 where
  pub sound : Sound m
  pub inside : strictly_inside m.header (place w) ≡ true
  pub owned : owner m (place w) ≡ Some f
  pub within : f < faces m
  pub few : m.header.count < 1024
  pub vertices_fit : m.header.count < length m.vertices
  pub half_edges_fit : used m + 6 ≤ length m.half_edges

-- the mesh is sound, and s is a half-edge of an interior edge
pub record Editable (m : Mesh) (s : ℕ) : Type 0 where
  pub sound : Sound m
  pub within : s < used m
  pub twinned : twin_of m s ≢ no_twin
