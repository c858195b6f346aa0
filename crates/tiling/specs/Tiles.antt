-- Every sound mesh tiles its rectangle: each point off the south and east borders is owned by exactly one face.
use Rattle.std.specs.Prelude.{◌≡◌, ℕ, ◌<◌, ◌≤◌, true, cond, Some, None, Ok, Err, Option, Result}
use Rattle.mesh.specs.declared.Point.{Point}
use Rattle.mesh.specs.declared.Refusal.{Refusal}
use Rattle.mesh.specs.declared.Refusal.TheVariants.{Unsound, Unowned}
use Rattle.mesh.specs.Meshes.{Mesh, faces, face_owns, owner}
use Rattle.mesh.specs.Sound.{Sound, is_sound}

-- w is a point of the rectangle, and not on its south or its east border
pub record OnGround (m : Mesh) (w : Point) : Type 0 where
  pub west_of_border : w.east < m.header.width
  pub north_of_border : 0 < w.north
  pub not_beyond : w.north ≤ m.header.depth

-- face f of m owns w
abbrev pub Owns : Mesh → Point → ℕ → Type 0
Owns m w f = (f < faces m) × (face_owns m w f ≡ true)

-- one face owns w, and no other does
pub record OwnedOnce (m : Mesh) (w : Point) : Type 0 where
  pub face : ℕ
  pub owns : Owns m w face
  pub alone : (f : ℕ) → Owns m w f → f ≡ face

abbrev pub Tiles : Mesh → Type 0
Tiles m = (w : Point) → OnGround m w → OwnedOnce m w

abbrev pub EverySoundMeshTiles : Type 0
EverySoundMeshTiles = (m : Mesh) → Sound m → Tiles m

-- ---- the question

abbrev pub found : Option ℕ → Result ℕ Refusal
found (Some f) = Ok f
found None = Err Unowned

-- the face that owns w, or why there is none to name
unfoldable pub located : Mesh → Point → Result ℕ Refusal
located m w = cond (is_sound m) (found (owner m w)) (Err Unsound)
