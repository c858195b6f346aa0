-- Laws of the costs: what joint, scaled and misfit costs come to over a whole mesh.
use Rattle.std.specs.Prelude.{◌≡◌, ℕ, ◌+◌, ◌*◌, ◌^◌, ◌<◌, ◌≤◌, true, ◌⊎◌, List, ◌∷◌, ◌++◌, length}
use Rattle.mesh.specs.declared.checked.CheckedVertex.{CheckedVertex}
use Rattle.mesh.specs.Meshes.{Mesh, faces, used, is_edge_number}
use Rattle.cost.specs.declared.misfit.Reading.{Reading}
use Rattle.cost.specs.Costs.{Parts, face_cost, edge_cost, total, misfit, joint, scaled}

-- no part of a face or an interior edge of m is above the cap
pub record Fits (m : Mesh) (face edge : ℕ → ℕ) : Type 0 where
  pub faces_fit : (f : ℕ) → f < faces m → face f ≤ 2 ^ 48
  pub edges_fit : (s : ℕ) → s < used m → is_edge_number m s ≡ true → edge s ≤ 2 ^ 48

-- where no part reaches the cap, the joint cost of a mesh is the sum of the two
abbrev pub JointAdds : Type 0
JointAdds =
    (K L : Parts) (m : Mesh) → Fits m (λ f. face_cost K m f + face_cost L m f) (λ s. edge_cost K m s + edge_cost L m s) →
    total (joint K L) m ≡ total K m + total L m

-- where no part reaches the cap, the scaled cost of a mesh is its multiple
abbrev pub ScaledMultiplies : Type 0
ScaledMultiplies =
    (w : ℕ) (K : Parts) (m : Mesh) → w ≤ 16 → Fits m (λ f. w * face_cost K m f) (λ s. w * edge_cost K m s) →
    total (scaled w K) m ≡ w * total K m

-- the misfit of two lists of readings, one after the other, is the sum of the two, while all of them are looked at
abbrev pub MisfitAdds : Type 0
MisfitAdds =
    (gs hs : List Reading) (m : Mesh) → length gs + length hs ≤ 4096 →
    total (misfit (gs ++ hs)) m ≡ total (misfit gs) m + total (misfit hs) m

-- the reading was taken at the vertex, and found its height
abbrev pub Confirms : Reading → CheckedVertex → Type 0
Confirms g v = (g.east ≡ v.east) × (g.north ≡ v.north) × (g.height ≡ v.height)

-- a reading that confirms a corner adds nothing to the face, wherever it stands among the readings
abbrev pub CornerAddsNothing : Type 0
CornerAddsNothing =
    (a b c : CheckedVertex) (g : Reading) (gs hs : List Reading) → length gs + length hs < 4096 →
    Confirms g a ⊎ (Confirms g b ⊎ Confirms g c) →
    (misfit (gs ++ (g ∷ hs))).face a b c ≡ (misfit (gs ++ hs)).face a b c

pub record CostLaws : Type 0 where
  pub joint_adds : JointAdds
  pub scaled_multiplies : ScaledMultiplies
  pub misfit_adds : MisfitAdds
  pub corner_adds_nothing : CornerAddsNothing
