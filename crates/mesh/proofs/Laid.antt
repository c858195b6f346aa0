-- The rectangle just laid holds no index outside its lists.
use Rattle.std.proofs.Common.{ℕ, zero, suc, ◌<◌, ◌≤◌, ◌≢◌, List, [], ◌∷◌, length, refl, arith, lit<}
use Rattle.std.proofs.lemmas.List.{length-set}
use Rattle.mesh.specs.declared.HalfEdge.{HalfEdge}
use Rattle.mesh.specs.declared.Plan.{Plan}
use Rattle.mesh.specs.Meshes.{Mesh, half_at, no_twin}
use Rattle.mesh.specs.Sound.{Indexed}
use Rattle.mesh.specs.Edits.{two_faces, laid}

-- what stands at each of the six half-edges
record Within (h : HalfEdge) : Type 0 where
  origin : h.origin < 4
  twin : h.twin ≢ no_twin → h.twin < 6

at_six : (a b c d e f : HalfEdge) (rest : List HalfEdge) (s : ℕ) → s < 6 → Within (half_at (two_faces (a ∷ b ∷ c ∷ d ∷ e ∷ f ∷ rest)) s)
at_six a b c d e f rest zero h = record { origin = lit< tt; twin = λ ne. absurd (ne refl) }
at_six a b c d e f rest (suc zero) h = record { origin = lit< tt; twin = λ ne. absurd (ne refl) }
at_six a b c d e f rest (suc (suc zero)) h = record { origin = lit< tt; twin = λ ne. lit< tt }
at_six a b c d e f rest (suc (suc (suc zero))) h = record { origin = lit< tt; twin = λ ne. lit< tt }
at_six a b c d e f rest (suc (suc (suc (suc zero)))) h = record { origin = lit< tt; twin = λ ne. absurd (ne refl) }
at_six a b c d e f rest (suc (suc (suc (suc (suc zero))))) h = record { origin = lit< tt; twin = λ ne. absurd (ne refl) }
at_six a b c d e f rest (suc (suc (suc (suc (suc (suc s)))))) h = absurd (omega arith)

within : (hs : List HalfEdge) → 6 ≤ length hs → (s : ℕ) → s < 6 → Within (half_at (two_faces hs) s)
within [] l s h = absurd (omega arith)
within (a ∷ []) l s h = absurd (omega arith)
within (a ∷ b ∷ []) l s h = absurd (omega arith)
within (a ∷ b ∷ c ∷ []) l s h = absurd (omega arith)
within (a ∷ b ∷ c ∷ d ∷ []) l s h = absurd (omega arith)
within (a ∷ b ∷ c ∷ d ∷ e ∷ []) l s h = absurd (omega arith)
within (a ∷ b ∷ c ∷ d ∷ e ∷ f ∷ rest) l s h = at_six a b c d e f rest s h

pub laid_indexed : (m : Mesh) (p : Plan) → 4 ≤ length m.vertices → 6 ≤ length m.half_edges → Indexed (laid m p)
unfolding laid
laid_indexed m p v h = record {
  roomy = record {
    some = omega arith;
    few = omega arith;
    vertices_fit = simp length-set (omega arith);
    half_edges_fit = simp length-set (omega arith);
  };
  origins = λ s l. (within m.half_edges h s l).origin;
  twins = λ s l ne. (within m.half_edges h s l).twin ne;
}
