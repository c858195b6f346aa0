use Rattle.std.proofs.Common.{ap, ◌∙◌, rules, tests}
use Rattle.arith.specs.Ranges.{first}
use Rattle.arith.proofs.Chains.{first_from_find}
use Rattle.mesh.specs.declared.MeshRef.{MeshRef}
use Rattle.mesh.specs.Meshes.{seen, faces, face_owns, owner}
use Rattle.mesh.proofs.views.PlacedMesh.owner.Goals as goal

pub returns : goal.returns
unfolding owner
returns c =
    let test = face_owns (seen c.args.self.mesh) c.args.w in
    first_from_find _ test c.faces.result c.find.result c.find.ensures.ran (λ x b q k. search (rules, tests)) ∙ ap (first test) (c.faces.ensures ∙ ap (λ (m : MeshRef). faces (seen m)) c.roomy.ensures)
