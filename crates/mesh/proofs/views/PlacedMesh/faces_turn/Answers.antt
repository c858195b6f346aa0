use Rattle.std.proofs.Common.{ap, ◌∙◌, rules, tests}
use Rattle.arith.specs.Ranges.{every}
use Rattle.arith.proofs.Chains.{every_from_all}
use Rattle.mesh.specs.declared.MeshRef.{MeshRef}
use Rattle.mesh.specs.Meshes.{seen, faces}
use Rattle.mesh.specs.Sound.{face_turns}
use Rattle.mesh.proofs.views.PlacedMesh.faces_turn.Goals as goal

pub returns : goal.returns
returns c =
    let test = face_turns (seen c.args.self.mesh) in
    every_from_all _ test c.faces.result c.all.result c.all.ensures.ran (λ x b q k. search (rules, tests)) ∙ ap (every test) (c.faces.ensures ∙ ap (λ (m : MeshRef). faces (seen m)) c.roomy.ensures)
