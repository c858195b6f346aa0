use Rattle.std.proofs.Common.{ap, ◌∙◌, rules, tests}
use Rattle.arith.specs.Ranges.{every}
use Rattle.arith.proofs.Chains.{every_from_all}
use Rattle.mesh.specs.declared.MeshRef.{MeshRef}
use Rattle.mesh.specs.Meshes.{seen, used}
use Rattle.mesh.specs.Sound.{border_agrees}
use Rattle.mesh.proofs.views.PlacedMesh.borders_agree.Goals as goal

pub returns : goal.returns
returns c =
    let test = border_agrees (seen c.args.self.mesh) in
    every_from_all _ test c.used.result c.all.result c.all.ensures.ran (λ x b q k. search (rules, tests)) ∙ ap (every test) (c.used.ensures ∙ ap (λ (m : MeshRef). used (seen m)) c.roomy.ensures)
