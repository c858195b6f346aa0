use Rattle.std.proofs.Common.{ap, ◌∙◌, rules, tests}
use Rattle.arith.specs.Ranges.{every}
use Rattle.arith.proofs.Chains.{every_from_all}
use Rattle.mesh.specs.Meshes.{seen}
use Rattle.mesh.specs.Sound.{origin_fits}
use Rattle.mesh.proofs.views.RoomyMesh.origins_fit.Goals as goal

pub returns : goal.returns
returns c =
    let test = origin_fits (seen c.args.self.mesh) in
    every_from_all _ test c.used.result c.all.result c.all.ensures.ran (λ x b q k. search (rules, tests)) ∙ ap (every test) c.used.ensures
