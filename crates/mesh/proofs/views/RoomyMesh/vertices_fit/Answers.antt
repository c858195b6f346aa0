use Rattle.std.proofs.Common.{rules, tests}
use Rattle.arith.proofs.Chains.{every_from_all}
use Rattle.mesh.specs.Meshes.{seen}
use Rattle.mesh.specs.Sound.{vertex_fits}
use Rattle.mesh.proofs.views.RoomyMesh.vertices_fit.Goals as goal

pub returns : goal.returns
returns c =
    let test = vertex_fits (seen c.args.self.mesh) in
    every_from_all _ test c.args.self.mesh.header.now.count c.all.result c.all.ensures.ran (λ x b q k. search (rules, tests))
