use Rattle.std.proofs.Common.{rules, tests}
use Rattle.arith.proofs.Chains.{first_from_any}
use Rattle.mesh.specs.Meshes.{seen}
use Rattle.mesh.specs.Sound.{stands_at, is_occupied}
use Rattle.mesh.proofs.views.RoomyMesh.is_occupied.Goals as goal

pub returns : goal.returns
unfolding is_occupied
returns c =
    first_from_any _ (stands_at (seen c.args.self.mesh) c.args.w) c.args.self.mesh.header.now.count c.any.result c.any.ensures.ran (λ x b q k. search (rules, tests))
