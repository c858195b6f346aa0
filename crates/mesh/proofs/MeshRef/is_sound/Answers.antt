use Rattle.std.proofs.Common.{◌∙◌}
use Rattle.mesh.specs.Meshes.{seen}
use Rattle.mesh.proofs.Decide.{decided}
use Rattle.mesh.proofs.MeshRef.is_sound.Goals as goal

pub returns-clause-decides : goal.returns-clause-decides
returns-clause-decides c = decided (seen c.args.self) c.is_ok.result (c.is_ok.ensures.value ∙ c.sound.ensures.test)
