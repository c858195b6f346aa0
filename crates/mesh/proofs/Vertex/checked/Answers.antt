use Rattle.std.proofs.Common.{rules}
use Rattle.mesh.proofs.Vertices.{same_checked}
use Rattle.mesh.proofs.Vertex.checked.Goals as goal

pub returns : goal.returns
returns c = same_checked _ _ (search rules) (search rules) (search rules)
