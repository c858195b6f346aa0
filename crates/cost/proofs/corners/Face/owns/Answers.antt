use Rattle.std.proofs.Common.{rules}
use Rattle.cost.specs.Costs.{face_owns}
use Rattle.cost.proofs.corners.Face.owns.Goals as goal

pub returns : goal.returns
unfolding face_owns
returns c = search rules
