use Rattle.cost.proofs.Multiples.{joint_adds}
use Rattle.cost.proofs.laws.joint_adds.Goals as goal

pub returns : goal.returns
returns c = joint_adds
