use Rattle.mesh.specs.Edits.{laid}
use Rattle.mesh.proofs.edits.lay.Goals as goal

pub returns-clause-after : goal.returns-clause-after
unfolding laid
returns-clause-after c = cc
