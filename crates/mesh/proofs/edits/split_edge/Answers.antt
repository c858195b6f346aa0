use Rattle.mesh.specs.Edits.{split_edge}
use Rattle.mesh.proofs.edits.split_edge.Goals as goal

pub returns : goal.returns
unfolding split_edge
returns c = cc
