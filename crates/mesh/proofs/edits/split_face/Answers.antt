use Rattle.mesh.specs.Edits.{split_face}
use Rattle.mesh.proofs.edits.split_face.Goals as goal

pub returns : goal.returns
unfolding split_face
returns c = cc
