use Rattle.editing.specs.Flips.{turned}
use Rattle.editing.proofs.flips.flip.Goals as goal

pub returns : goal.returns
unfolding turned
returns c = cc
