use Rattle.cost.proofs.Multiples.{scaled_multiplies}
use Rattle.cost.proofs.laws.scaled_multiplies.Goals as goal

pub returns : goal.returns
returns c = scaled_multiplies
