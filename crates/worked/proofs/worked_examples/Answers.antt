use Rattle.worked.proofs.Computed.{worked, square_cost}
use Rattle.worked.proofs.worked_examples.Goals as goal

pub returns : goal.returns
returns c = record { examples = worked; cost = square_cost }
