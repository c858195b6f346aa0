-- What no call changes of a job.
use Rattle.std.specs.Prelude.{◌≡◌}
use Rattle.job.specs.declared.job.Job.{Job}

-- the cost and the lookahead stay
pub record SameSettings {C L : Type 0} (old new : Job C L) : Type 0 where
  pub cost : new.cost ≡ old.cost
  pub lookahead : new.lookahead ≡ old.lookahead
