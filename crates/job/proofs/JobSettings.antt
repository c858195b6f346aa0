-- Settings that stay over two calls.
use Rattle.std.proofs.Common.{◌∙◌}
use Rattle.job.specs.declared.job.Job.{Job}
use Rattle.job.specs.Settings.{SameSettings}

pub then_settings : {C L : Type 0} {a b c : Job C L} → SameSettings a b → SameSettings b c → SameSettings a c
then_settings p q = record { cost = q.cost ∙ p.cost; lookahead = q.lookahead ∙ p.lookahead }
