use Rattle.std.proofs.Common.{sym}
use Rattle.std.proofs.lemmas.Bool.{cond-true, cond-false}
use Rattle.mesh.specs.Edits.{moved}
use Rattle.mesh.proofs.Twins.{twin_some, twin_none}
use Rattle.mesh.proofs.edits.put.Goals as goal

pub returns-in-Some : goal.returns-in-Some
unfolding moved
returns-in-Some c = let p = twin_some c.args.one c.in-Some.twin c.in-Some.ensures in rw p.0 (sym (cond-false _ _ _ p.1))

pub returns-in_default : goal.returns-in_default
unfolding moved
returns-in_default c = sym (cond-true _ _ _ (twin_none c.args.one c.in_default.ensures))
