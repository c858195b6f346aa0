use Rattle.std.proofs.Common.{arith, rules}
use Rattle.mesh.specs.Meshes.{previous}
use Rattle.mesh.proofs.previous.Goals as goal

pub returns-then-s-eq0 : goal.returns-then-s-eq0
unfolding previous
returns-then-s-eq0 c = record { value = search rules; face = omega arith }

pub returns-else-s-eq0 : goal.returns-else-s-eq0
unfolding previous
returns-else-s-eq0 c = record { value = search rules; face = omega arith }
