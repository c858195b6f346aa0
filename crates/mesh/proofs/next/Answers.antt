use Rattle.std.proofs.Common.{arith, rules}
use Rattle.mesh.specs.Meshes.{next}
use Rattle.mesh.proofs.next.Goals as goal

pub returns-then-s-eq2 : goal.returns-then-s-eq2
unfolding next
returns-then-s-eq2 c = record { value = search rules; face = omega arith }

pub returns-else-s-eq2 : goal.returns-else-s-eq2
unfolding next
returns-else-s-eq2 c = record { value = search rules; face = omega arith }
