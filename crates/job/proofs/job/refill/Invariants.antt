use Rattle.arith.specs.Ranges.{select}
use Rattle.mesh.specs.Meshes.{seen, is_edge_number}
use Rattle.worklist.specs.Orders.{Refilled}
use Rattle.job.proofs.job.refill.Given as goal

abbrev pub invariant-loop-s : goal.invariant-loop-s
invariant-loop-s g l = let w = g.L.Worklist in Refilled w.order (select (is_edge_number (seen l.mesh.mesh)) l.s) (w.waiting l.worklist)
