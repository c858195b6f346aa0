use Rattle.std.proofs.Common.{length}
use Rattle.mesh.specs.Meshes.{lent, SameLoan}
use Rattle.job.specs.Settings.{SameSettings}
use Rattle.job.specs.Rule.{state_of}
use Rattle.text.proofs.Loads.{Midway}
use Rattle.text.proofs.load.add_lines.Given as goal

abbrev pub invariant-loop-rest : goal.invariant-loop-rest
invariant-loop-rest g l =
    Midway (g.C.Cost.parts l.initial.job.cost) g.L.Worklist.order l.initial.job.lookahead
    (state_of (lent l.initial.mesh) (g.L.Worklist.waiting l.initial.job.worklist))
    l.columns l.text
    (state_of (lent l.mesh) (g.L.Worklist.waiting l.job.worklist))
    l.added l.rest
    × SameLoan l.initial.mesh l.mesh × SameSettings l.initial.job l.job

abbrev pub decreases-loop-rest : goal.decreases-loop-rest
decreases-loop-rest g l = length l.rest
